use Prim.Native.Nat.{◌<◌}
use mathlib.Core.Path.{◌∙◌}
use native.Mathlib.Omega.{arith}
use Rattle.stream_state.proofs.HeldWords.{answer_words, arinc_row, command_row, half_words, none_words}
use borrow.Author.Rules.{rules}
use Rattle.stream_state.proofs.held_words.Statement.{statement}
use Rattle.stream_state.proofs.held_words.Tie as tie
use Rattle.stream_state.proofs.held_words.Reads as reads
use Rattle.stream_state.proofs.held_words.Lts as lts
use Rattle.stream_state.proofs.arinc_words.Reads as arinc-words-reads
use Rattle.stream_state.proofs.command_words.Reads as command-words-reads
use Rattle.stream_state.proofs.word.Reads as word-reads

returns-then-awaits-eq0 : tie.Need-returns-then-awaits-eq0
returns-then-awaits-eq0 c = none_words c.args.held c.if-awaits-eq0.true

word-answer-requires : tie.Need-word-answer-requires
word-answer-requires c κs = search rules

returns-then-awaits-ge256 : tie.Need-returns-then-awaits-ge256
returns-then-awaits-ge256 c = answer_words c.args.held c.word-answer.result c.if-awaits-eq0.false c.if-awaits-ge256.true c.word-answer.ensures

overflow_add-stage : tie.Need-overflow_add-stage
overflow_add-stage c = search rules

overflow_cast-base : tie.Need-overflow_cast-base
overflow_cast-base c = search rules

word-high-requires : tie.Need-word-high-requires
word-high-requires c κs = search rules

returns-then-stage-ge8 : tie.Need-returns-then-stage-ge8
returns-then-stage-ge8 c = let s = c.before.before.before.before in
    let small = c.before.before in
    half_words s.args.held c.word-high.result s.requires small.if-awaits-eq0.false (omega (arith, small.if-awaits-ge256.false)) c.if-stage-ge8.true c.word-high.ensures

command_words-requires : tie.Need-command_words-requires
command_words-requires c κs = search rules

returns-then-base-lt4294967296 : tie.Need-returns-then-base-lt4294967296
returns-then-base-lt4294967296 c = let s = c.before.before.before.before.before in
    let t = c.before.before in
    let small : s.args.held.awaits < 256 = omega (arith, t.if-awaits-ge256.false) in
    c.command_words.ensures ∙ command_row s.args.held s.requires t.if-awaits-eq0.false small (omega (arith, t.if-stage-ge8.false)) c.if-base-lt4294967296.true

arinc_words-requires : tie.Need-arinc_words-requires
arinc_words-requires c κs = search rules

returns : tie.Need-returns
returns c = let s = c.before.before.before.before.before in
    let t = c.before.before in
    let small : s.args.held.awaits < 256 = omega (arith, t.if-awaits-ge256.false) in
    c.arinc_words.ensures ∙ arinc_row s.args.held s.requires t.if-awaits-eq0.false small (omega (arith, t.if-stage-ge8.false)) (omega (arith, c.if-base-lt4294967296.false))

pub held_words_spec : {M : Type 1} → statement M
held_words_spec =
    tie.close
    (tie.spec
    returns-then-awaits-eq0
    word-answer-requires
    returns-then-awaits-ge256
    overflow_add-stage
    overflow_cast-base
    word-high-requires
    returns-then-stage-ge8
    command_words-requires
    returns-then-base-lt4294967296
    arinc_words-requires
    returns)
