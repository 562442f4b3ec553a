use borrow.Author.Tests.{ne_eqb}
use borrow.Author.Rules.{rules}
use Rattle.stream_state.proofs.command_words.Statement.{statement}
use Rattle.stream_state.proofs.command_words.Tie as tie
use Rattle.stream_state.proofs.command_words.Reads as reads
use Rattle.stream_state.proofs.command_words.Lts as lts
use Rattle.stream_state.proofs.command_label.Reads as command-label-reads
use Rattle.stream_state.proofs.word.Reads as word-reads

command_label-label-requires : tie.Need-command_label-label-requires
command_label-label-requires c κs = search rules

overflow_cast-base : tie.Need-overflow_cast-base
overflow_cast-base c = search rules

word-first-requires : tie.Need-word-first-requires
word-first-requires c κs = search rules

returns-then-stage-eq7 : tie.Need-returns-then-stage-eq7
returns-then-stage-eq7 c = rw (c.word-first.ensures, c.command_label-label.ensures, c.if-stage-eq7.true)

word-high-requires : tie.Need-word-high-requires
word-high-requires c κs = search rules

returns-then-stage-eq6 : tie.Need-returns-then-stage-eq6
returns-then-stage-eq6 c = rw (c.word-first.ensures, c.command_label-label.ensures, c.word-high.ensures, c.if-stage-eq6.true)

word-high-requires-2 : tie.Need-word-high-requires-2
word-high-requires-2 c κs = search rules

word-low-requires : tie.Need-word-low-requires
word-low-requires c κs = search rules

returns : tie.Need-returns
returns c = let one = c.before.before.before.before in
    let left = c.before.before in
    rw (one.word-first.ensures, one.command_label-label.ensures, c.word-high-2.ensures, c.word-low.ensures, ne_eqb _ _ left.if-stage-eq7.false, ne_eqb _ _ left.if-stage-eq6.false)

pub command_words_spec : {M : Type 1} → statement M
command_words_spec =
    tie.close
    (tie.spec
    command_label-label-requires
    overflow_cast-base
    word-first-requires
    returns-then-stage-eq7
    word-high-requires
    returns-then-stage-eq6
    word-high-requires-2
    word-low-requires
    returns)
