use borrow.Author.Tests.{ne_eqb}
use borrow.Author.Rules.{rules}
use Rattle.stream_state.proofs.arinc_words.Statement.{statement}
use Rattle.stream_state.proofs.arinc_words.Tie as tie
use Rattle.stream_state.proofs.arinc_words.Reads as reads
use Rattle.stream_state.proofs.arinc_words.Lts as lts
use Rattle.stream_state.proofs.word.Reads as word-reads

overflow_cast-channel : tie.Need-overflow_cast-channel
overflow_cast-channel c = search rules

overflow_mul-channel : tie.Need-overflow_mul-channel
overflow_mul-channel c = search rules

overflow_add-channel : tie.Need-overflow_add-channel
overflow_add-channel c = search rules

overflow_cast-both : tie.Need-overflow_cast-both
overflow_cast-both c = search rules

word-first-requires : tie.Need-word-first-requires
word-first-requires c κs = search rules

overflow_mul-channel-2 : tie.Need-overflow_mul-channel-2
overflow_mul-channel-2 c = search rules

overflow_add-channel-2 : tie.Need-overflow_add-channel-2
overflow_add-channel-2 c = search rules

overflow_cast-both-2 : tie.Need-overflow_cast-both-2
overflow_cast-both-2 c = search rules

word-second-requires : tie.Need-word-second-requires
word-second-requires c κs = search rules

returns-then-stage-eq7 : tie.Need-returns-then-stage-eq7
returns-then-stage-eq7 c = rw (c.word-first.ensures, c.word-second.ensures, c.if-stage-eq7.true)

word-high-requires : tie.Need-word-high-requires
word-high-requires c κs = search rules

returns-then-stage-eq6 : tie.Need-returns-then-stage-eq6
returns-then-stage-eq6 c = rw (c.word-first.ensures, c.word-second.ensures, c.word-high.ensures, c.if-stage-eq6.true)

word-high-requires-2 : tie.Need-word-high-requires-2
word-high-requires-2 c κs = search rules

word-low-requires : tie.Need-word-low-requires
word-low-requires c κs = search rules

returns : tie.Need-returns
returns c = let two = c.before.before.before.before in
    let left = c.before.before in
    rw (two.word-first.ensures, two.word-second.ensures, c.word-high-2.ensures, c.word-low.ensures, ne_eqb _ _ left.if-stage-eq7.false, ne_eqb _ _ left.if-stage-eq6.false)

pub arinc_words_spec : {M : Type 1} → statement M
arinc_words_spec =
    tie.close
    (tie.spec
    overflow_cast-channel
    overflow_mul-channel
    overflow_add-channel
    overflow_cast-both
    word-first-requires
    overflow_mul-channel-2
    overflow_add-channel-2
    overflow_cast-both-2
    word-second-requires
    returns-then-stage-eq7
    word-high-requires
    returns-then-stage-eq6
    word-high-requires-2
    word-low-requires
    returns)
