use Rattle.data_start.proofs.Openers.{either_overflow, either_user, either_nothing}
use borrow.Author.Rules.{rules}
use Rattle.data_start.proofs.opens_on_either.Statement.{statement}
use Rattle.data_start.proofs.opens_on_either.Tie as tie

one_word-requires : tie.Need-one_word-requires
one_word-requires c κs = search rules

returns-then-label-eq0 : tie.Need-returns-then-label-eq0
returns-then-label-eq0 c = rw c.one_word.ensures (either_overflow _ c.if-label-eq0.true)

one_word-requires-then-label-eq1 : tie.Need-one_word-requires-then-label-eq1
one_word-requires-then-label-eq1 c κs = search rules

returns-then-label-eq1 : tie.Need-returns-then-label-eq1
returns-then-label-eq1 c = rw c.one_word-then-label-eq1.ensures (either_user _ c.requires.0 c.if-label-eq1.true)

returns : tie.Need-returns
returns c = either_nothing _ c.requires.0 c.requires.1 c.if-label-eq0.false c.if-label-eq1.false

pub opens_on_either_spec : {M : Type 1} → statement M
opens_on_either_spec =
    tie.close (tie.spec one_word-requires returns-then-label-eq0 one_word-requires-then-label-eq1 returns-then-label-eq1 returns)
