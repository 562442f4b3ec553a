use borrow.Author.Tests.{eq-eqb, ne_eqb}
use borrow.Author.Rules.{rules}
use Rattle.format.specs.Word.{is_fill}
use Rattle.word.proofs.is_fill.Statement.{statement}
use Rattle.word.proofs.is_fill.Tie as tie

label_of-requires : tie.Need-label_of-requires
label_of-requires c κs = search rules

information_of-requires : tie.Need-information_of-requires
information_of-requires c κs = search rules

returns-then-label_of-eq1 : tie.Need-returns-then-label_of-eq1
unfolding is_fill
returns-then-label_of-eq1 c = rw (← c.label_of.ensures, ← c.information_of.ensures, eq-eqb _ _ c.if-label_of-eq1.true)

returns-else-label_of-eq1 : tie.Need-returns-else-label_of-eq1
unfolding is_fill
returns-else-label_of-eq1 c = rw (← c.label_of.ensures, ne_eqb _ _ c.if-label_of-eq1.false)

pub is_fill_spec : {M : Type 1} → statement M
is_fill_spec = tie.close (tie.spec label_of-requires information_of-requires returns-then-label_of-eq1 returns-else-label_of-eq1)
