use borrow.Author.Tests.{eq-eqb, ne_eqb}
use Rattle.group_read.proofs.earlier_number.Statement.{statement}
use Rattle.group_read.proofs.earlier_number.Tie as tie

returns-then-first-eq0 : tie.Need-returns-then-first-eq0
returns-then-first-eq0 c = simp (eq-eqb _ _ c.if-first-eq0.true)

returns-else-first-eq0 : tie.Need-returns-else-first-eq0
returns-else-first-eq0 c = simp (ne_eqb _ _ c.if-first-eq0.false)

pub earlier_number_spec : {M : Type 1} → statement M
earlier_number_spec = tie.close (tie.spec returns-then-first-eq0 returns-else-first-eq0)
