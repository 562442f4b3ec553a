use borrow.Author.Tests.{eq-eqb, ne_eqb}
use Rattle.notices.proofs.or_first.Statement.{statement}
use Rattle.notices.proofs.or_first.Tie as tie
use Rattle.notices.proofs.or_first.Reads as reads
use Rattle.notices.proofs.or_first.Lts as lts

returns-then-old-eq0 : tie.Need-returns-then-old-eq0
returns-then-old-eq0 c = rw (eq-eqb _ 0 c.if-old-eq0.true)

returns-else-old-eq0 : tie.Need-returns-else-old-eq0
returns-else-old-eq0 c = rw (ne_eqb _ 0 c.if-old-eq0.false)

pub or_first_spec : {M : Type 1} → statement M
or_first_spec = tie.close (tie.spec returns-then-old-eq0 returns-else-old-eq0)
