use borrow.Author.Tests.{eq-eqb, ne_eqb, le-leb, lt-leb}
use Rattle.notices.specs.Table.{earlier}
use borrow.Author.Rules.{rules}
use Rattle.notices.proofs.earlier.Statement.{statement}
use Rattle.notices.proofs.earlier.Tie as tie
use Rattle.notices.proofs.earlier.Reads as reads
use Rattle.notices.proofs.earlier.Lts as lts

returns-then-a-eq0 : tie.Need-returns-then-a-eq0
unfolding earlier
returns-then-a-eq0 c = rw (eq-eqb _ _ c.if-a-eq0.true)

returns-then-b-eq0 : tie.Need-returns-then-b-eq0
unfolding earlier
returns-then-b-eq0 c = rw (ne_eqb _ _ c.if-a-eq0.false, eq-eqb _ _ c.if-b-eq0.true)

returns-then-a-b : tie.Need-returns-then-a-b
unfolding earlier
returns-then-a-b c = rw (ne_eqb _ _ c.if-a-eq0.false, ne_eqb _ _ c.if-b-eq0.false, le-leb _ _ c.if-a-b.true)

returns-else-a-b : tie.Need-returns-else-a-b
unfolding earlier
returns-else-a-b c = rw (ne_eqb _ _ c.if-a-eq0.false, ne_eqb _ _ c.if-b-eq0.false, lt-leb _ _ c.if-a-b.false)

pub earlier_spec : {M : Type 1} → statement M
earlier_spec = tie.close (tie.spec returns-then-a-eq0 returns-then-b-eq0 returns-then-a-b returns-else-a-b)
