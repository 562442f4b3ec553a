use borrow.Author.Tests.{le-leb, lt-leb}
use Rattle.read_from_c.proofs.least.Statement.{statement}
use Rattle.read_from_c.proofs.least.Tie as tie

returns-then-a-b : tie.Need-returns-then-a-b
returns-then-a-b c = rw (le-leb _ _ c.if-a-b.true)

returns : tie.Need-returns
returns c = rw (lt-leb _ _ c.if-a-b.false)

pub least_spec : {M : Type 1} → statement M
least_spec = tie.close (tie.spec returns-then-a-b returns)
