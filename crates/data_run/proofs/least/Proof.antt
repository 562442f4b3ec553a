use borrow.Author.Tests.{le-leb, lt-leb}
use mathlib.Core.Path.{refl}
use Rattle.data_run.proofs.least.Statement.{statement}
use Rattle.data_run.proofs.least.Tie as tie

returns-then-a-b : tie.Need-returns-then-a-b
returns-then-a-b c = rw (le-leb _ _ c.if-a-b.true) refl

returns-else-a-b : tie.Need-returns-else-a-b
returns-else-a-b c = rw (lt-leb _ _ c.if-a-b.false) refl

pub least_spec : {M : Type 1} → statement M
least_spec = tie.close (tie.spec returns-then-a-b returns-else-a-b)
