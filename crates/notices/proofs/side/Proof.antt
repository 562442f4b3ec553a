use native.Mathlib.Omega.{arith}
use borrow.Author.Rules.{rules}
use Rattle.notices.proofs.side.Statement.{statement}
use Rattle.notices.proofs.side.Tie as tie
use Rattle.notices.proofs.side.Reads as reads
use Rattle.notices.proofs.side.Lts as lts

overflow_sub-result : tie.Need-overflow_sub-result
overflow_sub-result c = search rules

returns-then-ones : tie.Need-returns-then-ones
returns-then-ones c = (rw c.if-ones.true, c.requires)

returns-else-ones : tie.Need-returns-else-ones
returns-else-ones c = (rw c.if-ones.false, omega arith)

pub side_spec : {M : Type 1} → statement M
side_spec = tie.close (tie.spec overflow_sub-result returns-then-ones returns-else-ones)
