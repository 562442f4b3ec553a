use Rattle.format.specs.Plan.{rows}
use native.Mathlib.Omega.{arith}
use borrow.Author.Rules.{rules}
use Rattle.plan.proofs.rows.Statement.{statement}
use Rattle.plan.proofs.rows.Tie as tie

overflow_sub-result : tie.Need-overflow_sub-result
overflow_sub-result c = search rules

returns-then-plan : tie.Need-returns-then-plan
unfolding rows
returns-then-plan c = rw c.if-plan.true (omega arith)

overflow_sub-result-2 : tie.Need-overflow_sub-result-2
overflow_sub-result-2 c = search rules

returns : tie.Need-returns
unfolding rows
returns c = rw c.if-plan.false (omega arith)

pub rows_spec : {M : Type 1} → statement M
rows_spec = tie.close (tie.spec overflow_sub-result returns-then-plan overflow_sub-result-2 returns)
