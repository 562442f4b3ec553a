use Rattle.format.specs.Plan.{rows}
use native.Mathlib.Omega.{arith}
use borrow.Author.Rules.{rules}
use Rattle.group_write.proofs.dealt_rows.Statement.{statement}
use Rattle.group_write.proofs.dealt_rows.Tie as tie

overflow_sub-result : tie.Need-overflow_sub-result
overflow_sub-result c = search rules

overflow_sub-result-else-plan : tie.Need-overflow_sub-result-else-plan
overflow_sub-result-else-plan c = search rules

returns-then-plan : tie.Need-returns-then-plan
unfolding rows
returns-then-plan c = rw c.if-plan.true (omega arith)

returns-else-plan : tie.Need-returns-else-plan
unfolding rows
returns-else-plan c = rw c.if-plan.false (omega arith)

pub dealt_rows_spec : {M : Type 1} → statement M
dealt_rows_spec = tie.close (tie.spec overflow_sub-result overflow_sub-result-else-plan returns-then-plan returns-else-plan)
