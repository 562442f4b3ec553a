use Rattle.format.specs.Plan.{lead}
use native.Mathlib.Omega.{arith}
use borrow.Author.Rules.{rules}
use Rattle.group_write.proofs.lead_count.Statement.{statement}
use Rattle.group_write.proofs.lead_count.Tie as tie

returns-then-plan : tie.Need-returns-then-plan
unfolding lead
returns-then-plan c = (rw c.if-plan.true, omega arith)

returns-else-plan : tie.Need-returns-else-plan
unfolding lead
returns-else-plan c = (rw c.if-plan.false, omega arith)

pub lead_count_spec : {M : Type 1} → statement M
lead_count_spec = tie.close (tie.spec returns-then-plan returns-else-plan)
