use borrow.Author.Rules.{rules}
use Rattle.format.specs.Plan.{lead}
use Rattle.group_read.proofs.lead.Statement.{statement}
use Rattle.group_read.proofs.lead.Tie as tie

returns-then-plan : tie.Need-returns-then-plan
unfolding lead
returns-then-plan c = search rules

returns-else-plan : tie.Need-returns-else-plan
unfolding lead
returns-else-plan c = search rules

pub lead_spec : {M : Type 1} → statement M
lead_spec = tie.close (tie.spec returns-then-plan returns-else-plan)
