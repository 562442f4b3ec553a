use Rattle.format.specs.Compose.{groups_for}
use borrow.Author.Rules.{rules}
use Rattle.plan.proofs.groups_for.Statement.{statement}
use Rattle.plan.proofs.groups_for.Tie as tie

slots-slots-requires : tie.Need-slots-slots-requires
slots-slots-requires c κs = search rules

overflow_add-words : tie.Need-overflow_add-words
overflow_add-words c = search rules

overflow_sub-words : tie.Need-overflow_sub-words
overflow_sub-words c = search rules

quotient-requires : tie.Need-quotient-requires
quotient-requires c κs = search rules

returns : tie.Need-returns
unfolding groups_for
returns c = rw (c.quotient.ensures, c.slots-slots.ensures.0)

pub groups_for_spec : {M : Type 1} → statement M
groups_for_spec = tie.close (tie.spec slots-slots-requires overflow_add-words overflow_sub-words quotient-requires returns)
