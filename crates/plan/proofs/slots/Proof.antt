use Rattle.format.specs.Laws.Limits.{least_rows, most_dealt, dealt_least, dealt_most}
use Rattle.plan.proofs.Sizes.{slots_timed, slots_untimed}
use Prim.Native.Nat.{◌*◌, ◌≤◌}
use Rattle.format.specs.Plan.{rows}
use Rattle.format.specs.declared.Plan.{Plan}
use mathlib.Core.Path.{refl}
use native.Mathlib.Omega.{arith}
use borrow.Author.Rules.{rules}
use Rattle.plan.proofs.slots.Statement.{statement}
use Rattle.plan.proofs.slots.Tie as tie

-- the rows are known
abbrev plan : tie.After-rows → Plan
plan c = c.args.plan

sizes : (c : tie.After-rows) → (least_rows ≤ (plan c).tracks * rows (plan c)) × ((plan c).tracks * rows (plan c) ≤ most_dealt)
sizes c = (dealt_least (plan c) c.requires, dealt_most (plan c) c.requires)

rows-requires : tie.Need-rows-requires
rows-requires c κs = search rules

overflow_mul-dealt : tie.Need-overflow_mul-dealt
overflow_mul-dealt c = rw c.rows.ensures (omega (arith, sizes c.before))

overflow_sub-result : tie.Need-overflow_sub-result
overflow_sub-result c = let r = c.before.before in rw r.rows.ensures (omega (arith, sizes r))

returns-then-plan : tie.Need-returns-then-plan
returns-then-plan c = let r = c.before.before in rw (r.rows.ensures, slots_timed (plan r) c.if-plan.true) (refl, omega (arith, sizes r), omega (arith, sizes r))

returns : tie.Need-returns
returns c = let r = c.before.before in rw (r.rows.ensures, slots_untimed (plan r) c.if-plan.false) (refl, omega (arith, sizes r), omega (arith, sizes r))

pub slots_spec : {M : Type 1} → statement M
slots_spec = tie.close (tie.spec rows-requires overflow_mul-dealt overflow_sub-result returns-then-plan returns)
