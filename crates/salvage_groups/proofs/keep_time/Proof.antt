use borrow.Author.Rules.{rules}
use Rattle.salvage_run.specs.Tape.{put_at}
use mathlib.Core.Path.{refl, ap, ◌∙◌}
use Rattle.salvage_groups.proofs.Turns.{kept_no, kept_yes}
use Rattle.format.specs.Group.{group_time}
use Rattle.salvage_groups.proofs.keep_time.Statement.{statement}
use Rattle.salvage_groups.proofs.keep_time.Tie as tie
use Rattle.salvage_groups.proofs.keep_time.Reads as reads
use Rattle.salvage_groups.proofs.keep_time.Lts as lts
use Rattle.group_read.proofs.group_time.Reads as group-time-reads
use Rattle.salvage_run.proofs.put_at.Reads as put-at-reads

group_time-requires : tie.Need-group_time-requires
group_time-requires c κs = search rules

put_at-requires : tie.Need-put_at-requires
put_at-requires c κs = search rules

overflow_add-result : tie.Need-overflow_add-result
overflow_add-result c = search rules

shape_of-times-then-plan : tie.Need-shape_of-times-then-plan
shape_of-times-then-plan c = search rules

returns-then-plan : tie.Need-returns-then-plan
returns-then-plan c =
    let a = c.args in
    let k = kept_yes a.plan a.at (group_time a.plan a.group.now 0) a.times.now c.if-plan.true in
    (k.0, c.put_at.ensures ∙ ap (put_at a.times.now a.at) c.group_time.ensures ∙ k.1)

returns : tie.Need-returns
returns c = let a = c.args in kept_no a.plan a.at (group_time a.plan a.group.now 0) a.times.now c.if-plan.false

pub keep_time_spec : {M : Type 1} → statement M
keep_time_spec =
    tie.close
    (tie.spec group_time-requires put_at-requires overflow_add-result shape_of-times-then-plan returns-then-plan returns)
