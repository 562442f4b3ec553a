use Rattle.log_events.proofs.Marks.{first_verdict}
use Rattle.log_events.specs.Refused.{bounded_by, first_of}
use Rattle.log_rules.specs.Replay.{first_mark}
use Rattle.log_rules.specs.Items.{items_of}
use Rattle.format.specs.Log.{on_no_plan, parsed}
use mathlib.Core.Path.{ap₂, ◌∙◌}
use borrow.Author.Rules.{rules}
use Rattle.log_events.proofs.refusals.judge.Statement.{statement}
use Rattle.log_events.proofs.refusals.judge.Tie as tie

first_mark-mark-requires : tie.Need-first_mark-mark-requires
first_mark-mark-requires c κs = search rules

in_bounds-requires : tie.Need-in_bounds-requires
in_bounds-requires c κs = search rules

first_of-requires : tie.Need-first_of-requires
first_of-requires c κs = search rules

returns : tie.Need-returns
returns c =
    let bounds = c.before in
    let first = bounds.before in
    let a = first.args in
    c.first_of.ensures ∙ ap₂ first_of first.first_mark-mark.ensures bounds.in_bounds.ensures
    ∙ first_verdict (first_mark 0 (items_of (parsed on_no_plan a.log.now))) (bounded_by a.events.now a.capacity a.slots a.count)

pub judge_spec : {M : Type 1} → statement M
judge_spec = tie.close (tie.spec first_mark-mark-requires in_bounds-requires first_of-requires returns)
