use Rattle.log_replay.proofs.Giving.{ready_of, replayed_refused}
use Rattle.log_events.proofs.Marks.{may_none, not_found}
use Rattle.log_events.specs.Refused.{refused_by}
use Rattle.format.specs.Group.{found}
use Rattle.format.specs.Log.{on_no_plan, parsed}
use lib.ListN.{length}
use mathlib.Core.Path.{◌≡◌, refl, sym, ◌∙◌}
use borrow.Author.Rules.{rules}
use Rattle.log_replay.proofs.replay.Statement.{statement}
use Rattle.log_replay.proofs.replay.Tie as tie

refused_by-requires : tie.Need-refused_by-requires
refused_by-requires c κs = search rules

enum_told-1 : tie.Need-enum_told-1
enum_told-1 c = search rules

replay_sized-requires : tie.Need-replay_sized-requires
replay_sized-requires c κs =
    let verdict = c.before.before in
    let a = verdict.args in
    ready_of a.log.now a.events.now a.capacity a.slots
    (may_none (refused_by a.events.now a.capacity a.slots (parsed on_no_plan a.log.now)) (sym c.in-May.is ∙ verdict.refused_by.ensures))

enum_known-number : tie.Need-enum_known-number
enum_known-number c = search rules

deny-requires : tie.Need-deny-requires
deny-requires c κs = search rules

shape_of-out : tie.Need-shape_of-out
shape_of-out c = search rules

returns-in-May : tie.Need-returns-in-May
returns-in-May c = c.replay_sized.ensures

returns-in-Not : tie.Need-returns-in-Not
returns-in-Not c =
    let verdict = c.before.before in
    let a = verdict.args in
    let by = refused_by a.events.now a.capacity a.slots (parsed on_no_plan a.log.now) in
    let told : by ≡ found _ _ = not_found by _ _ (sym c.in-Not.is ∙ verdict.refused_by.ensures) in
    rw (replayed_refused a.log.now a.events.now a.capacity a.slots (length a.out.now) _ _ told)
    (c.deny.ensures, refl)

pub replay_spec : {M : Type 1} → statement M
replay_spec =
    tie.close
    (tie.spec
    refused_by-requires
    enum_told-1
    replay_sized-requires
    enum_known-number
    deny-requires
    shape_of-out
    returns-in-May
    returns-in-Not)
