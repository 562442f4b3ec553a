use Prim.Native.Nat.{ℕ, ◌*◌, ◌≤◌}
use native.Mathlib.Omega.{arith}
use borrow.Author.Rules.{rules}
use mathlib.Core.Path.{sym, subst}
use mathlib.Core.List.{List}
use Rattle.format.specs.Plan.{slots, stored_at}
use Rattle.format.specs.Read.{finish}
use Rattle.format.specs.Laws.Limits.{free}
use Rattle.format.specs.Laws.Word.Bytes.{all_bytes}
use Rattle.format.specs.declared.Plan.{Plan}
use Rattle.data_word.specs.Holding.{held_of}
use Rattle.data_word.specs.Meaning.{Closes}
use Rattle.data_word.proofs.Meaning.{finish_means}
use Rattle.data_run.specs.declared.Pass.{Pass}
use Rattle.read_groups.specs.Groups.{Through}
use Rattle.data_run.proofs.Closing.{closing_fits, closed_bits}
use Rattle.read_groups.proofs.End.{ends_stopped, ends_cut, ends_log}
use Rattle.read_groups.proofs.read_groups.Statement.{statement}
use Rattle.read_groups.proofs.read_groups.Tie as tie
use Rattle.capture_parts.proofs.Part.{numbers_few}

-- ---- the places

-- the walk is over
abbrev Walked : Type 0
Walked = tie.After-walk_groups-walk

abbrev start : Walked → tie.Start
start c = c.before.before.before.before

abbrev plan : Walked → Plan
plan c = (start c).args.plan

abbrev pass : Walked → Pass
pass c = c.walk_groups-walk.result.pass

abbrev out : Walked → List ℕ
out c = c.walk_groups-walk.new.out

-- all groups were passed
abbrev All : Type 0
All = tie.Else-walk-ne0

abbrev walked : All → Walked
walked c = c.before.before.before.before

through : (c : All) → Through (start (walked c)).args.kinds (plan (walked c)) (start (walked c)).args.capture.now (start (walked c)).args.groups
    (start (walked c)).args.out.now (pass (walked c)) (out (walked c))
through c = (walked c).walk_groups-walk.ensures.through c.if-walk-ne0.false

few : (c : All) → (start (walked c)).args.groups * slots (plan (walked c)) ≤ 349525
few c = let s = start (walked c) in numbers_few s.args.plan s.requires.0.0 s.args.groups _ s.requires.1.0 s.requires.1.1

-- what is held is finished, or cut
abbrev Finished : Type 0
Finished = tie.After-finish-step

abbrev all : Finished → All
all c = c.before.before.before

abbrev since : Finished → ℕ
since c = stored_at (plan (walked (all c))) (pass (walked (all c))).since

closes : (c : Finished) → Closes (finish (held_of (pass (walked (all c))).held) (since c)) c.finish-step.result
closes c =
    subst (Closes (finish (held_of (pass (walked (all c))).held) (since c))) (sym (c.finish-step.ensures (since c)))
    (finish_means (pass (walked (all c))).held (through (all c)).brought.sound.sane (since c))

-- its bits are put
abbrev Put : Type 0
Put = tie.After-put_step-pen

abbrev good : Put → tie.Else-step
good c = c.before.before.before

abbrev finished : Put → Finished
finished c = (good c).before

-- ---- the needs

walk_groups-walk-requires : tie.Need-walk_groups-walk-requires
walk_groups-walk-requires c κs = let s = c.before.before.before in (s.requires.0, s.requires.1)

shape_of-out-then-walk-ne0 : tie.Need-shape_of-out-then-walk-ne0
shape_of-out-then-walk-ne0 c = search rules

returns-then-walk-ne0 : tie.Need-returns-then-walk-ne0
returns-then-walk-ne0 c = ends_stopped _ _ _ _ _ _ c.walk_groups-walk.ensures c.if-walk-ne0.true

finish-step-requires : tie.Need-finish-step-requires
finish-step-requires c κs = (through c.before.before).brought.sound.sane

stored_place-first-requires : tie.Need-stored_place-first-requires
stored_place-first-requires c κs =
    let a = all c.before in
    let s = start (walked a) in
    (s.requires.0.0, s.requires.0.1, omega (arith, (through a).low, few a))

shape_of-out-then-step : tie.Need-shape_of-out-then-step
shape_of-out-then-step c = search rules

returns-then-step : tie.Need-returns-then-step
returns-then-step c =
    let f = c.before.before in
    let a = all f in
    ends_cut _ _ _ _ _ _ _ (through a) f.finish-step.result (closes f) _ c.if-step.true c.stored_place-first.ensures

put_step-pen-requires : tie.Need-put_step-pen-requires
put_step-pen-requires c κs =
    let f = c.before.before.before in
    let a = all f in
    (omega (arith, (through a).few, few a), closing_fits (finish (held_of (pass (walked a)).held) (since f)) f.finish-step.result (closes f) c.if-step.false)

close-bytes-requires : tie.Need-close-bytes-requires
close-bytes-requires c κs =
    let p = c.before.before.before in
    let f = finished p in
    let a = all f in
    let b = closed_bits _ _ _ _ _ (through a).brought (since f) f.finish-step.result (closes f) (good p).if-step.false in
    rw p.put_step-pen.ensures.0 (omega (arith, b, (through a).few, few a))

shape_of-out : tie.Need-shape_of-out
shape_of-out c = search rules

returns : tie.Need-returns
returns c =
    let closed = c.before.before in
    let p = closed.before.before.before.before in
    let f = finished p in
    let a = all f in
    let s = start (walked a) in
    let e = p.put_step-pen.ensures in
    ends_log _ _ _ _ _ _ _ (through a) f.finish-step.result (closes f) (good p).if-step.false (free s.args.plan s.requires.0.0)
    (all_bytes s.args.capture.now (λ i. omega (arith, (walked a).shared_slice_known-1.given i))) ((walked a).walk_groups-walk.ensures.notice a.if-walk-ne0.false)
    (rw (← e.0) closed.close-bytes.ensures.0)
    (rw (← e.0, ← e.1) closed.close-bytes.ensures.1)

pub read_groups_spec : {M : Type 1} → statement M
read_groups_spec =
    tie.close
    (tie.spec
    walk_groups-walk-requires
    shape_of-out-then-walk-ne0
    returns-then-walk-ne0
    finish-step-requires
    stored_place-first-requires
    shape_of-out-then-step
    returns-then-step
    put_step-pen-requires
    close-bytes-requires
    shape_of-out
    returns)
