use mathlib.Core.Path.{◌≡◌, sym, ap, ap₂, ◌∙◌}
use Prim.Native.Nat.{ℕ, ◌+◌}
use native.Mathlib.Omega.{arith}
use borrow.Author.Rules.{rules}
use Rattle.format.specs.Laws.Limits.{room}
use Rattle.format.specs.Plan.{place_of}
use Rattle.format.specs.declared.Plan.{Plan}
use Rattle.group_read.specs.Faults.{fault_of, earlier_fault}
use Rattle.group_read.proofs.Places.{place_room}
use Rattle.group_read.proofs.Times.{no_time_fault, time_word_at_lem, time_faults}
use Rattle.group_read.proofs.time_fault.Statement.{statement}
use Rattle.group_read.proofs.time_fault.Tie as tie

at_0 : (p : Plan) (s : ℕ) {q : ℕ} → q ≡ place_of p s → q ≡ 0 + place_of p s
at_0 p s e = omega arith

abbrev entry : tie.Then-plan → tie.Start
entry c = c.before.before

-- where the second and the third word's place is told, and where all three words were looked at
abbrev second : tie.After-place_of-then-plan → tie.Then-plan
second c = c.before.before.before

abbrev third : tie.After-place_of-then-plan-2 → tie.Then-plan
third c = second c.before.before

place_of-requires : tie.Need-place_of-requires
place_of-requires c κs = let s = entry c in (s.requires.0, omega (arith, room s.args.plan s.requires.0))

time_word_fault-high-requires : tie.Need-time_word_fault-high-requires
time_word_fault-high-requires c κs = let s = entry c.before in place_room s.args.plan s.requires.0 _ s.requires.1 c.place_of.ensures.1

place_of-requires-then-plan : tie.Need-place_of-requires-then-plan
place_of-requires-then-plan c κs = let s = entry c.before.before in (s.requires.0, omega (arith, room s.args.plan s.requires.0))

time_word_fault-low-requires : tie.Need-time_word_fault-low-requires
time_word_fault-low-requires c κs = let s = entry (second c) in place_room s.args.plan s.requires.0 _ s.requires.1 c.place_of-then-plan.ensures.1

place_of-requires-then-plan-2 : tie.Need-place_of-requires-then-plan-2
place_of-requires-then-plan-2 c κs = let s = entry (second c.before) in (s.requires.0, omega (arith, room s.args.plan s.requires.0))

time_word_fault-micro-requires : tie.Need-time_word_fault-micro-requires
time_word_fault-micro-requires c κs = let s = entry (third c) in place_room s.args.plan s.requires.0 _ s.requires.1 c.place_of-then-plan-2.ensures.1

earlier-requires : tie.Need-earlier-requires
earlier-requires c κs = search rules

earlier-requires-then-plan : tie.Need-earlier-requires-then-plan
earlier-requires-then-plan c κs = search rules

returns-then-plan : tie.Need-returns-then-plan
returns-then-plan c =
    let micro = c.before.before in
    let low = micro.before.before in
    let high = low.before.before in
    let then = high.before.before in
    let p = (entry then).args.plan in
    let g = (entry then).args.group.now in
    c.earlier-then-plan.ensures
    ∙ ap₂ earlier_fault (time_word_at_lem p g 0 0 7 65536 _ high.time_word_fault-high.ensures (at_0 p 0 high.place_of.ensures.0))
    (c.earlier.ensures
    ∙ ap₂ earlier_fault (time_word_at_lem p g 0 1 6 65536 _ low.time_word_fault-low.ensures (at_0 p 1 low.place_of-then-plan.ensures.0))
    (time_word_at_lem p g 0 2 5 10000 _ micro.time_word_fault-micro.ensures (at_0 p 2 micro.place_of-then-plan-2.ensures.0)))
    ∙ time_faults p g 0 then.if-plan.true

no_fault-requires : tie.Need-no_fault-requires
no_fault-requires c κs = search rules

returns : tie.Need-returns
returns c = c.no_fault.ensures ∙ sym (ap fault_of (no_time_fault _ _ _ c.if-plan.false))

pub time_fault_spec : {M : Type 1} → statement M
time_fault_spec =
    tie.close
    (tie.spec
    place_of-requires
    time_word_fault-high-requires
    place_of-requires-then-plan
    time_word_fault-low-requires
    place_of-requires-then-plan-2
    time_word_fault-micro-requires
    earlier-requires
    earlier-requires-then-plan
    returns-then-plan
    no_fault-requires
    returns)
