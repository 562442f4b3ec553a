use borrow.Author.Rules.{rules}
use Rattle.salvage_groups.proofs.Turns.{over_first, over_last, over_next, start_moves}
use Rattle.salvage_groups.specs.Reel.{Moves, Reel, over_groups, reel, start_walk}
use Rattle.salvage_groups.specs.declared.Walk.{Walk}
use Rattle.capture_parts.proofs.Part.{group_room}
use lib.ListN.{length}
use mathlib.Core.Path.{◌≡◌, refl, sym, ap, subst, ◌∙◌}
use native.Mathlib.Omega.{arith}
use Prim.Native.Nat.{ℕ, ◌+◌, ◌-◌, ◌≤◌}
use Rattle.salvage_groups.proofs.over_groups.Statement.{statement}
use Rattle.salvage_groups.proofs.over_groups.Tie as tie
use Rattle.salvage_groups.proofs.over_groups.Reads as reads
use Rattle.salvage_groups.proofs.over_groups.Lts as lts
use Rattle.salvage_groups.proofs.on_group.Reads as on-group-reads
use Rattle.salvage_groups.proofs.start_walk.Reads as start-walk-reads

abbrev invariant-loop-index : tie.invariant-loop-index
invariant-loop-index kinds plan count capture groups row₀ out₀ times₀ report₀ walk₀ index₀ row out times report walk index =
    (index ≤ groups) × (length row ≡ length row₀) × (length out ≡ length out₀) × (length times ≡ length times₀) × (length report ≡ length report₀)
    × Moves plan index walk
    × (over_groups kinds plan capture groups 0 (reel start_walk out₀ times₀ report₀) ≡ over_groups kinds plan capture (groups - index) index (reel walk out times report))

abbrev decreases-loop-index : tie.decreases-loop-index
decreases-loop-index kinds plan count capture groups row₀ out₀ times₀ report₀ walk₀ index₀ row out times report walk index = groups - index

-- ---- the places

abbrev AtLoop : Type 0
AtLoop = tie.At-loop-index invariant-loop-index decreases-loop-index

abbrev start : AtLoop → tie.Start invariant-loop-index decreases-loop-index
start c = c.before.before.before.before.before.before.before

abbrev here : AtLoop → Reel
here c = reel c.loop-index.walk c.loop-index.out c.loop-index.times c.loop-index.report

-- in a group
abbrev in_loop : tie.After-on_group-walk invariant-loop-index decreases-loop-index → tie.In-loop-index invariant-loop-index decreases-loop-index
in_loop c = c.before.before.before.before.before

-- it is walked
abbrev walked : tie.After-slice_known-in-loop-index-4-1 invariant-loop-index decreases-loop-index → tie.After-on_group-walk invariant-loop-index decreases-loop-index
walked c = c.before.before.before.before.before.before.before.before

-- ---- the needs

start_walk-walk-requires : tie.Need-start_walk-walk-requires invariant-loop-index decreases-loop-index
start_walk-walk-requires c κs = search rules

loop-index-init : tie.Need-loop-index-init invariant-loop-index decreases-loop-index
loop-index-init c =
    let a = c.args in
    let r : Walk → Reel = λ w. reel w a.out.now a.times.now a.report.now in (
      omega arith,
      refl,
      refl,
      refl,
      refl,
      start_moves a.plan c.start_walk-walk.ensures,
      over_first a.kinds a.plan a.capture.now a.groups (r start_walk)
          ∙ ap (λ (w : Walk). over_groups a.kinds a.plan a.capture.now (a.groups - 0) 0 (r w)) (sym c.start_walk-walk.ensures),
    )

on_group-walk-requires : tie.Need-on_group-walk-requires invariant-loop-index decreases-loop-index
on_group-walk-requires c κs =
    let i = c.before.before.before.before in
    let l = i.before in
    let s = start l in
    let h = i.loop-index-test.true in (
      (s.requires.0.0, s.requires.0.1, omega (arith, l.loop-index.invariant.1, s.requires.0.2 (omega (arith, h))), l.loop-index.invariant.5),
      (group_room s.args.plan s.requires.0.0 s.args.groups l.loop-index.index (length s.args.capture.now) s.requires.1.0 h, s.requires.1.1),
    )

overflow_add-index : tie.Need-overflow_add-index invariant-loop-index decreases-loop-index
overflow_add-index c = let i = in_loop (walked c) in omega (arith, i.loop-index-test.true, (start i.before).ranges.groups)

loop-index-smaller : tie.Need-loop-index-smaller invariant-loop-index decreases-loop-index
loop-index-smaller c = omega (arith, (in_loop (walked c)).loop-index-test.true)

loop-index-preserved : tie.Need-loop-index-preserved invariant-loop-index decreases-loop-index
loop-index-preserved c =
    let g = walked c in
    let i = in_loop g in
    let l = i.before in
    let a = (start l).args in
    let h = i.loop-index-test.true in
    let t = c.before.before.before in
    let o = t.before.before in (
      omega (arith, h),
      o.row-1.given ∙ l.loop-index.invariant.1,
      o.out-1.given ∙ l.loop-index.invariant.2,
      t.times-1.given ∙ l.loop-index.invariant.3,
      c.report-1.given ∙ l.loop-index.invariant.4,
      g.on_group-walk.ensures.1,
      l.loop-index.invariant.6 ∙ over_next a.kinds a.plan a.capture.now a.groups l.loop-index.index (here l) h
          ∙ ap (over_groups a.kinds a.plan a.capture.now (a.groups - (l.loop-index.index + 1)) (l.loop-index.index + 1)) (sym g.on_group-walk.ensures.0),
    )

shape_of-row : tie.Need-shape_of-row invariant-loop-index decreases-loop-index
shape_of-row c = c.loop-index.invariant.1

shape_of-out : tie.Need-shape_of-out invariant-loop-index decreases-loop-index
shape_of-out c = c.loop-index.invariant.2

shape_of-times : tie.Need-shape_of-times invariant-loop-index decreases-loop-index
shape_of-times c = c.loop-index.invariant.3

shape_of-report : tie.Need-shape_of-report invariant-loop-index decreases-loop-index
shape_of-report c = c.loop-index.invariant.4

returns : tie.Need-returns invariant-loop-index decreases-loop-index
returns c =
    let l = c.before in
    let a = (start l).args in
    let e : l.loop-index.index ≡ a.groups = omega (arith, c.loop-index-test.false, l.loop-index.invariant.0) in (
      sym (l.loop-index.invariant.6 ∙ over_last a.kinds a.plan a.capture.now a.groups l.loop-index.index (here l) c.loop-index-test.false),
      subst (λ (n : ℕ). Moves a.plan n l.loop-index.walk) e l.loop-index.invariant.5,
    )

pub over_groups_spec : {M : Type 1} → statement M
over_groups_spec =
    tie.close
    (tie.spec
    invariant-loop-index
    decreases-loop-index
    start_walk-walk-requires
    loop-index-init
    on_group-walk-requires
    overflow_add-index
    loop-index-smaller
    loop-index-preserved
    shape_of-row
    shape_of-out
    shape_of-times
    shape_of-report
    returns)
