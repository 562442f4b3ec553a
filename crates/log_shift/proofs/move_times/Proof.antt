use Rattle.log_shift.proofs.Shifting.{row_more, row_over}
use Rattle.log_shift.proofs.Row.{entry_kept, one_written}
use Rattle.log_shift.specs.Shifted.{Moves}
use Rattle.log_rules.specs.Shift.{moved}
use Rattle.from_c.specs.Numbers.{time_bytes, times_from}
use Rattle.format.specs.Laws.Front.{Front, front_long, front_none}
use mir.Facts.{to_z-of_z}
use mir.Val.{of_z, to_z}
use mir.Syntax.{w64}
use lib.Seq.{length-take-le}
use lib.ListN.{length, take, drop, length-drop}
use lib.IntN.{ℤ}
use mathlib.Core.List.{List, flat_map, map}
use mathlib.Core.Path.{◌≡◌, refl}
use Prim.Native.Nat.{ℕ, ◌+◌, ◌*◌, ◌-◌, ◌/◌, ◌≤◌, ◌<◌}
use native.Mathlib.Omega.{arith}
use borrow.Author.Rules.{rules}
use Rattle.log_shift.proofs.move_times.Statement.{statement}
use Rattle.log_shift.proofs.move_times.Tie as tie
use Rattle.log_shift.proofs.move_times.Reads as reads
use Rattle.log_shift.proofs.move_times.Lts as lts
use Rattle.from_c.proofs.put_times.Reads as put-times-reads
use Rattle.log_move.proofs.moved_by.Reads as moved-by-reads
use Rattle.log_shift.proofs.time_at.Reads as time-at-reads

abbrev invariant-loop-index : tie.invariant-loop-index
invariant-loop-index times₀ by number index₀ times index =
    (index ≤ number) × (number ≡ length times₀ / 8) × Moves (to_z w64 by) times₀
    × Front (flat_map time_bytes (take index (map (moved (to_z w64 by)) (times_from times₀)))) times₀ times (8 * index)

abbrev decreases-loop-index : tie.decreases-loop-index
decreases-loop-index times₀ by number index₀ times index = number - index

-- ---- the places

abbrev AtLoop : Type 0
AtLoop = tie.At-loop-index invariant-loop-index decreases-loop-index

abbrev start : AtLoop → tie.Start invariant-loop-index decreases-loop-index
start c = c.before.before

abbrev by : AtLoop → ℤ
by c = to_z w64 (of_z w64 (start c).args.by)

abbrev row : AtLoop → List ℕ
row c = (start c).args.times.now

-- at an entry
abbrev InLoop : Type 0
InLoop = tie.In-loop-index invariant-loop-index decreases-loop-index

abbrev at : InLoop → ℕ
at c = 8 * c.loop-index.index

within : (c : InLoop) → c.loop-index.index < length (row c.before) / 8
within c = omega (arith, c.loop-index-test.true, c.loop-index.invariant.1)

room : (c : InLoop) → at c + 8 ≤ length c.loop-index.times
room c = omega (arith, within c, front_long c.loop-index.invariant.3)

eight : (c : InLoop) → at c + 8 - at c ≡ 8
eight c = omega arith

abbrev old : InLoop → List ℕ
old c = take (at c + 8 - at c) (drop (at c) c.loop-index.times)

old_long : (c : InLoop) → length (old c) ≡ 8
old_long c = rw (eight c) (length-take-le 8 (drop (at c) c.loop-index.times) (rw length-drop (omega (arith, room c))))

-- it is moved
abbrev in_loop : tie.After-moved_by invariant-loop-index decreases-loop-index → InLoop
in_loop c = c.before.before

-- ---- the needs

loop-index-init : tie.Need-loop-index-init invariant-loop-index decreases-loop-index
unfolding flat_map
loop-index-init c = (omega arith, refl, rw (to_z-of_z c.ranges.by) c.requires.1, front_none _)

overflow_mul-start : tie.Need-overflow_mul-start invariant-loop-index decreases-loop-index
overflow_mul-start c = search rules

overflow_add-end : tie.Need-overflow_add-end invariant-loop-index decreases-loop-index
overflow_add-end c = search rules

time_at-requires : tie.Need-time_at-requires invariant-loop-index decreases-loop-index
time_at-requires c κs = room c

moved_by-requires : tie.Need-moved_by-requires invariant-loop-index decreases-loop-index
moved_by-requires c κs = let s = start c.before.before in rw (to_z-of_z s.ranges.by) s.requires.0

slice_bounds-put_times-end : tie.Need-slice_bounds-put_times-end invariant-loop-index decreases-loop-index
slice_bounds-put_times-end c = search rules

slice_bounds-put_times-count : tie.Need-slice_bounds-put_times-count invariant-loop-index decreases-loop-index
slice_bounds-put_times-count c = search rules

slice_bounds-put_times-start : tie.Need-slice_bounds-put_times-start invariant-loop-index decreases-loop-index
slice_bounds-put_times-start c = search rules

slice_bounds-put_times-end-in-loop-index : tie.Need-slice_bounds-put_times-end-in-loop-index invariant-loop-index decreases-loop-index
slice_bounds-put_times-end-in-loop-index c = room (in_loop c.before)

put_times-requires : tie.Need-put_times-requires invariant-loop-index decreases-loop-index
put_times-requires c κs = (omega arith, rw (old_long (in_loop c.before.before)) (omega arith))

overflow_add-index : tie.Need-overflow_add-index invariant-loop-index decreases-loop-index
overflow_add-index c = search rules

loop-index-smaller : tie.Need-loop-index-smaller invariant-loop-index decreases-loop-index
loop-index-smaller c = search rules

loop-index-preserved : tie.Need-loop-index-preserved invariant-loop-index decreases-loop-index
loop-index-preserved c =
    let p = c.before.before in
    let m = p.before.before.before in
    let i = in_loop m in
    let l = i.before in
    let o = l.loop-index in
    let time = rw (m.time_at.ensures, entry_kept o.invariant.3) at m.moved_by.ensures in
    let bytes = one_written m.moved_by.result (old i) _ (old_long i) p.put_times.ensures in (
      omega arith,
      o.invariant.1,
      o.invariant.2,
      row_more (by l) (row l) o.times _ o.index (at i + 8 - at i) _ o.invariant.2 o.invariant.3 (within i) (eight i) time bytes,
    )

shape_of-times : tie.Need-shape_of-times invariant-loop-index decreases-loop-index
shape_of-times c = front_long c.loop-index.invariant.3

returns : tie.Need-returns invariant-loop-index decreases-loop-index
returns c =
    let l = c.before in
    let o = l.loop-index in
    let all : o.index ≡ length (row l) / 8 = omega (arith, o.invariant.0, o.invariant.1, c.loop-index-test.false) in
    rw (to_z-of_z (start l).ranges.by) at (row_over (by l) (row l) _ o.index o.invariant.3 all)

pub move_times_spec : {M : Type 1} → statement M
move_times_spec =
    tie.close
    (tie.spec
    invariant-loop-index
    decreases-loop-index
    loop-index-init
    overflow_mul-start
    overflow_add-end
    time_at-requires
    moved_by-requires
    slice_bounds-put_times-end
    slice_bounds-put_times-count
    slice_bounds-put_times-start
    slice_bounds-put_times-end-in-loop-index
    put_times-requires
    overflow_add-index
    loop-index-smaller
    loop-index-preserved
    shape_of-times
    returns)
