use Prim.Native.Nat.{ℕ, ◌+◌, ◌*◌, ◌-◌, ◌≤◌}
use mathlib.Core.Path.{◌≡◌, ap, ◌∙◌}
use mathlib.Core.List.{flat_map}
use native.Mathlib.Omega.{arith}
use lib.ListN.{length, length-drop, take, drop}
use lib.Seq.{length-take-le}
use Rattle.format.specs.Answer.{over}
use Rattle.from_c.specs.Numbers.{time_bytes}
use Rattle.from_c.proofs.Times.{front_over, times_more}
use Rattle.format.specs.Laws.Front.{Front, front_none, front_long}
use borrow.Author.Rules.{rules}
use Rattle.from_c.proofs.put_times.Statement.{statement}
use Rattle.from_c.proofs.put_times.Tie as tie

abbrev invariant-loop-index : tie.invariant-loop-index
invariant-loop-index row number bytes₀ index₀ bytes index = (index ≤ number) × (number ≤ length row) × (8 * number ≤ length bytes₀) × Front (flat_map time_bytes (take index row)) bytes₀ bytes (8 * index)

abbrev decreases-loop-index : tie.decreases-loop-index
decreases-loop-index row number bytes₀ index₀ bytes index = number - index

loop-index-init : tie.Need-loop-index-init invariant-loop-index decreases-loop-index
unfolding flat_map
loop-index-init c = (omega arith, c.requires.0, c.requires.1, front_none _)

overflow_mul-start : tie.Need-overflow_mul-start invariant-loop-index decreases-loop-index
overflow_mul-start c = search rules

overflow_add-end : tie.Need-overflow_add-end invariant-loop-index decreases-loop-index
overflow_add-end c = search rules

offset_bounds-row-index : tie.Need-offset_bounds-row-index invariant-loop-index decreases-loop-index
offset_bounds-row-index c = search rules

bounds-row-index : tie.Need-bounds-row-index invariant-loop-index decreases-loop-index
bounds-row-index c = search rules

slice_bounds-put_time-count : tie.Need-slice_bounds-put_time-count invariant-loop-index decreases-loop-index
slice_bounds-put_time-count c = search rules

slice_bounds-put_time-start : tie.Need-slice_bounds-put_time-start invariant-loop-index decreases-loop-index
slice_bounds-put_time-start c = search rules

slice_bounds-put_time-end : tie.Need-slice_bounds-put_time-end invariant-loop-index decreases-loop-index
slice_bounds-put_time-end c = omega (arith, front_long c.loop-index.invariant.3)

put_time-requires : tie.Need-put_time-requires invariant-loop-index decreases-loop-index
put_time-requires c κs =
    let o = c.loop-index in
    let e : 8 * o.index + 8 - 8 * o.index ≡ 8 = omega arith in
    rw e (length-take-le 8 (drop (8 * o.index) o.bytes) (simp length-drop (omega (arith, front_long o.invariant.3))))

overflow_add-index : tie.Need-overflow_add-index invariant-loop-index decreases-loop-index
overflow_add-index c = search rules

loop-index-smaller : tie.Need-loop-index-smaller invariant-loop-index decreases-loop-index
loop-index-smaller c = search rules

loop-index-preserved : tie.Need-loop-index-preserved invariant-loop-index decreases-loop-index
loop-index-preserved c =
    let o = c.loop-index in
    let a = c.args in
    (search rules, o.invariant.1, o.invariant.2, times_more a.row.now o.index (8 * o.index + 8 - 8 * o.index) o.invariant.3 (omega arith) (omega arith) (omega arith) c.put_time.ensures)

shape_of-bytes : tie.Need-shape_of-bytes invariant-loop-index decreases-loop-index
shape_of-bytes c = front_long c.loop-index.invariant.3

returns : tie.Need-returns invariant-loop-index decreases-loop-index
returns c =
    let o = c.loop-index in
    let a = c.args in
    let e : o.index ≡ a.number = omega arith in
    front_over o.invariant.3 ∙ ap (λ (k : ℕ). over (flat_map time_bytes (take k a.row.now)) a.bytes.now) e

pub put_times_spec : {M : Type 1} → statement M
put_times_spec =
    tie.close
    (tie.spec
    invariant-loop-index
    decreases-loop-index
    loop-index-init
    overflow_mul-start
    overflow_add-end
    offset_bounds-row-index
    bounds-row-index
    slice_bounds-put_time-count
    slice_bounds-put_time-start
    slice_bounds-put_time-end
    put_time-requires
    overflow_add-index
    loop-index-smaller
    loop-index-preserved
    shape_of-bytes
    returns)
