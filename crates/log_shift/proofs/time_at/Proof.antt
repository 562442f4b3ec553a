use Rattle.log_shift.proofs.Row.{entry_is, one_read}
use lib.Seq.{length-take-le}
use lib.ListN.{length, take, drop, length-drop}
use mathlib.Core.Path.{◌≡◌, ◌∙◌}
use Prim.Native.Nat.{◌+◌, ◌*◌, ◌-◌}
use native.Mathlib.Omega.{arith}
use borrow.Author.Rules.{rules}
use Rattle.log_shift.proofs.time_at.Statement.{statement}
use Rattle.log_shift.proofs.time_at.Tie as tie
use Rattle.log_shift.proofs.time_at.Reads as reads
use Rattle.log_shift.proofs.time_at.Lts as lts
use Rattle.from_c.proofs.times_from.Reads as times-from-reads

overflow_mul-start : tie.Need-overflow_mul-start
overflow_mul-start c = search rules

overflow_add-end : tie.Need-overflow_add-end
overflow_add-end c = search rules

slice_bounds-times_from-count : tie.Need-slice_bounds-times_from-count
slice_bounds-times_from-count c = search rules

slice_bounds-times_from-start : tie.Need-slice_bounds-times_from-start
slice_bounds-times_from-start c = search rules

slice_bounds-times_from-end : tie.Need-slice_bounds-times_from-end
slice_bounds-times_from-end c = search rules

slice_bounds-times_from-end-2 : tie.Need-slice_bounds-times_from-end-2
slice_bounds-times_from-end-2 c = search rules

times_from-requires : tie.Need-times_from-requires
times_from-requires c κs = search rules

bounds-one-0 : tie.Need-bounds-one-0
bounds-one-0 c = search rules

returns : tie.Need-returns
returns c =
    let a = c.args in
    let s = a.times.now in
    let at = 8 * a.index in
    let k = at + 8 - at in
    let e : k ≡ 8 = omega arith in
    let l : length (take k (drop at s)) ≡ 8 = rw e (length-take-le 8 (drop at s) (rw length-drop (omega arith))) in
    one_read (take k (drop at s)) _ 0 l c.times_from.ensures ∙ entry_is s at k e

pub time_at_spec : {M : Type 1} → statement M
time_at_spec =
    tie.close
    (tie.spec
    overflow_mul-start
    overflow_add-end
    slice_bounds-times_from-count
    slice_bounds-times_from-start
    slice_bounds-times_from-end
    slice_bounds-times_from-end-2
    times_from-requires
    bounds-one-0
    returns)
