use Rattle.log_shift.proofs.Row.{row_end, row_hit, row_miss}
use Rattle.log_shift.specs.Shifted.{first_unmovable, unmovable_from}
use Rattle.from_c.specs.Numbers.{time_at, times_from}
use Rattle.format.specs.Lists.{list}
use mir.Facts.{to_z-of_z}
use mir.Val.{of_z, to_z}
use mir.Syntax.{w64}
use lib.ListN.{length}
use mathlib.Core.Path.{◌≡◌, refl, sym, ◌∙◌}
use Prim.Native.Nat.{ℕ, ◌*◌, ◌-◌, ◌/◌, ◌≤◌}
use native.Mathlib.Omega.{arith}
use borrow.Author.Rules.{rules}
use Rattle.log_shift.proofs.first_unmovable.Statement.{statement}
use Rattle.log_shift.proofs.first_unmovable.Tie as tie
use Rattle.log_shift.proofs.first_unmovable.Reads as reads
use Rattle.log_shift.proofs.first_unmovable.Lts as lts
use Rattle.log_move.proofs.moved_by.Reads as moved-by-reads
use Rattle.log_shift.proofs.time_at.Reads as time-at-reads

abbrev invariant-loop-index : tie.invariant-loop-index
invariant-loop-index times by number index₀ index = (index ≤ number) × (number ≡ length times / 8) × (first_unmovable (to_z w64 by) (times_from times) ≡ unmovable_from (to_z w64 by) index (list (λ i. time_at times (8 * i)) index (number - index)))

abbrev decreases-loop-index : tie.decreases-loop-index
decreases-loop-index times by number index₀ index = number - index

loop-index-init : tie.Need-loop-index-init invariant-loop-index decreases-loop-index
loop-index-init c =
    let n = length c.args.times.now / 8 in
    let e : n - 0 ≡ n = omega arith in
    (omega arith, refl, rw e refl)

time_at-requires : tie.Need-time_at-requires invariant-loop-index decreases-loop-index
time_at-requires c κs = omega (arith, c.loop-index-test.true, c.loop-index.invariant.1)

moved_by-requires : tie.Need-moved_by-requires invariant-loop-index decreases-loop-index
moved_by-requires c κs = rw (to_z-of_z c.ranges.by) c.requires

returns-then-moved_by-ge42949672960000 : tie.Need-returns-then-moved_by-ge42949672960000 invariant-loop-index decreases-loop-index
returns-then-moved_by-ge42949672960000 c =
    let o = c.loop-index in
    let f : ℕ → ℕ = λ i. time_at c.args.times.now (8 * i) in
    let l = rw (c.moved_by.ensures, c.time_at.ensures) at c.if-moved_by-ge42949672960000.true in
    rw (to_z-of_z c.ranges.by) at (sym (o.invariant.2 ∙ row_hit _ f o.index _ c.loop-index-test.true l))

overflow_add-index : tie.Need-overflow_add-index invariant-loop-index decreases-loop-index
overflow_add-index c = search rules

loop-index-smaller : tie.Need-loop-index-smaller invariant-loop-index decreases-loop-index
loop-index-smaller c = search rules

loop-index-preserved : tie.Need-loop-index-preserved invariant-loop-index decreases-loop-index
loop-index-preserved c =
    let o = c.loop-index in
    let f : ℕ → ℕ = λ i. time_at c.args.times.now (8 * i) in
    let l = rw (c.moved_by.ensures, c.time_at.ensures) at c.if-moved_by-ge42949672960000.false in
    (omega arith, o.invariant.1, o.invariant.2 ∙ row_miss _ f o.index _ c.loop-index-test.true l)

returns : tie.Need-returns invariant-loop-index decreases-loop-index
returns c =
    let o = c.loop-index in
    let f : ℕ → ℕ = λ i. time_at c.args.times.now (8 * i) in
    rw (to_z-of_z c.ranges.by) at (sym (o.invariant.2 ∙ row_end _ f o.index _ c.loop-index-test.false))

pub first_unmovable_spec : {M : Type 1} → statement M
first_unmovable_spec =
    tie.close
    (tie.spec
    invariant-loop-index
    decreases-loop-index
    loop-index-init
    time_at-requires
    moved_by-requires
    returns-then-moved_by-ge42949672960000
    overflow_add-index
    loop-index-smaller
    loop-index-preserved
    returns)
