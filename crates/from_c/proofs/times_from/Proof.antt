use Prim.Native.Nat.{ℕ, ◌*◌, ◌/◌, ◌-◌, ◌≤◌}
use mathlib.Core.Path.{◌≡◌, refl, ap, ◌∙◌}
use native.Mathlib.Omega.{arith}
use lib.ListN.{length}
use Rattle.format.specs.Answer.{over}
use Rattle.format.specs.Lists.{list}
use Rattle.from_c.specs.Numbers.{time_at}
use Rattle.from_c.proofs.Times.{front_over}
use Rattle.format.specs.Laws.Front.{Front, front_none, front_long, front_more}
use Rattle.format.specs.Laws.Lists.{list_more}
use borrow.Author.Rules.{rules}
use Rattle.from_c.proofs.times_from.Statement.{statement}
use Rattle.from_c.proofs.times_from.Tie as tie

abbrev invariant-loop-index : tie.invariant-loop-index
invariant-loop-index bytes row₀ number index₀ row index = (index ≤ number) × (number ≡ length bytes / 8) × (length bytes ≤ 8 * length row₀) × Front (list (λ k. time_at bytes (8 * k)) 0 index) row₀ row index

abbrev decreases-loop-index : tie.decreases-loop-index
decreases-loop-index bytes row₀ number index₀ row index = number - index

loop-index-init : tie.Need-loop-index-init invariant-loop-index decreases-loop-index
unfolding list
loop-index-init c = (omega arith, refl, c.requires, front_none _)

overflow_mul-index : tie.Need-overflow_mul-index invariant-loop-index decreases-loop-index
overflow_mul-index c = search rules

time_at-requires : tie.Need-time_at-requires invariant-loop-index decreases-loop-index
time_at-requires c κs = search rules

offset_bounds-row-index : tie.Need-offset_bounds-row-index invariant-loop-index decreases-loop-index
offset_bounds-row-index c = search rules

bounds-row-index : tie.Need-bounds-row-index invariant-loop-index decreases-loop-index
bounds-row-index c = omega (arith, front_long c.loop-index.invariant.3)

overflow_add-index : tie.Need-overflow_add-index invariant-loop-index decreases-loop-index
overflow_add-index c = search rules

loop-index-smaller : tie.Need-loop-index-smaller invariant-loop-index decreases-loop-index
loop-index-smaller c = search rules

loop-index-preserved : tie.Need-loop-index-preserved invariant-loop-index decreases-loop-index
loop-index-preserved c = let o = c.loop-index in (omega arith, o.invariant.1, o.invariant.2, rw (list_more (λ k. time_at c.args.bytes.now (8 * k)) o.index, c.time_at.ensures) (front_more _ o.invariant.3 (omega arith)))

shape_of-row : tie.Need-shape_of-row invariant-loop-index decreases-loop-index
shape_of-row c = front_long c.loop-index.invariant.3

returns : tie.Need-returns invariant-loop-index decreases-loop-index
returns c =
    let o = c.loop-index in
    let a = c.args in
    let e : o.index ≡ length a.bytes.now / 8 = omega arith in
    front_over o.invariant.3 ∙ ap (λ (k : ℕ). over (list (λ j. time_at a.bytes.now (8 * j)) 0 k) a.row.now) e

pub times_from_spec : {M : Type 1} → statement M
times_from_spec =
    tie.close
    (tie.spec
    invariant-loop-index
    decreases-loop-index
    loop-index-init
    overflow_mul-index
    time_at-requires
    offset_bounds-row-index
    bounds-row-index
    overflow_add-index
    loop-index-smaller
    loop-index-preserved
    shape_of-row
    returns)
