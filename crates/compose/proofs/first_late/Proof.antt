use Prim.Native.Nat.{◌-◌, ◌≤◌}
use native.Mathlib.Omega.{arith}
use mathlib.Core.Path.{◌≡◌, sym, ◌∙◌}
use lib.ListN.{length, drop}
use Rattle.format.specs.Compose.{first_late}
use Rattle.compose.proofs.Groups.{late_end, late_here, late_later}
use borrow.Author.Rules.{rules}
use Rattle.compose.proofs.first_late.Statement.{statement}
use Rattle.compose.proofs.first_late.Tie as tie

abbrev invariant-loop-index : tie.invariant-loop-index
invariant-loop-index times index₀ index = (index ≤ length times) × (first_late 0 times ≡ first_late index (drop index times))

abbrev decreases-loop-index : tie.decreases-loop-index
decreases-loop-index times index₀ index = length times - index

loop-index-init : tie.Need-loop-index-init invariant-loop-index decreases-loop-index
loop-index-init c = search rules

offset_bounds-times-index : tie.Need-offset_bounds-times-index invariant-loop-index decreases-loop-index
offset_bounds-times-index c = search rules

bounds-times-index : tie.Need-bounds-times-index invariant-loop-index decreases-loop-index
bounds-times-index c = search rules

returns-then-times-index-ge42949672960000 : tie.Need-returns-then-times-index-ge42949672960000 invariant-loop-index decreases-loop-index
returns-then-times-index-ge42949672960000 c = sym (c.loop-index.invariant.1 ∙ late_here c.args.times.now c.loop-index.index (omega arith) c.if-times-index-ge42949672960000.true)

overflow_add-index : tie.Need-overflow_add-index invariant-loop-index decreases-loop-index
overflow_add-index c = search rules

loop-index-smaller : tie.Need-loop-index-smaller invariant-loop-index decreases-loop-index
loop-index-smaller c = search rules

loop-index-preserved : tie.Need-loop-index-preserved invariant-loop-index decreases-loop-index
loop-index-preserved c = (omega arith, c.loop-index.invariant.1 ∙ late_later c.args.times.now c.loop-index.index (omega arith) c.if-times-index-ge42949672960000.false)

returns : tie.Need-returns invariant-loop-index decreases-loop-index
returns c = sym (c.loop-index.invariant.1 ∙ late_end c.args.times.now c.loop-index.index (omega arith))

pub first_late_spec : {M : Type 1} → statement M
first_late_spec =
    tie.close
    (tie.spec
    invariant-loop-index
    decreases-loop-index
    loop-index-init
    offset_bounds-times-index
    bounds-times-index
    returns-then-times-index-ge42949672960000
    overflow_add-index
    loop-index-smaller
    loop-index-preserved
    returns)
