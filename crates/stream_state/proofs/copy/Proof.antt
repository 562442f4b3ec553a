use Prim.Native.Nat.{◌-◌, ◌≤◌}
use mathlib.Core.Path.{◌≡◌}
use native.Mathlib.Omega.{arith}
use lib.ListN.{length, take}
use Rattle.format.specs.Laws.Front.{Front, front_long, front_more, take_more}
use Rattle.stream_state.proofs.Stored.{all_copied}
use borrow.Author.Rules.{rules}
use Rattle.stream_state.proofs.copy.Statement.{statement}
use Rattle.stream_state.proofs.copy.Tie as tie
use Rattle.stream_state.proofs.copy.Reads as reads
use Rattle.stream_state.proofs.copy.Lts as lts

abbrev invariant-loop-index : tie.invariant-loop-index
invariant-loop-index to₀ from index₀ to index = (index ≤ length from) × (length to₀ ≡ length from) × Front (take index from) to₀ to index

abbrev decreases-loop-index : tie.decreases-loop-index
decreases-loop-index to₀ from index₀ to index = length from - index

loop-index-init : tie.Need-loop-index-init invariant-loop-index decreases-loop-index
loop-index-init c = search rules

bounds-from-index : tie.Need-bounds-from-index invariant-loop-index decreases-loop-index
bounds-from-index c = search rules

bounds-to-index : tie.Need-bounds-to-index invariant-loop-index decreases-loop-index
bounds-to-index c = omega (arith, front_long c.loop-index.invariant.2)

overflow_add-index : tie.Need-overflow_add-index invariant-loop-index decreases-loop-index
overflow_add-index c = search rules

loop-index-smaller : tie.Need-loop-index-smaller invariant-loop-index decreases-loop-index
loop-index-smaller c = search rules

loop-index-preserved : tie.Need-loop-index-preserved invariant-loop-index decreases-loop-index
loop-index-preserved c = let o = c.loop-index in
    (omega arith, o.invariant.1, rw (take_more c.args.from.now o.index (omega arith)) (front_more _ o.invariant.2 (omega arith)))

shape_of-to : tie.Need-shape_of-to invariant-loop-index decreases-loop-index
shape_of-to c = front_long c.loop-index.invariant.2

returns : tie.Need-returns invariant-loop-index decreases-loop-index
returns c = let o = c.loop-index in all_copied c.args.from.now o.index o.invariant.2 (omega arith) o.invariant.1

pub copy_spec : {M : Type 1} → statement M
copy_spec =
    tie.close
    (tie.spec
    invariant-loop-index
    decreases-loop-index
    loop-index-init
    bounds-from-index
    bounds-to-index
    overflow_add-index
    loop-index-smaller
    loop-index-preserved
    shape_of-to
    returns)
