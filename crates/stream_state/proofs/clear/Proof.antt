use Prim.Native.Nat.{ℕ, ◌+◌, ◌-◌, ◌≤◌}
use mathlib.Core.Path.{◌≡◌, sym, ◌∙◌}
use native.Mathlib.Omega.{arith}
use lib.ListN.{length, replicate}
use Rattle.format.specs.Laws.Front.{Front, front_long, front_none}
use Rattle.stream_state.proofs.Zeros.{zero_more, zeros_all}
use borrow.Author.Rules.{rules}
use Rattle.stream_state.proofs.clear.Statement.{statement}
use Rattle.stream_state.proofs.clear.Tie as tie
use Rattle.stream_state.proofs.clear.Reads as reads
use Rattle.stream_state.proofs.clear.Lts as lts

abbrev invariant-loop-index : tie.invariant-loop-index
invariant-loop-index bytes₀ index₀ bytes index = (index ≤ length bytes₀) × Front (replicate index 0) bytes₀ bytes index

abbrev decreases-loop-index : tie.decreases-loop-index
decreases-loop-index bytes₀ index₀ bytes index = length bytes₀ - index

loop-index-init : tie.Need-loop-index-init invariant-loop-index decreases-loop-index
loop-index-init c = (omega arith, front_none _)

bounds-bytes-index : tie.Need-bounds-bytes-index invariant-loop-index decreases-loop-index
bounds-bytes-index c = c.loop-index-test.true

overflow_add-index : tie.Need-overflow_add-index invariant-loop-index decreases-loop-index
overflow_add-index c = search rules

loop-index-smaller : tie.Need-loop-index-smaller invariant-loop-index decreases-loop-index
loop-index-smaller c = omega (arith, c.loop-index-test.true, front_long c.loop-index.invariant.1)

loop-index-preserved : tie.Need-loop-index-preserved invariant-loop-index decreases-loop-index
loop-index-preserved c = let o = c.loop-index in
    let l : o.index + 1 ≤ length c.args.bytes.now = omega (arith, c.loop-index-test.true, front_long o.invariant.1) in
    (l, zero_more o.index o.invariant.1 (omega (arith, l)))

shape_of-bytes : tie.Need-shape_of-bytes invariant-loop-index decreases-loop-index
shape_of-bytes c = front_long c.loop-index.invariant.1

returns : tie.Need-returns invariant-loop-index decreases-loop-index
returns c = let o = c.loop-index in zeros_all o.index o.invariant.1 (omega (arith, front_long o.invariant.1))

pub clear_spec : {M : Type 1} → statement M
clear_spec =
    tie.close
    (tie.spec
    invariant-loop-index
    decreases-loop-index
    loop-index-init
    bounds-bytes-index
    overflow_add-index
    loop-index-smaller
    loop-index-preserved
    shape_of-bytes
    returns)
