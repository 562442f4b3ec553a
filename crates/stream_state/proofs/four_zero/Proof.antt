use Prim.Native.Nat.{◌-◌, ◌<◌}
use native.Mathlib.Omega.{arith}
use mathlib.Core.Path.{◌≡◌}
use lib.ListN.{length}
use Rattle.stream_state.proofs.Runs.{Seen, seen_four, seen_more, seen_none}
use borrow.Author.Rules.{rules}
use Rattle.stream_state.proofs.four_zero.Statement.{statement}
use Rattle.stream_state.proofs.four_zero.Tie as tie
use Rattle.stream_state.proofs.four_zero.Reads as reads
use Rattle.stream_state.proofs.four_zero.Lts as lts

abbrev invariant-loop-index : tie.invariant-loop-index
invariant-loop-index first second third fourth any₀ any2₀ any3₀ any4₀ index₀ any any2 any3 any4 index =
    (Seen first any index × Seen second any2 index) × (Seen third any3 index × Seen fourth any4 index)
    × ((length second ≡ length first) × (length third ≡ length first) × (length fourth ≡ length first))

abbrev decreases-loop-index : tie.decreases-loop-index
decreases-loop-index first second third fourth any₀ any2₀ any3₀ any4₀ index₀ any any2 any3 any4 index = length first - index

loop-index-init : tie.Need-loop-index-init invariant-loop-index decreases-loop-index
loop-index-init c = ((seen_none _, seen_none _), (seen_none _, seen_none _), c.requires)

bounds-first-index : tie.Need-bounds-first-index invariant-loop-index decreases-loop-index
bounds-first-index c = search rules

bounds-second-index : tie.Need-bounds-second-index invariant-loop-index decreases-loop-index
bounds-second-index c = search rules

bounds-third-index : tie.Need-bounds-third-index invariant-loop-index decreases-loop-index
bounds-third-index c = search rules

bounds-fourth-index : tie.Need-bounds-fourth-index invariant-loop-index decreases-loop-index
bounds-fourth-index c = search rules

overflow_add-index : tie.Need-overflow_add-index invariant-loop-index decreases-loop-index
overflow_add-index c = search rules

loop-index-smaller : tie.Need-loop-index-smaller invariant-loop-index decreases-loop-index
loop-index-smaller c = search rules

loop-index-preserved : tie.Need-loop-index-preserved invariant-loop-index decreases-loop-index
loop-index-preserved c = let o = c.loop-index in
    let h = c.loop-index-test.true in
    let l = o.invariant.2 in
    ((seen_more o.invariant.0.0 h, seen_more o.invariant.0.1 (omega (arith, h, l.0))), (seen_more o.invariant.1.0 (omega (arith, h, l.1)), seen_more o.invariant.1.1 (omega (arith, h, l.2))), l)

returns : tie.Need-returns invariant-loop-index decreases-loop-index
returns c = let o = c.loop-index in
    let l = o.invariant.2 in
    seen_four o.invariant.0.0 o.invariant.0.1 o.invariant.1.0 o.invariant.1.1 (omega arith) l.0 l.1 l.2

pub four_zero_spec : {M : Type 1} → statement M
four_zero_spec =
    tie.close
    (tie.spec
    invariant-loop-index
    decreases-loop-index
    loop-index-init
    bounds-first-index
    bounds-second-index
    bounds-third-index
    bounds-fourth-index
    overflow_add-index
    loop-index-smaller
    loop-index-preserved
    returns)
