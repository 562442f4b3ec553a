use Prim.Native.Nat.{◌-◌}
use native.Mathlib.Omega.{arith}
use lib.ListN.{length}
use Rattle.stream_state.proofs.Runs.{Seen, seen_all, seen_more, seen_none}
use borrow.Author.Rules.{rules}
use Rattle.stream_state.proofs.none_waits.Statement.{statement}
use Rattle.stream_state.proofs.none_waits.Tie as tie
use Rattle.stream_state.proofs.none_waits.Reads as reads
use Rattle.stream_state.proofs.none_waits.Lts as lts

abbrev invariant-loop-index : tie.invariant-loop-index
invariant-loop-index table any₀ index₀ any index = Seen table any index

abbrev decreases-loop-index : tie.decreases-loop-index
decreases-loop-index table any₀ index₀ any index = length table - index

loop-index-init : tie.Need-loop-index-init invariant-loop-index decreases-loop-index
loop-index-init c = seen_none _

offset_bounds-table-index : tie.Need-offset_bounds-table-index invariant-loop-index decreases-loop-index
offset_bounds-table-index c = search rules

bounds-table-index : tie.Need-bounds-table-index invariant-loop-index decreases-loop-index
bounds-table-index c = search rules

overflow_add-index : tie.Need-overflow_add-index invariant-loop-index decreases-loop-index
overflow_add-index c = search rules

loop-index-smaller : tie.Need-loop-index-smaller invariant-loop-index decreases-loop-index
loop-index-smaller c = search rules

loop-index-preserved : tie.Need-loop-index-preserved invariant-loop-index decreases-loop-index
loop-index-preserved c = seen_more c.loop-index.invariant c.loop-index-test.true

returns : tie.Need-returns invariant-loop-index decreases-loop-index
returns c = seen_all c.loop-index.invariant (omega arith)

pub none_waits_spec : {M : Type 1} → statement M
none_waits_spec =
    tie.close
    (tie.spec
    invariant-loop-index
    decreases-loop-index
    loop-index-init
    offset_bounds-table-index
    bounds-table-index
    overflow_add-index
    loop-index-smaller
    loop-index-preserved
    returns)
