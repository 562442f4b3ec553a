use Prim.Native.Nat.{◌-◌}
use native.Mathlib.Omega.{arith}
use lib.ListN.{length}
use Rattle.stream_state.proofs.Runs.{Seen, seen_all, seen_more, seen_none}
use borrow.Author.Rules.{rules}
use Rattle.stream_state.proofs.few_zero.Statement.{statement}
use Rattle.stream_state.proofs.few_zero.Tie as tie
use Rattle.stream_state.proofs.few_zero.Reads as reads
use Rattle.stream_state.proofs.few_zero.Lts as lts

abbrev invariant-loop-index : tie.invariant-loop-index
invariant-loop-index bytes any₀ index₀ any index = Seen bytes any index

abbrev decreases-loop-index : tie.decreases-loop-index
decreases-loop-index bytes any₀ index₀ any index = length bytes - index

loop-index-init : tie.Need-loop-index-init invariant-loop-index decreases-loop-index
loop-index-init c = seen_none _

bounds-bytes-index : tie.Need-bounds-bytes-index invariant-loop-index decreases-loop-index
bounds-bytes-index c = search rules

overflow_add-index : tie.Need-overflow_add-index invariant-loop-index decreases-loop-index
overflow_add-index c = search rules

loop-index-smaller : tie.Need-loop-index-smaller invariant-loop-index decreases-loop-index
loop-index-smaller c = search rules

loop-index-preserved : tie.Need-loop-index-preserved invariant-loop-index decreases-loop-index
loop-index-preserved c = seen_more c.loop-index.invariant c.loop-index-test.true

returns : tie.Need-returns invariant-loop-index decreases-loop-index
returns c = seen_all c.loop-index.invariant (omega arith)

pub few_zero_spec : {M : Type 1} → statement M
few_zero_spec =
    tie.close
    (tie.spec
    invariant-loop-index
    decreases-loop-index
    loop-index-init
    bounds-bytes-index
    overflow_add-index
    loop-index-smaller
    loop-index-preserved
    returns)
