use Prim.Native.Nat.{◌-◌, ◌≤◌}
use mathlib.Core.Path.{◌≡◌}
use native.Mathlib.Omega.{arith}
use lib.ListN.{length}
use Rattle.stream_state.specs.Layout.{number_at}
use Rattle.stream_state.proofs.Used.{Counted, counted_all, counted_more, counted_none, used_small}
use borrow.Author.Rules.{rules}
use Rattle.stream_state.proofs.eight_buses.Statement.{statement}
use Rattle.stream_state.proofs.eight_buses.Tie as tie
use Rattle.stream_state.proofs.eight_buses.Reads as reads
use Rattle.stream_state.proofs.eight_buses.Lts as lts
use Rattle.from_c.proofs.time_at.Reads as time-at-reads
use Rattle.stream_state.proofs.both.Reads as both-reads
use Rattle.stream_state.proofs.one_used.Reads as one-used-reads

abbrev invariant-loop-index : tie.invariant-loop-index
invariant-loop-index state first named₀ used₀ index₀ named used index =
    (index ≤ 8) × (used ≤ index) × (first ≤ 28) × (length state ≡ 7168) × Counted (number_at state) first named used index

abbrev decreases-loop-index : tie.decreases-loop-index
decreases-loop-index state first named₀ used₀ index₀ named used index = 8 - index

-- a number more counts one at most
one_few : (c : tie.After-one_used-used invariant-loop-index decreases-loop-index) → c.one_used-used.result ≤ 1
one_few c = rw c.one_used-used.ensures (used_small c.time_at-number.result)

loop-index-init : tie.Need-loop-index-init invariant-loop-index decreases-loop-index
loop-index-init c = let s = c.before in (omega arith, omega arith, s.requires.1, s.requires.0, counted_none (number_at s.args.state.now) s.args.first)

overflow_add-first : tie.Need-overflow_add-first invariant-loop-index decreases-loop-index
overflow_add-first c = search rules

overflow_mul-first : tie.Need-overflow_mul-first invariant-loop-index decreases-loop-index
overflow_mul-first c = search rules

time_at-number-requires : tie.Need-time_at-number-requires invariant-loop-index decreases-loop-index
time_at-number-requires c κs = search rules

both-named-requires : tie.Need-both-named-requires invariant-loop-index decreases-loop-index
both-named-requires c κs = search rules

one_used-used-requires : tie.Need-one_used-used-requires invariant-loop-index decreases-loop-index
one_used-used-requires c κs = search rules

overflow_add-used : tie.Need-overflow_add-used invariant-loop-index decreases-loop-index
overflow_add-used c = let o = c.loop-index in omega (arith, one_few c, o.invariant.0, o.invariant.1)

overflow_add-index : tie.Need-overflow_add-index invariant-loop-index decreases-loop-index
overflow_add-index c = search rules

loop-index-smaller : tie.Need-loop-index-smaller invariant-loop-index decreases-loop-index
loop-index-smaller c = search rules

loop-index-preserved : tie.Need-loop-index-preserved invariant-loop-index decreases-loop-index
loop-index-preserved c = let n = c.before.before in
    let i = n.before in
    let o = i.loop-index in
    let one = one_few c in (
      omega (arith, i.loop-index-test.true),
      omega (arith, one, o.invariant.1),
      o.invariant.2,
      o.invariant.3,
      counted_more o.invariant.4 i.loop-index-test.true n.time_at-number.ensures c.both-named.ensures c.one_used-used.ensures,
    )

returns : tie.Need-returns invariant-loop-index decreases-loop-index
returns c = let o = c.loop-index in counted_all o.invariant.4 (omega arith)

pub eight_buses_spec : {M : Type 1} → statement M
eight_buses_spec =
    tie.close
    (tie.spec
    invariant-loop-index
    decreases-loop-index
    loop-index-init
    overflow_add-first
    overflow_mul-first
    time_at-number-requires
    both-named-requires
    one_used-used-requires
    overflow_add-used
    overflow_add-index
    loop-index-smaller
    loop-index-preserved
    returns)
