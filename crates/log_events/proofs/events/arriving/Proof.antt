use Rattle.log_events.proofs.EventRow.{arrivals_end, arrivals_more}
use Rattle.log_rules.specs.Replay.{arrivals}
use lib.ListN.{length, drop}
use mathlib.Core.Path.{◌≡◌, sym, ◌∙◌}
use native.Mathlib.Omega.{arith}
use Prim.Native.Nat.{◌+◌, ◌-◌, ◌≤◌}
use borrow.Author.Rules.{rules}
use Rattle.log_events.proofs.events.arriving.Statement.{statement}
use Rattle.log_events.proofs.events.arriving.Tie as tie

abbrev invariant-loop-i : tie.invariant-loop-i
invariant-loop-i events number₀ i₀ number i = (i ≤ length events) × (number ≤ i) × (arrivals events ≡ number + arrivals (drop i events))

abbrev decreases-loop-i : tie.decreases-loop-i
decreases-loop-i events number₀ i₀ number i = length events - i

loop-i-init : tie.Need-loop-i-init invariant-loop-i decreases-loop-i
loop-i-init c = search rules

bounds-events-i : tie.Need-bounds-events-i invariant-loop-i decreases-loop-i
bounds-events-i c = search rules

arrives-number-requires : tie.Need-arrives-number-requires invariant-loop-i decreases-loop-i
arrives-number-requires c κs = search rules

overflow_add-number : tie.Need-overflow_add-number invariant-loop-i decreases-loop-i
overflow_add-number c = omega (arith, c.arrives-number.ensures.1)

overflow_add-i : tie.Need-overflow_add-i invariant-loop-i decreases-loop-i
overflow_add-i c = search rules

loop-i-smaller : tie.Need-loop-i-smaller invariant-loop-i decreases-loop-i
loop-i-smaller c = search rules

loop-i-preserved : tie.Need-loop-i-preserved invariant-loop-i decreases-loop-i
loop-i-preserved c =
    let test = c.before.before in
    let o = test.before in
    let m = arrivals_more o.args.events.now o.loop-i.i test.loop-i-test.true in
    (omega arith, omega (arith, o.loop-i.invariant.1, c.arrives-number.ensures.1), o.loop-i.invariant.2 ∙ omega (arith, m, c.arrives-number.ensures.0))

returns : tie.Need-returns invariant-loop-i decreases-loop-i
returns c = let o = c.before in sym (o.loop-i.invariant.2 ∙ omega (arith, arrivals_end o.args.events.now o.loop-i.i c.loop-i-test.false))

pub arriving_spec : {M : Type 1} → statement M
arriving_spec =
    tie.close
    (tie.spec
    invariant-loop-i
    decreases-loop-i
    loop-i-init
    bounds-events-i
    arrives-number-requires
    overflow_add-number
    overflow_add-i
    loop-i-smaller
    loop-i-preserved
    returns)
