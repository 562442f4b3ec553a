use Rattle.log_events.proofs.EventRow.{known_end, known_bad, known_good}
use Rattle.log_rules.specs.Replay.{events_known}
use lib.ListN.{length, drop}
use mathlib.Core.Path.{◌≡◌, sym, ◌∙◌}
use native.Mathlib.Omega.{arith}
use Prim.Native.Nat.{◌-◌, ◌≤◌}
use borrow.Author.Rules.{rules}
use Rattle.log_events.proofs.events.known.Statement.{statement}
use Rattle.log_events.proofs.events.known.Tie as tie

abbrev invariant-loop-i : tie.invariant-loop-i
invariant-loop-i events i₀ i = (i ≤ length events) × (events_known events ≡ events_known (drop i events))

abbrev decreases-loop-i : tie.decreases-loop-i
decreases-loop-i events i₀ i = length events - i

loop-i-init : tie.Need-loop-i-init invariant-loop-i decreases-loop-i
loop-i-init c = search rules

bounds-events-i : tie.Need-bounds-events-i invariant-loop-i decreases-loop-i
bounds-events-i c = search rules

returns-then-events-i-gt1 : tie.Need-returns-then-events-i-gt1 invariant-loop-i decreases-loop-i
returns-then-events-i-gt1 c = let o = c.before.before.before in sym (o.loop-i.invariant.1 ∙ known_bad o.args.events.now o.loop-i.i c.loop-i-test.true c.if-events-i-gt1.true)

overflow_add-i : tie.Need-overflow_add-i invariant-loop-i decreases-loop-i
overflow_add-i c = search rules

loop-i-smaller : tie.Need-loop-i-smaller invariant-loop-i decreases-loop-i
loop-i-smaller c = search rules

loop-i-preserved : tie.Need-loop-i-preserved invariant-loop-i decreases-loop-i
loop-i-preserved c = let o = c.before.before.before in (omega arith, o.loop-i.invariant.1 ∙ known_good o.args.events.now o.loop-i.i c.loop-i-test.true c.if-events-i-gt1.false)

returns : tie.Need-returns invariant-loop-i decreases-loop-i
returns c = let o = c.before in sym (o.loop-i.invariant.1 ∙ known_end o.args.events.now o.loop-i.i c.loop-i-test.false)

pub known_spec : {M : Type 1} → statement M
known_spec =
    tie.close
    (tie.spec
    invariant-loop-i
    decreases-loop-i
    loop-i-init
    bounds-events-i
    returns-then-events-i-gt1
    overflow_add-i
    loop-i-smaller
    loop-i-preserved
    returns)
