use Prim.Native.Nat.{◌+◌, ◌*◌, ◌-◌, ◌≤◌}
use mathlib.Core.Path.{◌≡◌, refl, sym, ap, ◌∙◌}
use native.Mathlib.Omega.{arith}
use native.Mathlib.Numerals.{add-one}
use lib.Seq.{take-suc-set, take_all}
use lib.ListN.{length, take, get_or, length-set}
use Rattle.format.specs.Laws.Lists.{list_more}
use Rattle.format.specs.Lists.{list}
use Rattle.from_c.specs.Numbers.{kind_of}
use borrow.Author.Rules.{rules}
use Rattle.stream_state.proofs.kinds_at.Statement.{statement}
use Rattle.stream_state.proofs.kinds_at.Tie as tie
use Rattle.stream_state.proofs.kinds_at.Reads as reads
use Rattle.stream_state.proofs.kinds_at.Lts as lts
use Rattle.from_c.proofs.kind_of.Reads as kind-of-reads

abbrev invariant-loop-bus : tie.invariant-loop-bus
invariant-loop-bus state kinds₀ bus₀ kinds bus = (bus ≤ 16) × (length state ≡ 7168) × (length kinds ≡ 16) × (take bus kinds ≡ list (λ k. kind_of (get_or state (167 + 8 * k) 0)) 0 bus)

abbrev decreases-loop-bus : tie.decreases-loop-bus
decreases-loop-bus state kinds₀ bus₀ kinds bus = 16 - bus

loop-bus-init : tie.Need-loop-bus-init invariant-loop-bus decreases-loop-bus
unfolding list
loop-bus-init c = (omega arith, c.requires, refl, refl)

overflow_mul-bus : tie.Need-overflow_mul-bus invariant-loop-bus decreases-loop-bus
overflow_mul-bus c = search rules

overflow_add-bus : tie.Need-overflow_add-bus invariant-loop-bus decreases-loop-bus
overflow_add-bus c = search rules

bounds-state-bus : tie.Need-bounds-state-bus invariant-loop-bus decreases-loop-bus
bounds-state-bus c = search rules

kind_of-requires : tie.Need-kind_of-requires invariant-loop-bus decreases-loop-bus
kind_of-requires c κs = search rules

bounds-kinds-bus : tie.Need-bounds-kinds-bus invariant-loop-bus decreases-loop-bus
bounds-kinds-bus c = search rules

overflow_add-bus-in-loop-bus : tie.Need-overflow_add-bus-in-loop-bus invariant-loop-bus decreases-loop-bus
overflow_add-bus-in-loop-bus c = search rules

loop-bus-smaller : tie.Need-loop-bus-smaller invariant-loop-bus decreases-loop-bus
loop-bus-smaller c = search rules

loop-bus-preserved : tie.Need-loop-bus-preserved invariant-loop-bus decreases-loop-bus
loop-bus-preserved c = let o = c.loop-bus in
    let s = c.args.state.now in
    let more = list_more (λ k. kind_of (get_or s (167 + 8 * k) 0)) o.bus in
    let new = take-suc-set o.kinds o.bus c.kind_of.result (omega arith) in
    (omega (arith, c.loop-bus-test.true), o.invariant.1, simp length-set o.invariant.2, rw (more, add-one o.bus, new, o.invariant.3, c.kind_of.ensures) refl)

returns : tie.Need-returns invariant-loop-bus decreases-loop-bus
returns c = let o = c.loop-bus in
    let e : o.bus ≡ 16 = omega arith in
    sym (take_all o.bus o.kinds (omega arith)) ∙ o.invariant.3 ∙ rw e refl

pub kinds_at_spec : {M : Type 1} → statement M
kinds_at_spec =
    tie.close
    (tie.spec
    invariant-loop-bus
    decreases-loop-bus
    loop-bus-init
    overflow_mul-bus
    overflow_add-bus
    bounds-state-bus
    kind_of-requires
    bounds-kinds-bus
    overflow_add-bus-in-loop-bus
    loop-bus-smaller
    loop-bus-preserved
    returns)
