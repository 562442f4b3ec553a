use Prim.Native.Nat.{◌+◌, ◌-◌, ◌≤◌}
use mathlib.Core.Path.{◌≡◌, sym, ◌∙◌, ap}
use native.Mathlib.Omega.{arith}
use mathlib.Core.Logic.{⊎_elim}
use mathlib.Core.Bool.{true, false}
use lib.ListN.{drop}
use Rattle.format.specs.Plan.{used_buses, is_used}
use Rattle.plan.proofs.Sizes.{bus_counted, all_counted}
use borrow.Author.Rules.{rules}
use Rattle.plan.proofs.used_buses.Statement.{statement}
use Rattle.plan.proofs.used_buses.Tie as tie

abbrev invariant-loop-bus : tie.invariant-loop-bus
invariant-loop-bus kinds first used₀ bus₀ used bus = (used ≤ bus) × (bus ≤ 16) × (used_buses (drop first kinds) ≡ used + used_buses (drop bus kinds))

abbrev decreases-loop-bus : tie.decreases-loop-bus
decreases-loop-bus kinds first used₀ bus₀ used bus = 16 - bus

loop-bus-init : tie.Need-loop-bus-init invariant-loop-bus decreases-loop-bus
loop-bus-init c = (search rules, search rules, omega arith)

kind_at-requires : tie.Need-kind_at-requires invariant-loop-bus decreases-loop-bus
kind_at-requires c κs = search rules

is_used-requires : tie.Need-is_used-requires invariant-loop-bus decreases-loop-bus
is_used-requires c κs = search rules

overflow_add-used : tie.Need-overflow_add-used invariant-loop-bus decreases-loop-bus
overflow_add-used c = search rules

overflow_add-bus : tie.Need-overflow_add-bus invariant-loop-bus decreases-loop-bus
overflow_add-bus c = search rules

loop-bus-smaller : tie.Need-loop-bus-smaller invariant-loop-bus decreases-loop-bus
loop-bus-smaller c = search rules

loop-bus-preserved : tie.Need-loop-bus-preserved invariant-loop-bus decreases-loop-bus
loop-bus-preserved c =
    let o = c.loop-bus in
    let a = c.args in
    let g = c.well_formed.0 in
    let e = sym (c.is_used.ensures ∙ ap is_used c.kind_at.ensures) in
    ⊎_elim
    (λ w. (omega (arith, w.used-is), omega arith, omega (arith, w.used-is, o.invariant.2, bus_counted a.kinds o.bus true (e ∙ w.if-is_used.true) (omega (arith, g)))))
    (λ w. (omega (arith, w.used-is), omega arith, omega (arith, w.used-is, o.invariant.2, bus_counted a.kinds o.bus false (e ∙ w.if-is_used.false) (omega (arith, g)))))
    c.if-is_used.branch-raw

returns : tie.Need-returns invariant-loop-bus decreases-loop-bus
returns c = omega (arith, c.loop-bus.invariant.2, all_counted c.args.kinds c.loop-bus.bus (omega (arith, c.well_formed.0)))

pub used_buses_spec : {M : Type 1} → statement M
used_buses_spec =
    tie.close
    (tie.spec
    invariant-loop-bus
    decreases-loop-bus
    loop-bus-init
    kind_at-requires
    is_used-requires
    overflow_add-used
    overflow_add-bus
    loop-bus-smaller
    loop-bus-preserved
    returns)
