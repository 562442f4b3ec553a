use Prim.Native.Nat.{◌-◌, ◌≤◌}
use mathlib.Core.Path.{◌≡◌, refl, sym, ap, ◌∙◌}
use mathlib.Core.List.{map, map-append}
use native.Mathlib.Omega.{arith}
use native.Mathlib.Numerals.{add-one}
use lib.ListN.{length, length-set, take}
use lib.Seq.{take-suc, take-suc-set, take_all}
use Rattle.from_c.specs.Numbers.{kind_of}
use borrow.Author.Rules.{rules}
use Rattle.from_c.proofs.kinds_from.Statement.{statement}
use Rattle.from_c.proofs.kinds_from.Tie as tie

abbrev invariant-loop-bus : tie.invariant-loop-bus
invariant-loop-bus numbers kinds₀ bus₀ kinds bus = (bus ≤ 16) × (length kinds ≡ 16) × (take bus kinds ≡ map kind_of (take bus numbers))

abbrev decreases-loop-bus : tie.decreases-loop-bus
decreases-loop-bus numbers kinds₀ bus₀ kinds bus = 16 - bus

loop-bus-init : tie.Need-loop-bus-init invariant-loop-bus decreases-loop-bus
loop-bus-init c = (search rules, refl, refl)

bounds-numbers-bus : tie.Need-bounds-numbers-bus invariant-loop-bus decreases-loop-bus
bounds-numbers-bus c = search rules

kind_of-requires : tie.Need-kind_of-requires invariant-loop-bus decreases-loop-bus
kind_of-requires c κs = search rules

bounds-kinds-bus : tie.Need-bounds-kinds-bus invariant-loop-bus decreases-loop-bus
bounds-kinds-bus c = search rules

overflow_add-bus : tie.Need-overflow_add-bus invariant-loop-bus decreases-loop-bus
overflow_add-bus c = search rules

loop-bus-smaller : tie.Need-loop-bus-smaller invariant-loop-bus decreases-loop-bus
loop-bus-smaller c = search rules

loop-bus-preserved : tie.Need-loop-bus-preserved invariant-loop-bus decreases-loop-bus
loop-bus-preserved c =
    let o = c.loop-bus in
    let s = c.args.numbers.now in (
      search rules,
      simp length-set o.invariant.1,
      rw (add-one o.bus, take-suc s o.bus 0 (omega arith), take-suc-set o.kinds o.bus c.kind_of.result (omega arith), map-append kind_of (take o.bus s), ← o.invariant.2, ← c.kind_of.ensures),
    )

returns : tie.Need-returns invariant-loop-bus decreases-loop-bus
returns c =
    let o = c.loop-bus in
    let e : o.bus ≡ 16 = omega arith in
    let s = c.args.numbers.now in
    sym (take_all o.bus o.kinds (omega arith)) ∙ o.invariant.2 ∙ ap (map kind_of) (take_all o.bus s (omega arith))

pub kinds_from_spec : {M : Type 1} → statement M
kinds_from_spec =
    tie.close
    (tie.spec
    invariant-loop-bus
    decreases-loop-bus
    loop-bus-init
    bounds-numbers-bus
    kind_of-requires
    bounds-kinds-bus
    overflow_add-bus
    loop-bus-smaller
    loop-bus-preserved
    returns)
