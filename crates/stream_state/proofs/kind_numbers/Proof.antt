use Prim.Native.Nat.{◌-◌, ◌≤◌}
use mathlib.Core.Path.{◌≡◌, refl, sym, ap, ◌∙◌}
use mathlib.Core.List.{map, map-append}
use native.Mathlib.Omega.{arith}
use native.Mathlib.Numerals.{add-one}
use lib.ListN.{length, length-set, take}
use lib.Seq.{take-suc, take-suc-set, take_all}
use Rattle.format.specs.declared.Kind.TheVariants.{Unused}
use Rattle.stream_rules.specs.StateNumbers.{kind_number}
use borrow.Author.Rules.{rules}
use Rattle.stream_state.proofs.kind_numbers.Statement.{statement}
use Rattle.stream_state.proofs.kind_numbers.Tie as tie
use Rattle.stream_state.proofs.kind_numbers.Reads as reads
use Rattle.stream_state.proofs.kind_numbers.Lts as lts
use Rattle.stream_state.proofs.kind_number.Reads as kind-number-reads

abbrev invariant-loop-bus : tie.invariant-loop-bus
invariant-loop-bus kinds numbers₀ bus₀ numbers bus = (bus ≤ 16) × (length numbers ≡ 16) × (length kinds ≡ 16) × (take bus numbers ≡ map kind_number (take bus kinds))

abbrev decreases-loop-bus : tie.decreases-loop-bus
decreases-loop-bus kinds numbers₀ bus₀ numbers bus = 16 - bus

loop-bus-init : tie.Need-loop-bus-init invariant-loop-bus decreases-loop-bus
loop-bus-init c = (search rules, refl, c.requires, refl)

bounds-kinds-bus : tie.Need-bounds-kinds-bus invariant-loop-bus decreases-loop-bus
bounds-kinds-bus c = search rules

kind_number-requires : tie.Need-kind_number-requires invariant-loop-bus decreases-loop-bus
kind_number-requires c κs = search rules

offset_bounds-numbers-bus : tie.Need-offset_bounds-numbers-bus invariant-loop-bus decreases-loop-bus
offset_bounds-numbers-bus c = search rules

bounds-numbers-bus : tie.Need-bounds-numbers-bus invariant-loop-bus decreases-loop-bus
bounds-numbers-bus c = search rules

overflow_add-bus : tie.Need-overflow_add-bus invariant-loop-bus decreases-loop-bus
overflow_add-bus c = search rules

loop-bus-smaller : tie.Need-loop-bus-smaller invariant-loop-bus decreases-loop-bus
loop-bus-smaller c = search rules

loop-bus-preserved : tie.Need-loop-bus-preserved invariant-loop-bus decreases-loop-bus
loop-bus-preserved c = let o = c.loop-bus in
    let ks = c.args.kinds in
    let was = take-suc ks o.bus Unused (omega arith) in
    let new = take-suc-set o.numbers o.bus c.kind_number.result (omega arith) in (
      search rules,
      simp length-set o.invariant.1,
      o.invariant.2,
      rw (add-one o.bus, was, new, map-append kind_number (take o.bus ks), ← o.invariant.3, ← c.kind_number.ensures),
    )

returns : tie.Need-returns invariant-loop-bus decreases-loop-bus
returns c = let o = c.loop-bus in
    let ks = c.args.kinds in
    sym (take_all o.bus o.numbers (omega arith)) ∙ o.invariant.3 ∙ ap (map kind_number) (take_all o.bus ks (omega arith))

pub kind_numbers_spec : {M : Type 1} → statement M
kind_numbers_spec =
    tie.close
    (tie.spec
    invariant-loop-bus
    decreases-loop-bus
    loop-bus-init
    bounds-kinds-bus
    kind_number-requires
    offset_bounds-numbers-bus
    bounds-numbers-bus
    overflow_add-bus
    loop-bus-smaller
    loop-bus-preserved
    returns)
