use mathlib.Core.Bool.{◌||◌}
use Rattle.notices.specs.Laws.Rows.{arinc_next, arinc_end}
use Prim.Native.Nat.{◌+◌, ◌*◌, ◌-◌, ◌≤◌}
use mathlib.Core.Path.{◌≡◌, refl, ap, sym, ◌∙◌}
use native.Mathlib.Omega.{arith}
use mathlib.Core.Bool.{Bool, true, false}
use lib.ListN.{drop}
use Rattle.notices.specs.Table.{has_arinc}
use borrow.Author.Rules.{rules}
use Rattle.notices.proofs.has_arinc.Statement.{statement}
use Rattle.notices.proofs.has_arinc.Tie as tie
use Rattle.notices.proofs.has_arinc.Reads as reads
use Rattle.notices.proofs.has_arinc.Lts as lts
use Rattle.notices.proofs.is_arinc.Reads as is-arinc-reads

abbrev invariant-loop-bus : tie.invariant-loop-bus
invariant-loop-bus kinds bus₀ bus = (bus ≤ 16) × (has_arinc kinds ≡ has_arinc (drop bus kinds))

abbrev decreases-loop-bus : tie.decreases-loop-bus
decreases-loop-bus kinds bus₀ bus = 16 - bus

loop-bus-init : tie.Need-loop-bus-init invariant-loop-bus decreases-loop-bus
loop-bus-init c = (omega arith, refl)

bounds-kinds-bus : tie.Need-bounds-kinds-bus invariant-loop-bus decreases-loop-bus
bounds-kinds-bus c = search rules

is_arinc-requires : tie.Need-is_arinc-requires invariant-loop-bus decreases-loop-bus
is_arinc-requires c κs = search rules

returns-then-is_arinc : tie.Need-returns-then-is_arinc invariant-loop-bus decreases-loop-bus
returns-then-is_arinc c =
    let o = c.loop-bus in
    let ks = c.args.kinds in
    sym (o.invariant.1 ∙ arinc_next ks o.bus (omega (arith, c.well_formed.0, c.loop-bus-test.true))
    ∙ ap (λ (b : Bool). b || has_arinc (drop (o.bus + 1) ks)) (sym c.is_arinc.ensures ∙ c.if-is_arinc.true))

overflow_add-bus : tie.Need-overflow_add-bus invariant-loop-bus decreases-loop-bus
overflow_add-bus c = search rules

loop-bus-smaller : tie.Need-loop-bus-smaller invariant-loop-bus decreases-loop-bus
loop-bus-smaller c = search rules

loop-bus-preserved : tie.Need-loop-bus-preserved invariant-loop-bus decreases-loop-bus
loop-bus-preserved c =
    let o = c.loop-bus in
    let ks = c.args.kinds in (
      omega (arith, c.loop-bus-test.true),
      o.invariant.1 ∙ arinc_next ks o.bus (omega (arith, c.well_formed.0, c.loop-bus-test.true))
          ∙ ap (λ (b : Bool). b || has_arinc (drop (o.bus + 1) ks)) (sym c.is_arinc.ensures ∙ c.if-is_arinc.false),
    )

returns : tie.Need-returns invariant-loop-bus decreases-loop-bus
returns c =
    let o = c.loop-bus in
    let ks = c.args.kinds in
    let e : o.bus ≡ 16 = omega (arith, c.loop-bus-test.false, o.invariant.0) in
    sym (o.invariant.1 ∙ ap (λ n. has_arinc (drop n ks)) e ∙ arinc_end ks (omega (arith, c.well_formed.0)))

pub has_arinc_spec : {M : Type 1} → statement M
has_arinc_spec =
    tie.close
    (tie.spec
    invariant-loop-bus
    decreases-loop-bus
    loop-bus-init
    bounds-kinds-bus
    is_arinc-requires
    returns-then-is_arinc
    overflow_add-bus
    loop-bus-smaller
    loop-bus-preserved
    returns)
