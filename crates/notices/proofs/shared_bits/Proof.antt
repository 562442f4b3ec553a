use native.Mathlib.Omega.{arith}
use Prim.Native.Nat.{◌+◌, ◌-◌, ◌≤◌, ◌<◌}
use mathlib.Core.Path.{◌≡◌, refl, ap, sym, ◌∙◌}
use lib.ListN.{drop}
use Rattle.notices.specs.Marks.{shared}
use Rattle.notices.specs.Laws.Marks.{shared_next, shared_end}
use borrow.Author.Rules.{rules}
use Rattle.notices.proofs.shared_bits.Statement.{statement}
use Rattle.notices.proofs.shared_bits.Tie as tie
use Rattle.notices.proofs.shared_bits.Reads as reads
use Rattle.notices.proofs.shared_bits.Lts as lts
use Rattle.notices.proofs.with_bus.Reads as with-bus-reads

abbrev invariant-loop-number : tie.invariant-loop-number
invariant-loop-number ones kinds bits₀ number₀ bits number = (number ≤ 16) × (bits < 16) × (shared ones 15 0 kinds ≡ shared ones bits number (drop number kinds))

abbrev decreases-loop-number : tie.decreases-loop-number
decreases-loop-number ones kinds bits₀ number₀ bits number = 16 - number

loop-number-init : tie.Need-loop-number-init invariant-loop-number decreases-loop-number
loop-number-init c = (omega arith, omega arith, refl)

bounds-kinds-number : tie.Need-bounds-kinds-number invariant-loop-number decreases-loop-number
bounds-kinds-number c = search rules

overflow_cast-number : tie.Need-overflow_cast-number invariant-loop-number decreases-loop-number
overflow_cast-number c = search rules

with_bus-bits-requires : tie.Need-with_bus-bits-requires invariant-loop-number decreases-loop-number
with_bus-bits-requires c κs = search rules

overflow_add-number : tie.Need-overflow_add-number invariant-loop-number decreases-loop-number
overflow_add-number c = search rules

loop-number-smaller : tie.Need-loop-number-smaller invariant-loop-number decreases-loop-number
loop-number-smaller c = search rules

loop-number-preserved : tie.Need-loop-number-preserved invariant-loop-number decreases-loop-number
loop-number-preserved c =
    let o = c.loop-number in
    let a = c.args in
    let w = c.with_bus-bits in (
      omega arith,
      w.ensures.1,
      o.invariant.2
          ∙ shared_next a.ones o.bits a.kinds o.number (omega (arith, c.well_formed.0, c.loop-number-test.true))
          ∙ ap (λ n. shared a.ones n (o.number + 1) (drop (o.number + 1) a.kinds)) (sym w.ensures.0),
    )

returns : tie.Need-returns invariant-loop-number decreases-loop-number
returns c =
    let o = c.loop-number in
    let s = c.before.before in
    let e : o.number ≡ 16 = omega (arith, c.loop-number-test.false, o.invariant.0) in
    (sym (o.invariant.2 ∙ rw e (shared_end s.args.ones o.bits s.args.kinds (omega (arith, s.well_formed.0)))), o.invariant.1)

pub shared_bits_spec : {M : Type 1} → statement M
shared_bits_spec =
    tie.close
    (tie.spec
    invariant-loop-number
    decreases-loop-number
    loop-number-init
    bounds-kinds-number
    overflow_cast-number
    with_bus-bits-requires
    overflow_add-number
    loop-number-smaller
    loop-number-preserved
    returns)
