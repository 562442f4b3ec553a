use Prim.Native.Nat.{◌-◌, ◌≤◌}
use mathlib.Core.Bool.{◌&&◌}
use mathlib.Core.Path.{◌≡◌, refl}
use native.Mathlib.Omega.{arith}
use lib.ListN.{length, drop}
use Rattle.from_c.specs.Numbers.{are_kinds}
use Rattle.from_c.proofs.NamedKinds.{kinds_all, kinds_so_far}
use borrow.Author.Rules.{rules}
use Rattle.from_c.proofs.are_kinds.Statement.{statement}
use Rattle.from_c.proofs.are_kinds.Tie as tie

abbrev invariant-loop-bus : tie.invariant-loop-bus
invariant-loop-bus kinds good₀ bus₀ good bus = (bus ≤ length kinds) × (are_kinds kinds ≡ (good && are_kinds (drop bus kinds)))

abbrev decreases-loop-bus : tie.decreases-loop-bus
decreases-loop-bus kinds good₀ bus₀ good bus = length kinds - bus

loop-bus-init : tie.Need-loop-bus-init invariant-loop-bus decreases-loop-bus
loop-bus-init c = (omega arith, refl)

bounds-kinds-bus : tie.Need-bounds-kinds-bus invariant-loop-bus decreases-loop-bus
bounds-kinds-bus c = search rules

both-good-requires : tie.Need-both-good-requires invariant-loop-bus decreases-loop-bus
both-good-requires c κs = search rules

overflow_add-bus : tie.Need-overflow_add-bus invariant-loop-bus decreases-loop-bus
overflow_add-bus c = search rules

loop-bus-smaller : tie.Need-loop-bus-smaller invariant-loop-bus decreases-loop-bus
loop-bus-smaller c = search rules

loop-bus-preserved : tie.Need-loop-bus-preserved invariant-loop-bus decreases-loop-bus
loop-bus-preserved c =
    let i = c.before.before in
    let o = i.loop-bus in
    (omega (arith, i.loop-bus-test.true), kinds_so_far i.args.kinds.now o.bus o.good i.loop-bus-test.true o.invariant.1 c.both-good.ensures)

returns : tie.Need-returns invariant-loop-bus decreases-loop-bus
returns c =
    let o = c.loop-bus in
    kinds_all c.args.kinds.now o.bus o.good c.loop-bus-test.false o.invariant.1

pub are_kinds_spec : {M : Type 1} → statement M
are_kinds_spec = tie.close (tie.spec invariant-loop-bus decreases-loop-bus loop-bus-init bounds-kinds-bus both-good-requires overflow_add-bus loop-bus-smaller loop-bus-preserved returns)
