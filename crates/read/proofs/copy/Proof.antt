use Prim.Native.Nat.{◌-◌, ◌≤◌}
use mathlib.Core.Path.{◌≡◌}
use native.Mathlib.Omega.{arith}
use lib.ListN.{take}
use Rattle.format.specs.Laws.Front.{Front, front_long, front_more, take_more}
use borrow.Author.Rules.{rules}
use Rattle.read.proofs.copy.Statement.{statement}
use Rattle.read.proofs.copy.Tie as tie

abbrev invariant-loop-i : tie.invariant-loop-i
invariant-loop-i to₀ from n i₀ to i = (i ≤ n) × Front (take i from) to₀ to i

abbrev decreases-loop-i : tie.decreases-loop-i
decreases-loop-i to₀ from n i₀ to i = n - i

loop-i-init : tie.Need-loop-i-init invariant-loop-i decreases-loop-i
loop-i-init c = search rules

bounds-from-i : tie.Need-bounds-from-i invariant-loop-i decreases-loop-i
bounds-from-i c = search rules

bounds-to-i : tie.Need-bounds-to-i invariant-loop-i decreases-loop-i
bounds-to-i c = omega (arith, front_long c.loop-i.invariant.1)

overflow_add-i : tie.Need-overflow_add-i invariant-loop-i decreases-loop-i
overflow_add-i c = search rules

loop-i-smaller : tie.Need-loop-i-smaller invariant-loop-i decreases-loop-i
loop-i-smaller c = search rules

loop-i-preserved : tie.Need-loop-i-preserved invariant-loop-i decreases-loop-i
loop-i-preserved c = (omega arith, rw (take_more c.args.from.now c.loop-i.i (omega arith)) (front_more _ c.loop-i.invariant.1 (omega arith)))

shape_of-to : tie.Need-shape_of-to invariant-loop-i decreases-loop-i
shape_of-to c = front_long c.loop-i.invariant.1

returns : tie.Need-returns invariant-loop-i decreases-loop-i
returns c = let e : c.loop-i.i ≡ c.args.n = omega arith in rw (← e) c.loop-i.invariant.1.is

pub copy_spec : {M : Type 1} → statement M
copy_spec =
    tie.close
    (tie.spec
    invariant-loop-i
    decreases-loop-i
    loop-i-init
    bounds-from-i
    bounds-to-i
    overflow_add-i
    loop-i-smaller
    loop-i-preserved
    shape_of-to
    returns)
