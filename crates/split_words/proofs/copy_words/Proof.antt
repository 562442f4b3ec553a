use Prim.Native.Nat.{◌-◌, ◌≤◌}
use native.Mathlib.Omega.{arith}
use borrow.Author.Rules.{rules}
use lib.ListN.{length, take}
use Rattle.format.specs.Laws.Front.{Front, front_none, front_long, front_more, take_more}
use Rattle.split_words.proofs.Groups.{front_whole}
use Rattle.split_words.proofs.copy_words.Statement.{statement}
use Rattle.split_words.proofs.copy_words.Tie as tie

abbrev invariant-loop-i : tie.invariant-loop-i
invariant-loop-i to₀ from i₀ to i = (i ≤ length from) × Front (take i from) to₀ to i

abbrev decreases-loop-i : tie.decreases-loop-i
decreases-loop-i to₀ from i₀ to i = length from - i

loop-i-init : tie.Need-loop-i-init invariant-loop-i decreases-loop-i
loop-i-init c = search rules

offset_bounds-from-i : tie.Need-offset_bounds-from-i invariant-loop-i decreases-loop-i
offset_bounds-from-i c = search rules

bounds-from-i : tie.Need-bounds-from-i invariant-loop-i decreases-loop-i
bounds-from-i c = search rules

offset_bounds-to-i : tie.Need-offset_bounds-to-i invariant-loop-i decreases-loop-i
offset_bounds-to-i c = search rules

bounds-to-i : tie.Need-bounds-to-i invariant-loop-i decreases-loop-i
bounds-to-i c = omega (arith, front_long c.loop-i.invariant.1, c.loop-i-test.true, c.requires)

overflow_add-i : tie.Need-overflow_add-i invariant-loop-i decreases-loop-i
overflow_add-i c = search rules

loop-i-smaller : tie.Need-loop-i-smaller invariant-loop-i decreases-loop-i
loop-i-smaller c = search rules

loop-i-preserved : tie.Need-loop-i-preserved invariant-loop-i decreases-loop-i
loop-i-preserved c =
    let s = c.before.before.before in
    let l = c.loop-i in
    (omega (arith, c.loop-i-test.true), rw (take_more s.args.from.now l.i c.loop-i-test.true) (front_more _ l.invariant.1 (omega (arith, s.requires, c.loop-i-test.true))))

shape_of-to : tie.Need-shape_of-to invariant-loop-i decreases-loop-i
shape_of-to c = front_long c.loop-i.invariant.1

returns : tie.Need-returns invariant-loop-i decreases-loop-i
returns c = front_whole _ _ _ _ c.requires (omega (arith, c.loop-i-test.false)) c.loop-i.invariant.1

pub copy_words_spec : {M : Type 1} → statement M
copy_words_spec =
    tie.close
    (tie.spec
    invariant-loop-i
    decreases-loop-i
    loop-i-init
    offset_bounds-from-i
    bounds-from-i
    offset_bounds-to-i
    bounds-to-i
    overflow_add-i
    loop-i-smaller
    loop-i-preserved
    shape_of-to
    returns)
