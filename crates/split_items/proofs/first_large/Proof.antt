use Prim.Native.Nat.{◌-◌, ◌≤◌}
use native.Mathlib.Omega.{arith}
use borrow.Author.Rules.{rules}
use lib.ListN.{length}
use Rattle.split_items.proofs.Numbers.{LowTo, low_more}
use Rattle.split_items.proofs.first_large.Statement.{statement}
use Rattle.split_items.proofs.first_large.Tie as tie

abbrev invariant-loop-i : tie.invariant-loop-i
invariant-loop-i words i₀ i = (i ≤ length words) × LowTo words i

abbrev decreases-loop-i : tie.decreases-loop-i
decreases-loop-i words i₀ i = length words - i

loop-i-init : tie.Need-loop-i-init invariant-loop-i decreases-loop-i
loop-i-init c = (omega arith, λ k l. absurd (omega arith))

offset_bounds-words-i : tie.Need-offset_bounds-words-i invariant-loop-i decreases-loop-i
offset_bounds-words-i c = search rules

bounds-words-i : tie.Need-bounds-words-i invariant-loop-i decreases-loop-i
bounds-words-i c = search rules

returns-then-words-i-gt16777215 : tie.Need-returns-then-words-i-gt16777215 invariant-loop-i decreases-loop-i
returns-then-words-i-gt16777215 c =
    let l = c.loop-i in
    record { few = l.invariant.0; low = l.invariant.1; high = λ h. omega (arith, c.if-words-i-gt16777215.true) }

overflow_add-i : tie.Need-overflow_add-i invariant-loop-i decreases-loop-i
overflow_add-i c = search rules

loop-i-smaller : tie.Need-loop-i-smaller invariant-loop-i decreases-loop-i
loop-i-smaller c = search rules

loop-i-preserved : tie.Need-loop-i-preserved invariant-loop-i decreases-loop-i
loop-i-preserved c =
    let l = c.loop-i in
    (omega arith, low_more c.args.words.now l.i l.invariant.1 (omega (arith, c.if-words-i-gt16777215.false)))

returns : tie.Need-returns invariant-loop-i decreases-loop-i
returns c =
    let l = c.loop-i in
    record { few = l.invariant.0; low = l.invariant.1; high = λ h. absurd (omega (arith, h, c.loop-i-test.false)) }

pub first_large_spec : {M : Type 1} → statement M
first_large_spec =
    tie.close
    (tie.spec
    invariant-loop-i
    decreases-loop-i
    loop-i-init
    offset_bounds-words-i
    bounds-words-i
    returns-then-words-i-gt16777215
    overflow_add-i
    loop-i-smaller
    loop-i-preserved
    returns)
