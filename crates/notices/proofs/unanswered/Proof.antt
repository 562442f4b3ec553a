use native.Mathlib.Omega.{arith}
use Prim.Native.Nat.{◌+◌, ◌-◌, ◌≤◌, ◌<◌}
use mathlib.Core.Bool.{Bool, true, false, not, ◌&&◌, ◌||◌}
use mathlib.Core.Path.{◌≡◌, refl, ap, sym, ◌∙◌}
use lib.Bits.{bit_and, bit_xor}
use lib.Dec.{eqb}
use mir.Val.{bool_byte}
use borrow.Author.Tests.{eq-eqb, ne_eqb}
use lib.ListN.{drop, get_or, length}
use Rattle.notices.specs.Marks.{marked, unanswered}
use Rattle.notices.specs.Laws.Marks.{unanswered_next, unanswered_last}
use Rattle.notices.proofs.Counts.{count_low, any_count, both_hold, or_none}
use borrow.Author.Rules.{rules}
use Rattle.notices.proofs.unanswered.Statement.{statement}
use Rattle.notices.proofs.unanswered.Tie as tie
use Rattle.notices.proofs.unanswered.Reads as reads
use Rattle.notices.proofs.unanswered.Lts as lts
use Rattle.notices.proofs.changed.Reads as changed-reads
use Rattle.notices.proofs.code_bits.Reads as code-bits-reads

abbrev invariant-loop-i : tie.invariant-loop-i
invariant-loop-i mask value parity row codes count₀ i₀ count i =
    (i < length row) × (count ≤ i) × (unanswered mask value parity row ≡ (not (eqb count 0) || unanswered mask value parity (drop i row)))

abbrev decreases-loop-i : tie.decreases-loop-i
decreases-loop-i mask value parity row codes count₀ i₀ count i = length row - i

code_bits-codes-requires : tie.Need-code_bits-codes-requires invariant-loop-i decreases-loop-i
code_bits-codes-requires c κs = search rules

abbrev entry : tie.At-loop-i invariant-loop-i decreases-loop-i → tie.Start invariant-loop-i decreases-loop-i
entry c = c.before.before.before

loop-i-init : tie.Need-loop-i-init invariant-loop-i decreases-loop-i
loop-i-init c = (c.requires.1, omega arith, refl)

overflow_add-i : tie.Need-overflow_add-i invariant-loop-i decreases-loop-i
overflow_add-i c = search rules

offset_bounds-row-i : tie.Need-offset_bounds-row-i invariant-loop-i decreases-loop-i
offset_bounds-row-i c = search rules

bounds-row-i : tie.Need-bounds-row-i invariant-loop-i decreases-loop-i
bounds-row-i c = search rules

overflow_add-other : tie.Need-overflow_add-other invariant-loop-i decreases-loop-i
overflow_add-other c = search rules

offset_bounds-row-i-in-loop-i : tie.Need-offset_bounds-row-i-in-loop-i invariant-loop-i decreases-loop-i
offset_bounds-row-i-in-loop-i c = search rules

bounds-row-i-in-loop-i : tie.Need-bounds-row-i-in-loop-i invariant-loop-i decreases-loop-i
bounds-row-i-in-loop-i c = search rules

changed-requires : tie.Need-changed-requires invariant-loop-i decreases-loop-i
changed-requires c κs = (entry c.before.before.before).requires.0 c.loop-i.i c.loop-i.invariant.0

overflow_cast-count : tie.Need-overflow_cast-count invariant-loop-i decreases-loop-i
overflow_cast-count c = tt

overflow_cast-count-in-loop-i : tie.Need-overflow_cast-count-in-loop-i invariant-loop-i decreases-loop-i
overflow_cast-count-in-loop-i c = tt

-- the turn of the loop, and its two tests
abbrev here : tie.After-changed invariant-loop-i decreases-loop-i → tie.At-loop-i invariant-loop-i decreases-loop-i
here c = c.before.before.before.before

abbrev isMarked : tie.After-changed invariant-loop-i decreases-loop-i → Bool
isMarked c = marked (entry (here c)).args.mask (entry (here c)).args.value (get_or (entry (here c)).args.row.now (here c).loop-i.i 0)

abbrev isOther : tie.After-changed invariant-loop-i decreases-loop-i → Bool
isOther c = not (eqb (bit_and (bit_xor (get_or (entry (here c)).args.row.now ((here c).loop-i.i + 1) 0) c.changed.result) (here c).code_bits-codes.result) 0)

counted : (c : tie.After-changed invariant-loop-i decreases-loop-i) → (here c).loop-i.count + bool_byte (isMarked c && isOther c) ≤ (here c).loop-i.i + 1
counted c = count_low (isMarked c && isOther c) (here c).loop-i.count (here c).loop-i.i (here c).loop-i.invariant.1

overflow_add-count : tie.Need-overflow_add-count invariant-loop-i decreases-loop-i
overflow_add-count c = rw (both_hold (isMarked c) (isOther c)) (omega (arith, counted c, (entry (here c)).requires.2))

overflow_add-i-in-loop-i : tie.Need-overflow_add-i-in-loop-i invariant-loop-i decreases-loop-i
overflow_add-i-in-loop-i c = search rules

loop-i-smaller : tie.Need-loop-i-smaller invariant-loop-i decreases-loop-i
loop-i-smaller c = search rules

loop-i-preserved : tie.Need-loop-i-preserved invariant-loop-i decreases-loop-i
loop-i-preserved c =
    let o = (here c).loop-i in
    let s = entry (here c) in
    let a = s.args in
    let l : o.i + 1 < length a.row.now = c.loop-i-test.true in
    rw (both_hold (isMarked c) (isOther c)) (
      l,
      counted c,
      o.invariant.2 ∙ ap (λ t. not (eqb o.count 0) || t) (unanswered_next a.mask a.value a.parity a.row.now o.i s.requires.0 s.requires.3 l
          ∙ rw (← c.changed.ensures, ← (here c).code_bits-codes.ensures) refl)
          ∙ any_count o.count (isMarked c && isOther c) (unanswered a.mask a.value a.parity (drop (o.i + 1) a.row.now)),
    )

offset_bounds-row-i-2 : tie.Need-offset_bounds-row-i-2 invariant-loop-i decreases-loop-i
offset_bounds-row-i-2 c = search rules

bounds-row-i-2 : tie.Need-bounds-row-i-2 invariant-loop-i decreases-loop-i
bounds-row-i-2 c = search rules

-- behind the loop the last word is left
told : (c : tie.After-loop-i invariant-loop-i decreases-loop-i)
    → unanswered (entry c.before).args.mask (entry c.before).args.value (entry c.before).args.parity (entry c.before).args.row.now
    ≡ (not (eqb c.loop-i.count 0) || marked (entry c.before).args.mask (entry c.before).args.value (get_or (entry c.before).args.row.now c.loop-i.i 0))
told c =
    let o = c.loop-i in
    let a = (entry c.before).args in
    o.invariant.2 ∙ ap (λ t. not (eqb o.count 0) || t) (unanswered_last a.mask a.value a.parity a.row.now o.i (omega (arith, c.loop-i-test.false, o.invariant.0)))

returns-then-row-i : tie.Need-returns-then-row-i invariant-loop-i decreases-loop-i
returns-then-row-i c =
    let n = not (eqb c.loop-i.count 0) in
    sym (told c.before.before ∙ ap (λ t. n || t) (eq-eqb _ _ c.if-row-i.true) ∙ either n)
  where
    either : (t : Bool) → (t || true) ≡ true
    either true = refl
    either false = refl

returns : tie.Need-returns invariant-loop-i decreases-loop-i
returns c =
    let n = not (eqb c.loop-i.count 0) in
    sym (told c.before.before ∙ ap (λ t. n || t) (ne_eqb _ _ c.if-row-i.false) ∙ or_none n)

pub unanswered_spec : {M : Type 1} → statement M
unanswered_spec =
    tie.close
    (tie.spec
    invariant-loop-i
    decreases-loop-i
    code_bits-codes-requires
    loop-i-init
    overflow_add-i
    offset_bounds-row-i
    bounds-row-i
    overflow_add-other
    offset_bounds-row-i-in-loop-i
    bounds-row-i-in-loop-i
    changed-requires
    overflow_cast-count
    overflow_cast-count-in-loop-i
    overflow_add-count
    overflow_add-i-in-loop-i
    loop-i-smaller
    loop-i-preserved
    offset_bounds-row-i-2
    bounds-row-i-2
    returns-then-row-i
    returns)
