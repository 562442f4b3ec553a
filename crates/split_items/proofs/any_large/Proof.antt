use Prim.Native.Nat.{◌+◌, ◌-◌, ◌≤◌}
use native.Mathlib.Omega.{arith}
use mathlib.Core.Bool.{Bool, true, false, not, ◌||◌}
use mathlib.Core.Path.{◌≡◌, refl, ap, sym, ◌∙◌}
use lib.ListN.{drop, get_or, length}
use lib.Dec.{eqb, ltb}
use borrow.Author.Rules.{rules}
use Rattle.notices.proofs.Counts.{count_low, any_count}
use Rattle.split_items.specs.Numbers.{any_large}
use Rattle.split_items.proofs.Numbers.{large_next, large_end}
use Rattle.split_items.proofs.any_large.Statement.{statement}
use Rattle.split_items.proofs.any_large.Tie as tie

abbrev invariant-loop-i : tie.invariant-loop-i
invariant-loop-i words large₀ i₀ large i = (i ≤ length words) × (large ≤ i) × (any_large words ≡ (not (eqb large 0) || any_large (drop i words)))

abbrev decreases-loop-i : tie.decreases-loop-i
decreases-loop-i words large₀ i₀ large i = length words - i

loop-i-init : tie.Need-loop-i-init invariant-loop-i decreases-loop-i
loop-i-init c = (omega arith, omega arith, refl)

offset_bounds-words-i : tie.Need-offset_bounds-words-i invariant-loop-i decreases-loop-i
offset_bounds-words-i c = search rules

bounds-words-i : tie.Need-bounds-words-i invariant-loop-i decreases-loop-i
bounds-words-i c = search rules

overflow_cast-large : tie.Need-overflow_cast-large invariant-loop-i decreases-loop-i
overflow_cast-large c = tt

overflow_add-large : tie.Need-overflow_add-large invariant-loop-i decreases-loop-i
overflow_add-large c =
    let o = c.loop-i in
    let ws = c.args.words.now in
    omega (arith, count_low (ltb 16777215 (get_or ws o.i 0)) o.large o.i o.invariant.1)

overflow_add-i : tie.Need-overflow_add-i invariant-loop-i decreases-loop-i
overflow_add-i c = search rules

loop-i-smaller : tie.Need-loop-i-smaller invariant-loop-i decreases-loop-i
loop-i-smaller c = search rules

loop-i-preserved : tie.Need-loop-i-preserved invariant-loop-i decreases-loop-i
loop-i-preserved c =
    let o = c.loop-i in
    let ws = c.args.words.now in (
      omega arith,
      count_low (ltb 16777215 (get_or ws o.i 0)) o.large o.i o.invariant.1,
      o.invariant.2 ∙ ap (λ z. not (eqb o.large 0) || z) (large_next ws o.i (omega arith))
          ∙ any_count o.large (ltb 16777215 (get_or ws o.i 0)) (any_large (drop (o.i + 1) ws)),
    )

returns : tie.Need-returns invariant-loop-i decreases-loop-i
returns c =
    let o = c.loop-i in
    let ws = c.args.words.now in
    sym (o.invariant.2 ∙ ap (λ z. not (eqb o.large 0) || z) (large_end ws o.i (omega arith)) ∙ whole (not (eqb o.large 0)))
  where
    whole : (b : Bool) → (b || false) ≡ b
    whole true = refl
    whole false = refl

pub any_large_spec : {M : Type 1} → statement M
any_large_spec =
    tie.close
    (tie.spec
    invariant-loop-i
    decreases-loop-i
    loop-i-init
    offset_bounds-words-i
    bounds-words-i
    overflow_cast-large
    overflow_add-large
    overflow_add-i
    loop-i-smaller
    loop-i-preserved
    returns)
