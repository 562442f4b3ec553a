-- Numbers above 24 bits, counted and looked for.
use Prim.Native.Nat.{ℕ, zero, suc, ◌+◌, ◌^◌, ◌≤◌, ◌<◌}
use native.Mathlib.Omega.{arith}
use mathlib.Core.Bool.{Bool, true, false, ◌||◌}
use mathlib.Core.Path.{◌≡◌, refl, ap, sym, ◌∙◌}
use mathlib.Core.List.{List, [], ◌∷◌}
use lib.ListN.{length, drop, get_or}
use lib.Dec.{ltb}
use native.Mathlib.Decide.{dec_lt}
use borrow.Author.Tests.{ltb-false}
use Rattle.format.specs.Lists.{All, nil, cons}
use Rattle.format.specs.Laws.Reader.Counted.{drop_next, drop_none}
use Rattle.format.specs.Laws.Tests.{clash}
use Rattle.split_items.specs.Numbers.{any_large, LowFront}

pub large_next : (ws : List ℕ) (i : ℕ) → i < length ws → any_large (drop i ws) ≡ (ltb 16777215 (get_or ws i 0) || any_large (drop (i + 1) ws))
unfolding any_large
large_next ws i l = rw (drop_next i ws l) refl

pub large_end : (ws : List ℕ) (i : ℕ) → length ws ≤ i → any_large (drop i ws) ≡ false
unfolding any_large
large_end ws i l = rw (drop_none i ws l) refl

or_false : (a b : Bool) → (a || b) ≡ false → (a ≡ false) × (b ≡ false)
or_false true b e = clash (sym e)
or_false false b e = (refl, e)

none_large : (ws : List ℕ) → any_large ws ≡ false → (i : ℕ) → i < length ws → get_or ws i 0 < 2 ^ 24
unfolding any_large
none_large [] e i l = absurd (omega arith)
none_large (w ∷ ws) e zero l = let h = ltb-false 16777215 w (or_false (ltb 16777215 w) (any_large ws) e).0 in omega arith
none_large (w ∷ ws) e (suc i) l = none_large ws (or_false (ltb 16777215 w) (any_large ws) e).1 i (omega arith)

pub all_low : (ws : List ℕ) → any_large ws ≡ false → LowFront ws (length ws)
all_low ws e = record { few = omega arith; low = none_large ws e; high = λ h. absurd (omega arith) }

-- ---- looked for

abbrev pub LowTo : List ℕ → ℕ → Type 0
LowTo ws i = (k : ℕ) → k < i → get_or ws k 0 < 2 ^ 24

pub low_more : (ws : List ℕ) (i : ℕ) → LowTo ws i → get_or ws i 0 ≤ 16777215 → LowTo ws (i + 1)
low_more ws i a h k l = go (dec_lt k i)
  where
    go : Dec (k < i) → get_or ws k 0 < 2 ^ 24
    go (yes m) = a k m
    go (no m) = let e : k ≡ i = omega arith in rw e (omega arith)

-- a row of such words, one by one
pub words_all : (ws : List ℕ) → LowTo ws (length ws) → All (λ w. w < 2 ^ 24) ws
words_all [] a = nil
words_all (w ∷ ws) a = cons (a 0 (omega arith)) (words_all ws (λ k l. a (suc k) (omega arith)))
