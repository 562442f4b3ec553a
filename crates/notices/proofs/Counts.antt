-- Tests that are counted: none holds if the count is 0. Numbers that are joined: all are 0 if that is.
use Prim.Native.Nat.{ℕ, zero, suc, ◌+◌, ◌≤◌}
use native.Mathlib.Omega.{arith}
use mathlib.Core.Bool.{Bool, true, false, cond, ◌&&◌, ◌||◌, not}
use mathlib.Core.Path.{◌≡◌, refl, ap, sym, ◌∙◌}
use lib.Bits.{bit_and, bit_or}
use lib.Dec.{eqb}
use mir.Val.{bool_byte}
use borrow.Author.Tests.{ne_eqb}
use Rattle.notices.specs.Laws.Rows.{or_zero}

pub count_low : (t : Bool) (n i : ℕ) → n ≤ i → n + bool_byte t ≤ i + 1
count_low true n i h = omega arith
count_low false n i h = omega arith

-- nothing more
pub or_none : (t : Bool) → (t || false) ≡ t
or_none true = refl
or_none false = refl

-- two tests at once
pub both_hold : (t u : Bool) → bit_and (bool_byte t) (bool_byte u) ≡ bool_byte (t && u)
both_hold true true = refl
both_hold true false = refl
both_hold false u = refl

past : (m : ℕ) → (m ≡ 0 → ⊥) → (r : Bool) → (not (eqb m 0) || r) ≡ true
past m d r = rw (ne_eqb m 0 d)

-- one more that may hold
pub any_count : (n : ℕ) (t rest : Bool) → (not (eqb n 0) || (t || rest)) ≡ (not (eqb (n + bool_byte t) 0) || rest)
any_count zero true rest = refl
any_count zero false rest = refl
any_count (suc n) t rest =
    past (suc n) (λ (z : suc n ≡ 0). omega arith) (t || rest) ∙ sym (past (suc n + bool_byte t) (λ (z : suc n + bool_byte t ≡ 0). omega arith) rest)

-- one more that may not be 0
pub none_either : (a b : ℕ) (rest : Bool) → cond (eqb a 0) (cond (eqb b 0) rest false) false ≡ cond (eqb (bit_or a b) 0) rest false
none_either a b rest = nested (eqb a 0) (eqb b 0) ∙ ap (λ z. cond z rest false) (sym (or_zero a b))
  where
    nested : (x y : Bool) → cond x (cond y rest false) false ≡ cond (x && y) rest false
    nested true y = refl
    nested false y = refl
