-- Bits that numbers share. A number x is within a, `bit_and a x ≡ x`, if a has every bit of x.
use Rattle.std.specs.Prelude.{ℕ, zero, suc, ◌+◌, ◌*◌, ◌/◌, ◌%◌, ◌^◌, ◌-◌, ◌<◌, min, max, Bool, true, false, ◌≡◌, refl, eqb}
use Rattle.std.proofs.Common.{arith, ap, sym, ◌∙◌, eq-eqb, ne_eqb, eqb-true}
use Rattle.std.proofs.Math.Nat.{zero-min, zero-max, max-zero}
use Rattle.std.proofs.Math.Arith.{bin_ind}
use Rattle.std.specs.Int.Bits.{bit_and, bit_or, bit_xor, and_step, or_step, and_zero_l, and_self, or_zero_r, xor_self, xor_add_and}
use Rattle.std.proofs.lemmas.Nat.{and_comm, and_shr, and_mod, or_shr, or_mod, and_le_l, and_le_r}
use Rattle.std.proofs.lemmas.Bool.{eqb-false}

-- ---- digit by digit

-- what holds of 0 and of 1 holds of a digit
pub digit : (P : ℕ → Type 0) → P 0 → P 1 → (a : ℕ) → P (a % 2)
digit P z o a = go (a % 2) (omega arith)
  where
    go : (x : ℕ) → x < 2 → P x
    go zero h = z
    go (suc zero) h = o
    go (suc (suc x)) h = absurd (omega arith)

and_odd : (a b : ℕ) → bit_and a b % 2 ≡ min (a % 2) (b % 2)
and_odd a b = and_mod a b 1 ∙ digit (λ x. bit_and x (b % 2) ≡ min x (b % 2)) (sym (zero-min (b % 2))) (digit (λ y. bit_and 1 y ≡ min 1 y) refl refl b) a

or_odd : (a b : ℕ) → bit_or a b % 2 ≡ max (a % 2) (b % 2)
or_odd a b = or_mod a b 1 ∙ digit (λ x. bit_or x (b % 2) ≡ max x (b % 2)) (sym (zero-max (b % 2))) (digit (λ y. bit_or 1 y ≡ max 1 y) refl refl b) a

and_in_turn : (a b c : ℕ) → bit_and (bit_and a b) c ≡ bit_and a (bit_and b c)
and_in_turn =
    bin_ind (λ (a : ℕ). (b c : ℕ) → bit_and (bit_and a b) c ≡ bit_and a (bit_and b c)) (λ b c. rw (and_zero_l b, and_zero_l c, and_zero_l (bit_and b c)))
    (λ a ih b c.
    and_step (bit_and a b) c ∙ rw (and_shr a b 1, and_odd a b, ih (b / 2) (c / 2), digits a b c, ← (and_odd b c)) (sym (and_step a (bit_and b c) ∙ rw (and_shr b c 1))))
  where
    digits : (a b c : ℕ) → min (min (a % 2) (b % 2)) (c % 2) ≡ min (a % 2) (min (b % 2) (c % 2))
    digits a b c =
        digit (λ x. min (min x (b % 2)) (c % 2) ≡ min x (min (b % 2) (c % 2))) (rw (zero-min (b % 2), zero-min (c % 2), zero-min (min (b % 2) (c % 2))))
        (digit (λ y. min (min 1 y) (c % 2) ≡ min 1 (min y (c % 2))) (rw (zero-min (c % 2))) (digit (λ z. min 1 z ≡ min 1 (min 1 z)) refl refl c) b) a

and_or : (a b c : ℕ) → bit_and a (bit_or b c) ≡ bit_or (bit_and a b) (bit_and a c)
and_or =
    bin_ind (λ (a : ℕ). (b c : ℕ) → bit_and a (bit_or b c) ≡ bit_or (bit_and a b) (bit_and a c)) (λ b c. rw (and_zero_l b, and_zero_l c, and_zero_l (bit_or b c)))
    (λ a ih b c.
    and_step a (bit_or b c) ∙ rw (or_shr b c 1, or_odd b c, ih (b / 2) (c / 2), digits a b c, ← (and_odd a b), ← (and_odd a c))
    (sym (or_step (bit_and a b) (bit_and a c) ∙ rw (and_shr a b 1, and_shr a c 1))))
  where
    digits : (a b c : ℕ) → min (a % 2) (max (b % 2) (c % 2)) ≡ max (min (a % 2) (b % 2)) (min (a % 2) (c % 2))
    digits a b c =
        digit (λ x. min x (max (b % 2) (c % 2)) ≡ max (min x (b % 2)) (min x (c % 2))) (rw (zero-min (max (b % 2) (c % 2)), zero-min (b % 2), zero-min (c % 2)))
        (digit (λ y. min 1 (max y (c % 2)) ≡ max (min 1 y) (min 1 (c % 2))) (rw (zero-max (c % 2), zero-max (min 1 (c % 2))))
        (digit (λ z. min 1 (max 1 z) ≡ max 1 (min 1 z)) refl refl c) b) a

-- ---- within

abbrev pub Within : ℕ → ℕ → Type 0
Within x a = bit_and a x ≡ x

pub within_trans : (a x y : ℕ) → Within x a → Within y x → Within y a
within_trans a x y f g = ap (bit_and a) (sym g) ∙ sym (and_in_turn a x y) ∙ ap (λ n. bit_and n y) f ∙ g

pub within_left : (a b : ℕ) → Within (bit_and a b) a
within_left a b = sym (and_in_turn a a b) ∙ ap (λ n. bit_and n b) (and_self a)

pub within_right : (a b : ℕ) → Within (bit_and a b) b
within_right a b = ap (bit_and b) (and_comm a b) ∙ within_left b a ∙ and_comm b a

-- the bits of one within a number, and those of another within what it lacks
pub within_both : (a b ones zeros : ℕ) → bit_and a b ≡ 0 → Within ones a → Within zeros b → bit_and a (bit_or ones zeros) ≡ ones
within_both a b ones zeros apart f g =
    let none : bit_and a zeros ≡ 0 = ap (bit_and a) (sym g) ∙ sym (and_in_turn a b zeros) ∙ ap (λ n. bit_and n zeros) apart ∙ and_zero_l zeros in
    and_or a ones zeros ∙ rw (f, none) (or_zero_r ones)

-- ---- a test for equal numbers

pub xor_zero : (a b : ℕ) → eqb (bit_xor a b) 0 ≡ eqb a b
xor_zero a b = go (eqb a b) refl
  where
    go : (t : Bool) → eqb a b ≡ t → eqb (bit_xor a b) 0 ≡ t
    go true e = eq-eqb (bit_xor a b) 0 (ap (λ n. bit_xor n b) (eqb-true a b e) ∙ xor_self b)
    go false e = ne_eqb (bit_xor a b) 0 (λ z. eqb-false a b e (omega (arith, z, xor_add_and a b, and_le_l a b, and_le_r a b)))
