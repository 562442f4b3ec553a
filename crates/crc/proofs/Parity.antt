-- The parity of a xor is the xor of the parities.
use Prim.Native.Nat.{ℕ, zero, suc, ◌+◌, ◌/◌, ◌%◌, ◌<◌}
use native.Mathlib.Nat.{mod-lt, zero-lt-suc}
use native.Mathlib.Omega.{arith}
use mathlib.Core.Path.{◌≡◌, refl, sym, ap, ap₂, ◌∙◌}
use lib.Bits.{bit_xor, xor_mod, xor_shr}
use Rattle.format.specs.Word.{ones}
use Rattle.crc.proofs.Xor.{xor_swap}

bits_sum : (p q : ℕ) → p < 2 → q < 2 → (p + q) % 2 ≡ bit_xor p q
bits_sum zero zero hp hq = refl
bits_sum zero (suc zero) hp hq = refl
bits_sum zero (suc (suc q)) hp hq = absurd (omega arith)
bits_sum (suc zero) zero hp hq = refl
bits_sum (suc zero) (suc zero) hp hq = refl
bits_sum (suc zero) (suc (suc q)) hp hq = absurd (omega arith)
bits_sum (suc (suc p)) q hp hq = absurd (omega arith)

sum_odd : (a b : ℕ) → (a + b) % 2 ≡ bit_xor (a % 2) (b % 2)
sum_odd a b =
    let e : (a + b) % 2 ≡ (a % 2 + b % 2) % 2 = omega arith in
    e ∙ bits_sum (a % 2) (b % 2) (mod-lt a (zero-lt-suc 1)) (mod-lt b (zero-lt-suc 1))

first_odd : (a b : ℕ) → (a % 2 + b) % 2 ≡ bit_xor (a % 2) (b % 2)
first_odd a b =
    let e : (a % 2 + b) % 2 ≡ (a + b) % 2 = omega arith in
    e ∙ sum_odd a b

pub odd_xor : (k x y : ℕ) → ones k (bit_xor x y) % 2 ≡ bit_xor (ones k x % 2) (ones k y % 2)
unfolding ones
odd_xor zero x y = refl
odd_xor (suc k) x y =
    first_odd (bit_xor x y) (ones k (bit_xor x y / 2))
    ∙ ap₂ bit_xor (xor_mod x y 1) (ap (λ (n : ℕ). ones k n % 2) (xor_shr x y 1) ∙ odd_xor k (x / 2) (y / 2))
    ∙ xor_swap (x % 2) (y % 2) (ones k (x / 2) % 2) (ones k (y / 2) % 2)
    ∙ sym (ap₂ bit_xor (first_odd x (ones k (x / 2))) (first_odd y (ones k (y / 2))))
