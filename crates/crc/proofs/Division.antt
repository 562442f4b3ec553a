-- The long division is linear: the remainder of a xor is the xor of the remainders.
use Prim.Native.Nat.{ℕ, zero, suc, ◌+◌, ◌*◌, ◌/◌, ◌%◌, ◌^◌, ◌≤◌, ◌<◌}
use native.Mathlib.Nat.{mod-lt, mod-one, mod-eq_of_lt, div-eq_of_lt, zero-add, zero-lt-suc, pow-succ', mul-le-mul_left}
use native.Mathlib.Numerals.{one-add}
use native.Mathlib.Omega.{arith}
use native.Mathlib.Decide.{dec_lt}
use mathlib.Core.Path.{◌≡◌, refl, sym, ap, ap₂, ◌∙◌}
use mathlib.Core.List.{List, [], ◌∷◌, ◌++◌}
use lib.Pow.{pow_pos, mod-pow-add}
use lib.Dec.{lit<}
use lib.Bits.{bit_xor, xor_mod, xor_shr, xor_lt, xor_block, xor_zero_r}
use borrow.Author.Tests.{lt-ltb, le-ltb}
use Rattle.format.specs.Bits.{bits_of}
use Rattle.format.specs.Check.{divided, remainder}
use Rattle.format.specs.Laws.Log.Sizes.{bits_low}
use Rattle.format.specs.Laws.Word.Check.{divided_low, remainder_low}
use Rattle.crc.proofs.Xor.{xor_swap}

-- the divisor goes in where the 17th bit is set
divided_is : (v : ℕ) → v < 2 ^ 17 → divided v ≡ bit_xor (v % 2 ^ 16) (v / 2 ^ 16 * 0x8005)
divided_is v h = go (dec_lt v (2 ^ 16))
  where
    go : Dec (v < 2 ^ 16) → divided v ≡ bit_xor (v % 2 ^ 16) (v / 2 ^ 16 * 0x8005)
    go (yes l) = rw (lt-ltb v (2 ^ 16) l, mod-eq_of_lt l, div-eq_of_lt l) (sym (xor_zero_r v))
    go (no l) =
        let q : v / 2 ^ 16 ≡ 1 = omega arith in
        let e : v ≡ 1 * 2 ^ 16 + v % 2 ^ 16 = omega arith in
        rw (le-ltb v (2 ^ 16) (omega arith), q)
        (ap (λ (n : ℕ). bit_xor n 0x18005) e ∙ xor_block 16 1 1 (v % 2 ^ 16) 0x8005 (mod-lt v (pow_pos 16)) (lit< tt) ∙ zero-add (bit_xor (v % 2 ^ 16) 0x8005))

-- the divisor times a bit
by_bit : (p q : ℕ) → p < 2 → q < 2 → bit_xor p q * 0x8005 ≡ bit_xor (p * 0x8005) (q * 0x8005)
by_bit zero zero hp hq = refl
by_bit zero (suc zero) hp hq = refl
by_bit zero (suc (suc q)) hp hq = absurd (omega arith)
by_bit (suc zero) zero hp hq = refl
by_bit (suc zero) (suc zero) hp hq = refl
by_bit (suc zero) (suc (suc q)) hp hq = absurd (omega arith)
by_bit (suc (suc p)) q hp hq = absurd (omega arith)

divided_xor : (v u : ℕ) → v < 2 ^ 17 → u < 2 ^ 17 → divided (bit_xor v u) ≡ bit_xor (divided v) (divided u)
divided_xor v u hv hu =
    divided_is (bit_xor v u) (xor_lt 17 v u hv hu)
    ∙ ap₂ (λ (x y : ℕ). bit_xor x (y * 0x8005)) (xor_mod v u 16) (xor_shr v u 16)
    ∙ ap (bit_xor (bit_xor (v % 2 ^ 16) (u % 2 ^ 16))) (by_bit (v / 2 ^ 16) (u / 2 ^ 16) (omega arith) (omega arith))
    ∙ xor_swap (v % 2 ^ 16) (u % 2 ^ 16) (v / 2 ^ 16 * 0x8005) (u / 2 ^ 16 * 0x8005)
    ∙ sym (ap₂ bit_xor (divided_is v hv) (divided_is u hu))

-- a remainder r and the next bit of v
brought : (r v k : ℕ) → r < 2 ^ 16 → r * 2 + v / 2 ^ k % 2 < 2 ^ 17
brought r v k h = omega arith

pub bits_remainder_low : (k r v : ℕ) → r < 2 ^ 16 → remainder r (bits_of k v) < 2 ^ 16
bits_remainder_low k r v h = remainder_low (bits_of k v) r h (bits_low k v)

pub remainder_append : (r : ℕ) (xs ys : List ℕ) → remainder r (xs ++ ys) ≡ remainder (remainder r xs) ys
unfolding remainder
remainder_append r [] ys = refl
remainder_append r (x ∷ xs) ys = remainder_append (divided (r * 2 + x)) xs ys

-- the next bit of a xor
bit_xor_lem : (v u k : ℕ) → bit_xor v u / 2 ^ k % 2 ≡ bit_xor (v / 2 ^ k % 2) (u / 2 ^ k % 2)
bit_xor_lem v u k = ap (λ (n : ℕ). n % 2) (xor_shr v u k) ∙ xor_mod (v / 2 ^ k) (u / 2 ^ k) 1

pub remainder_xor : (k r s v u : ℕ) → r < 2 ^ 16 → s < 2 ^ 16
    → remainder (bit_xor r s) (bits_of k (bit_xor v u)) ≡ bit_xor (remainder r (bits_of k v)) (remainder s (bits_of k u))
unfolding remainder bits_of
remainder_xor zero r s v u hr hs = refl
remainder_xor (suc k) r s v u hr hs =
    let a : ℕ = r * 2 + v / 2 ^ k % 2 in
    let b : ℕ = s * 2 + u / 2 ^ k % 2 in
    let e : bit_xor r s * 2 + bit_xor v u / 2 ^ k % 2 ≡ bit_xor a b =
    ap (λ (n : ℕ). bit_xor r s * 2 + n) (bit_xor_lem v u k) ∙ sym (xor_block 1 r s (v / 2 ^ k % 2) (u / 2 ^ k % 2) (mod-lt (v / 2 ^ k) (zero-lt-suc 1)) (mod-lt (u / 2 ^ k) (zero-lt-suc 1))) in
    ap (λ (n : ℕ). remainder n (bits_of k (bit_xor v u))) (ap divided e ∙ divided_xor a b (brought r v k hr) (brought s u k hs))
    ∙ remainder_xor k (divided a) (divided b) v u (divided_low a (brought r v k hr)) (divided_low b (brought s u k hs))

-- the divisor does not go into a number of 16 bits
pub remainder_small : (k r v : ℕ) → r * 2 ^ k + v % 2 ^ k < 2 ^ 16 → remainder r (bits_of k v) ≡ r * 2 ^ k + v % 2 ^ k
unfolding remainder bits_of
remainder_small zero r v h = rw (mod-one v) (omega arith)
remainder_small (suc k) r v h =
    let b : ℕ = v / 2 ^ k % 2 in
    let w : v % 2 ^ suc k ≡ b * 2 ^ k + v % 2 ^ k = ap (λ (n : ℕ). v % 2 ^ n) (sym (one-add k)) ∙ mod-pow-add v 1 k in
    let e : r * 2 ^ suc k + v % 2 ^ suc k ≡ (r * 2 + b) * 2 ^ k + v % 2 ^ k = rw (w, pow-succ' 2 k) (omega arith) in
    let l : (r * 2 + b) * 2 ^ k + v % 2 ^ k < 2 ^ 16 = rw e at h in
    let m : (r * 2 + b) * 1 ≤ (r * 2 + b) * 2 ^ k = mul-le-mul_left (r * 2 + b) (pow_pos k) in
    ap (λ (n : ℕ). remainder n (bits_of k v)) (rw (lt-ltb (r * 2 + b) (2 ^ 16) (omega arith))) ∙ remainder_small k (r * 2 + b) v l ∙ sym e
