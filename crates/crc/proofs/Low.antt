-- What the steps make has room, and the check has 16 bits.
use Prim.Native.Nat.{ℕ, ◌+◌, ◌*◌, ◌/◌, ◌%◌, ◌^◌, ◌<◌}
use native.Mathlib.Omega.{arith}
use mathlib.Core.Bool.{true, false}
use mathlib.Core.Path.{◌≡◌, sym, ap, ◌∙◌}
use lib.Dec.{lit<}
use lib.Bits.{bit_xor, xor_lt, xor_zero_r}
use borrow.Author.Tests.{eqb-true, eqb-false}
use Rattle.format.specs.Word.{ones, is_odd}
use Rattle.crc.specs.Sum.{folded, reduced, less, oddly}
use Rattle.crc.proofs.Kept.{made}
use Rattle.crc.proofs.Law.{odd, far, farther}
use Rattle.crc.proofs.Five.{past}

pub folded_low : (v : ℕ) → v < 2 ^ 58 → folded v < 2 ^ 30
folded_low v h =
    xor_lt 30 (bit_xor (v % 2 ^ 30) (v / 2 ^ 30)) (v / 2 ^ 30 * 2 ^ 2) (xor_lt 30 (v % 2 ^ 30) (v / 2 ^ 30) (omega arith) (omega arith)) (omega arith)

pub both_low : (a b : ℕ) → a < 2 ^ 24 → b < 2 ^ 24 → bit_xor a b < 2 ^ 24
both_low a b ha hb = xor_lt 24 a b ha hb

pub odd_low : (r : ℕ) → r < 2 ^ 30 → odd r < 2 ^ 31
odd_low r h = xor_lt 31 r (r * 2 ^ 1) (omega arith) (omega arith)

pub quad_low : (r : ℕ) → r < 2 ^ 30 → bit_xor (odd r) (odd r * 2 ^ 2) < 2 ^ 33
quad_low r h =
    let o : odd r < 2 ^ 31 = odd_low r h in
    xor_lt 33 (odd r) (odd r * 2 ^ 2) (omega arith) (omega arith)

pub met_low : (r w : ℕ) → r < 2 ^ 30 → w < 2 ^ 24 → bit_xor (far r) w < 2 ^ 58
met_low r w hr hw =
    let o : odd r < 2 ^ 31 = odd_low r hr in
    xor_lt 58 (far r) w (omega arith) (omega arith)

pub met_two_low : (r a b : ℕ) → r < 2 ^ 30 → a < 2 ^ 24 → b < 2 ^ 24 → bit_xor (farther r) (a * 2 ^ 24 + b) < 2 ^ 58
met_two_low r a b hr ha hb =
    let q : bit_xor (odd r) (odd r * 2 ^ 2) < 2 ^ 33 = quad_low r hr in
    xor_lt 58 (farther r) (a * 2 ^ 24 + b) (omega arith) (omega arith)

pub met_five_low : (r f : ℕ) → r < 2 ^ 30 → f < 2 ^ 30 → bit_xor (past r) f < 2 ^ 58
met_five_low r f hr hf = xor_lt 58 (past r) f (xor_lt 58 (r * 2 ^ 8) r (omega arith) (omega arith)) (omega arith)

pub wide_low : (r : ℕ) → r < 2 ^ 30 → bit_xor (r * 2 ^ 1) (r * 2 ^ 2) < 2 ^ 32
wide_low r h = xor_lt 32 (r * 2 ^ 1) (r * 2 ^ 2) (omega arith) (omega arith)

pub once_low : (v : ℕ) → v < 2 ^ 32 → reduced v < 2 ^ 18
once_low v h =
    xor_lt 18 (bit_xor (v % 2 ^ 15) (v / 2 ^ 15)) (v / 2 ^ 15 * 2 ^ 1) (xor_lt 18 (v % 2 ^ 15) (v / 2 ^ 15) (omega arith) (omega arith)) (omega arith)

pub twice_low : (v : ℕ) → v < 2 ^ 18 → reduced v < 2 ^ 15
twice_low v h =
    xor_lt 15 (bit_xor (v % 2 ^ 15) (v / 2 ^ 15)) (v / 2 ^ 15 * 2 ^ 1) (xor_lt 15 (v % 2 ^ 15) (v / 2 ^ 15) (omega arith) (omega arith)) (omega arith)

pub less_low : (r : ℕ) → r < 2 ^ 30 → less r < 2 ^ 15
less_low r h =
    let v : ℕ = bit_xor (r * 2 ^ 1) (r * 2 ^ 2) in
    twice_low (reduced v) (once_low v (wide_low r h))

pub met_ones_low : (l o : ℕ) → l < 2 ^ 15 → o < 2 ^ 24 → bit_xor l o < 2 ^ 24
met_ones_low l o hl ho = xor_lt 24 l o (omega arith) ho

pub turned_low : (l : ℕ) → l < 2 ^ 15 → bit_xor l 0x8003 < 2 ^ 16
turned_low l h = xor_lt 16 l 0x8003 (omega arith) (lit< tt)

is_oddly : (v : ℕ) → is_odd v ≡ true → oddly v ≡ 0x8003
unfolding is_odd
is_oddly v e = ap (λ (n : ℕ). n * 0x8003) (eqb-true (ones 24 v % 2) 1 e)

not_oddly : (v : ℕ) → is_odd v ≡ false → oddly v ≡ 0
unfolding is_odd
not_oddly v e =
    let n : ones 24 v % 2 ≡ 1 → ⊥ = eqb-false (ones 24 v % 2) 1 e in
    let z : ones 24 v % 2 ≡ 0 = omega arith in
    ap (λ (n : ℕ). n * 0x8003) z

-- the check, where what the rest leaves and the ones make together are odd, and where they are not
pub odd_check : (r l o : ℕ) → l ≡ less r → is_odd (bit_xor l o) ≡ true → bit_xor l 0x8003 ≡ made r o
odd_check r l o e t = ap (bit_xor l) (sym (is_oddly (bit_xor l o) t)) ∙ ap (λ (n : ℕ). bit_xor n (oddly (bit_xor n o))) e

pub even_check : (r l o : ℕ) → l ≡ less r → is_odd (bit_xor l o) ≡ false → l ≡ made r o
even_check r l o e t =
    sym (xor_zero_r l) ∙ ap (bit_xor l) (sym (not_oddly (bit_xor l o) t)) ∙ ap (λ (n : ℕ). bit_xor n (oddly (bit_xor n o))) e
