-- What is kept of the words, and the next check, are linear over xor.
use Prim.Native.Nat.{ℕ, zero, suc, ◌*◌, ◌/◌, ◌%◌, ◌^◌, ◌<◌}
use native.Mathlib.Nat.{mod-lt, zero-lt-suc}
use native.Mathlib.Omega.{arith}
use mathlib.Core.Path.{◌≡◌, refl, sym, ap, ap₂, ◌∙◌}
use mathlib.Core.List.{[], ◌∷◌, flat_map}
use lib.Bits.{bit_xor, xor_zero_l, xor_zero_r}
use Rattle.format.specs.Bits.{bits_of}
use Rattle.format.specs.Check.{check_of, remainder}
use Rattle.format.specs.Word.{ones}
use Rattle.crc.specs.Running.{next_check}
use Rattle.crc.specs.Sum.{folded, reduced, less, oddly}
use Rattle.crc.proofs.Xor.{xor_assoc, xor_swap}
use Rattle.crc.proofs.Running.{check_xor}
use Rattle.crc.proofs.Parity.{odd_xor}
use Rattle.crc.proofs.Linear.{Linear, raised, lowered, kept, after, added}

-- a number with k bits cut off, which are met again j bits up
folding : (k j : ℕ) → Linear (λ v. bit_xor (bit_xor (v % 2 ^ k) (v / 2 ^ k)) (v / 2 ^ k * 2 ^ j))
folding k j =
    added (λ v. bit_xor (v % 2 ^ k) (v / 2 ^ k)) (λ v. v / 2 ^ k * 2 ^ j)
    (added (λ v. v % 2 ^ k) (λ v. v / 2 ^ k) (kept k) (lowered k))
    (after (λ v. v * 2 ^ j) (λ v. v / 2 ^ k) (raised j) (lowered k))

pub folded_xor : Linear folded
folded_xor = folding 30 2

reduced_xor : Linear reduced
reduced_xor = folding 15 1

less_xor : Linear less
less_xor =
    after reduced (λ v. reduced (bit_xor (v * 2 ^ 1) (v * 2 ^ 2))) reduced_xor
    (after reduced (λ v. bit_xor (v * 2 ^ 1) (v * 2 ^ 2)) reduced_xor (added (λ v. v * 2 ^ 1) (λ v. v * 2 ^ 2) (raised 1) (raised 2)))

-- a bit times X^15 + X + 1
by_bit : (p q : ℕ) → p < 2 → q < 2 → bit_xor p q * 0x8003 ≡ bit_xor (p * 0x8003) (q * 0x8003)
by_bit zero zero hp hq = refl
by_bit zero (suc zero) hp hq = refl
by_bit zero (suc (suc q)) hp hq = absurd (omega arith)
by_bit (suc zero) zero hp hq = refl
by_bit (suc zero) (suc zero) hp hq = refl
by_bit (suc zero) (suc (suc q)) hp hq = absurd (omega arith)
by_bit (suc (suc p)) q hp hq = absurd (omega arith)

pub oddly_xor : Linear oddly
oddly_xor x y =
    ap (λ (n : ℕ). n * 0x8003) (odd_xor 24 x y)
    ∙ by_bit (ones 24 x % 2) (ones 24 y % 2) (mod-lt (ones 24 x) (zero-lt-suc 1)) (mod-lt (ones 24 y) (zero-lt-suc 1))

-- what the rest makes of the check
abbrev pub part : ℕ → ℕ
part r = bit_xor (less r) (oddly (less r))

pub part_xor : Linear part
part_xor = added less (λ r. oddly (less r)) less_xor (after oddly less oddly_xor less_xor)

-- the check of the words so far, apart
abbrev pub made : ℕ → ℕ → ℕ
made r o = bit_xor (less r) (oddly (bit_xor (less r) o))

pub made_apart : (r o : ℕ) → made r o ≡ bit_xor (part r) (oddly o)
made_apart r o = ap (bit_xor (less r)) (oddly_xor (less r) o) ∙ sym (xor_assoc (less r) (oddly (less r)) (oddly o))

-- what is folded, brought into the check
pub kept_xor : Linear (λ v. part (folded v))
kept_xor = after part folded part_xor folded_xor

-- the next check is linear in the check and the word together
pub next_xor : (a b u v : ℕ) → next_check (bit_xor a b) (bit_xor u v) ≡ bit_xor (next_check a u) (next_check b v)
unfolding next_check
next_xor a b u v =
    ap (λ (n : ℕ). check_of (n ∷ [])) (ap (λ (n : ℕ). bit_xor n (bit_xor u v)) (raised 8 a b) ∙ xor_swap (a * 2 ^ 8) (b * 2 ^ 8) u v)
    ∙ check_xor (bit_xor (a * 2 ^ 8) u) (bit_xor (b * 2 ^ 8) v)

-- a word of zeros more, and a first word
pub zeros_xor : Linear (λ r. next_check r 0)
zeros_xor a b = next_xor a b 0 0

pub zeros_twice_xor : Linear (λ r. next_check (next_check r 0) 0)
zeros_twice_xor = after (λ r. next_check r 0) (λ r. next_check r 0) zeros_xor zeros_xor

pub first_xor : Linear (next_check 0)
first_xor u v = next_xor 0 0 u v

pub next_apart : (r w : ℕ) → next_check r w ≡ bit_xor (next_check r 0) (next_check 0 w)
next_apart r w = ap₂ next_check (sym (xor_zero_r r)) (sym (xor_zero_l w)) ∙ next_xor r 0 0 w

-- the parity stays
odd_on : (p : ℕ) → p < 2 → p * 0x8003 ≡ next_check (p * 0x8003) 0
unfolding next_check check_of remainder bits_of flat_map
odd_on zero h = refl
odd_on (suc zero) h = refl
odd_on (suc (suc p)) h = absurd (omega arith)

pub ones_on : (o : ℕ) → oddly o ≡ next_check (oddly o) 0
ones_on o = odd_on (ones 24 o % 2) (mod-lt (ones 24 o) (zero-lt-suc 1))
