-- The words so far as the code holds them: by X^15 + X + 1 in 30 bits, and their sum bit by bit.
use Rattle.std.specs.Prelude.{ℕ, ◌*◌, ◌/◌, ◌%◌, ◌^◌, ◌<◌, Bool, cond, ◌≡◌, List, []}
use Rattle.std.proofs.Common.{sym, ap, ◌∙◌}
use Rattle.std.specs.Int.Bits.{bit_xor}
use Rattle.format.specs.Check.{check_of}
use Rattle.format.specs.Word.{ones}
use Rattle.crc.specs.Running.{check_from}
use Rattle.crc.specs.declared.Sum.{Sum}

abbrev pub Small : Sum → Type 0
Small s = (s.rest < 2 ^ 30) × (s.ones < 2 ^ 24)

-- X^30 is X^2 + 1
abbrev pub folded : ℕ → ℕ
folded v = bit_xor (bit_xor (v % 2 ^ 30) (v / 2 ^ 30)) (v / 2 ^ 30 * 2 ^ 2)

-- X^15 is X + 1
abbrev pub reduced : ℕ → ℕ
reduced v = bit_xor (bit_xor (v % 2 ^ 15) (v / 2 ^ 15)) (v / 2 ^ 15 * 2 ^ 1)

-- by X^16, which is X (X + 1), and then by X^15 + X + 1
abbrev pub less : ℕ → ℕ
less rest = reduced (reduced (bit_xor (rest * 2 ^ 1) (rest * 2 ^ 2)))

-- X^15 + X + 1 where the parity is odd
abbrev pub oddly : ℕ → ℕ
oddly v = ones 24 v % 2 * 0x8003

-- the check of the words so far
unfoldable pub check_of_sum : Sum → ℕ
check_of_sum s = bit_xor (less s.rest) (oddly (bit_xor (less s.rest) s.ones))

-- s is the sum of the words ws: other numbers of the same check are a sum of them too
pub record Sums (ws : List ℕ) (s : Sum) : Type 0 where
  pub small : Small s
  pub check : check_of_sum s ≡ check_of ws

-- t is the sum s and the words ws after it
pub record Added (s : Sum) (ws : List ℕ) (t : Sum) : Type 0 where
  pub small : Small t
  pub check : check_of_sum t ≡ check_from (check_of_sum s) ws

-- for a plan with CRC; without it no words are summed
pub record Summed (crc : Bool) (s : Sum) (ws : List ℕ) (t : Sum) : Type 0 where
  pub small : Small t
  pub check : check_of_sum t ≡ check_from (check_of_sum s) (cond crc ws [])

-- all sums of the same words have one check, which is all that `check` tells of them
pub sums_one_check : {ws : List ℕ} {s t : Sum} → Sums ws s → Sums ws t → check_of_sum s ≡ check_of_sum t
sums_one_check p q = p.check ∙ sym q.check

pub added_one_check : {ws : List ℕ} {r s t u : Sum} → check_of_sum r ≡ check_of_sum s → Added r ws t → Added s ws u → check_of_sum t ≡ check_of_sum u
added_one_check {ws} e p q = p.check ∙ ap (λ (n : ℕ). check_from n ws) e ∙ sym q.check

pub summed_one_check : {crc : Bool} {ws : List ℕ} {r s t u : Sum} → check_of_sum r ≡ check_of_sum s → Summed crc r ws t → Summed crc s ws u → check_of_sum t ≡ check_of_sum u
summed_one_check {crc} {ws} e p q = p.check ∙ ap (λ (n : ℕ). check_from n (cond crc ws [])) e ∙ sym q.check
