-- How many bits an item of a kind has: tables of six bits a kind.
use Prim.Native.Nat.{ℕ, ◌+◌, ◌*◌, ◌/◌, ◌%◌, ◌^◌, ◌≤◌, ◌<◌}
use native.Mathlib.Omega.{arith}
use mathlib.Core.Path.{◌≡◌, refl}
use Rattle.format.specs.Laws.Tests.{below16}
use Rattle.log_walk.specs.Piece.{first_bits, behind_bits}

abbrev First : ℕ → Type 0
First k = (6866634151405184 / 2 ^ (k * 6) % 64 ≡ first_bits k) × (18 ≤ 6866634151405184 / 2 ^ (k * 6) % 64) × (6866634151405184 / 2 ^ (k * 6) % 64 ≤ 43)

pub first_table : (k : ℕ) → k < 16 → 1 ≤ k → k ≤ 8 → First k
first_table =
    below16 (λ k. 1 ≤ k → k ≤ 8 → First k)
    (λ a b. absurd (omega arith)) (λ a b. (refl, omega arith, omega arith)) (λ a b. (refl, omega arith, omega arith)) (λ a b. (refl, omega arith, omega arith))
    (λ a b. (refl, omega arith, omega arith)) (λ a b. (refl, omega arith, omega arith)) (λ a b. (refl, omega arith, omega arith))
    (λ a b. (refl, omega arith, omega arith)) (λ a b. (refl, omega arith, omega arith))
    (λ a b. absurd (omega arith)) (λ a b. absurd (omega arith)) (λ a b. absurd (omega arith)) (λ a b. absurd (omega arith))
    (λ a b. absurd (omega arith)) (λ a b. absurd (omega arith)) (λ a b. absurd (omega arith))

-- by the flag, where a kind has one
module _ (w : ℕ) where
  abbrev behind_number : ℕ → ℕ
  behind_number k = 49392184192 / 2 ^ (k * 6) % 64 * (w / 2 ^ (53 + 6 / 2 ^ k % 2) % 2)

  abbrev Behind : ℕ → Type 0
  Behind k = (behind_number k ≡ behind_bits k w) × (behind_number k ≤ 46)

  pub behind_table : (k : ℕ) → k < 16 → 1 ≤ k → k ≤ 8 → Behind k
  behind_table =
      below16 (λ k. 1 ≤ k → k ≤ 8 → Behind k)
      (λ a b. absurd (omega arith)) (λ a b. (omega arith, omega arith)) (λ a b. (omega arith, omega arith)) (λ a b. (omega arith, omega arith))
      (λ a b. (omega arith, omega arith)) (λ a b. (omega arith, omega arith)) (λ a b. (omega arith, omega arith))
      (λ a b. (omega arith, omega arith)) (λ a b. (omega arith, omega arith))
      (λ a b. absurd (omega arith)) (λ a b. absurd (omega arith)) (λ a b. absurd (omega arith)) (λ a b. absurd (omega arith))
      (λ a b. absurd (omega arith)) (λ a b. absurd (omega arith)) (λ a b. absurd (omega arith))
