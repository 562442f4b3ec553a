-- The labels one by one.
use Prim.Native.Nat.{ℕ, ◌<◌, ◌≤◌}
use native.Mathlib.Omega.{arith}
use Rattle.format.specs.Laws.Tests.{below16}

-- the labels 0 to 7
pub lower : (P : ℕ → Type 0) → P 0 → P 1 → P 2 → P 3 → P 4 → P 5 → P 6 → P 7 → (n : ℕ) → n < 8 → P n
lower P a b c d e f g h n l =
    below16 (λ m. m < 8 → P m)
    (λ _. a) (λ _. b) (λ _. c) (λ _. d) (λ _. e) (λ _. f) (λ _. g) (λ _. h)
    (λ x. absurd (omega arith)) (λ x. absurd (omega arith)) (λ x. absurd (omega arith)) (λ x. absurd (omega arith))
    (λ x. absurd (omega arith)) (λ x. absurd (omega arith)) (λ x. absurd (omega arith)) (λ x. absurd (omega arith))
    n (omega arith) l

-- the labels 8 to 15
pub upper : (P : ℕ → Type 0) → P 8 → P 9 → P 10 → P 11 → P 12 → P 13 → P 14 → P 15 → (n : ℕ) → 8 ≤ n → n < 16 → P n
upper P a b c d e f g h n l u =
    below16 (λ m. 8 ≤ m → P m)
    (λ x. absurd (omega arith)) (λ x. absurd (omega arith)) (λ x. absurd (omega arith)) (λ x. absurd (omega arith))
    (λ x. absurd (omega arith)) (λ x. absurd (omega arith)) (λ x. absurd (omega arith)) (λ x. absurd (omega arith))
    (λ _. a) (λ _. b) (λ _. c) (λ _. d) (λ _. e) (λ _. f) (λ _. g) (λ _. h)
    n u l
