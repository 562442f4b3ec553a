-- Numbers above 24 bits.
use Rattle.std.specs.Prelude.{ℕ, ◌^◌, ◌≤◌, ◌<◌, Bool, false, ◌||◌, ◌≡◌, List, [], ◌∷◌, length, get_or, ltb}
use Rattle.std.proofs.Common.{arith}
use Rattle.std.proofs.Math.Decide.{dec_lt}

unfoldable pub any_large : List ℕ → Bool
any_large [] = false
any_large (w ∷ ws) = ltb 16777215 w || any_large ws

-- so many words stand before the first number above 24 bits
pub record LowFront (ws : List ℕ) (r : ℕ) : Type 0 where
  pub few : r ≤ length ws
  pub low : (i : ℕ) → i < r → get_or ws i 0 < 2 ^ 24
  pub high : r < length ws → 2 ^ 24 ≤ get_or ws r 0

pub low_front_one : (ws : List ℕ) (r r' : ℕ) → LowFront ws r → LowFront ws r' → r ≡ r'
low_front_one ws r r' a b = go (dec_lt r r') (dec_lt r' r)
  where
    go : Dec (r < r') → Dec (r' < r) → r ≡ r'
    go (yes h) d = absurd (omega (arith, b.low r h, a.high (omega (arith, h, b.few))))
    go (no h) (yes k) = absurd (omega (arith, a.low r' k, b.high (omega (arith, k, a.few))))
    go (no h) (no k) = omega arith
