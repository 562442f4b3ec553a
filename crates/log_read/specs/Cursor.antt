-- The bit cursor: what is ahead of it, and what is taken from that.
use Rattle.std.specs.Prelude.{ℕ, ◌+◌, ◌*◌, ◌-◌, ◌/◌, ◌%◌, ◌^◌, ◌≤◌, ◌<◌, ◌≡◌, List, [], ◌∷◌, length, get_or}
use Rattle.format.specs.Bits.{bytes_bits, num_of}
use Rattle.format.specs.Log.{field}
use Rattle.log_read.specs.declared.Cursor.{Cursor}
use Rattle.log_read.specs.declared.Took.{Took}

-- the eight bytes from i on, zeros past the end
abbrev pub eight : List ℕ → ℕ → List ℕ
eight s i =
    get_or s i 0 ∷ get_or s (i + 1) 0 ∷ get_or s (i + 2) 0 ∷ get_or s (i + 3) 0
    ∷ get_or s (i + 4) 0 ∷ get_or s (i + 5) 0 ∷ get_or s (i + 6) 0 ∷ get_or s (i + 7) 0 ∷ []

-- what eight bytes say as a number of 64 bits
abbrev pub said : List ℕ → ℕ → ℕ
said log i = num_of (bytes_bits (eight log i))

-- the eight bytes from i on less their first a bits, and zeros behind
unfoldable pub ahead_of : List ℕ → ℕ → ℕ → ℕ
ahead_of log i a = said log i * 2 ^ a % 2 ^ 64

-- the cursor at p, filled from the eight bytes that begin with that of the bit p: 57 bits or more (`filled_ahead`)
abbrev pub filled_of : List ℕ → ℕ → Cursor
filled_of log p = record { at = p; ahead = ahead_of log (p / 8) (p % 8) }

-- the cursor at p, filled from the eight bytes that end with that of the bit before p + 46: 46 bits or more (`tag_ahead`)
abbrev pub tag_filled_of : List ℕ → ℕ → Cursor
tag_filled_of log p = record { at = p; ahead = ahead_of log ((p + 53) / 8 - 8) (p + 64 - 8 * ((p + 53) / 8)) }

-- the w highest of the bits ahead, and the cursor behind them
unfoldable pub took_of : Cursor → ℕ → Took
took_of c w = record { field = c.ahead / 2 ^ (64 - w); next = record { at = c.at + w; ahead = c.ahead * 2 ^ w % 2 ^ 64 } }

-- what a cursor is for: c stands k bits behind the bit p of s, and the highest bits of its number are those of s from there up to
-- the n-th behind p, as far as s has them
pub record Ahead (s : List ℕ) (p n k : ℕ) (c : Cursor) : Type 0 where
  pub place : c.at ≡ p + k
  pub small : c.ahead < 2 ^ 64
  pub bits : (j w : ℕ) → k + j + w ≤ n → p + (k + j) + w ≤ length s → field s (p + (k + j)) w ≡ c.ahead / 2 ^ (64 - j - w) % 2 ^ w
