-- The check of a frame, a word at a time.
use Rattle.std.specs.Prelude.{ℕ, ◌*◌, ◌^◌, List, [], ◌∷◌}
use Rattle.std.specs.Int.Bits.{bit_xor}
use Rattle.format.specs.Check.{check_of}
use Rattle.format.specs.Lists.{list}

-- the check of one word more, after words whose check is r:
-- r is what those leave over the 16 bits that come next, which are the first 16 bits of w
unfoldable pub next_check : ℕ → ℕ → ℕ
next_check r w = check_of (bit_xor (r * 2 ^ 8) w ∷ [])

-- the check of words after words whose check is r; `check_of ws` is `check_from 0 ws`
unfoldable pub check_from : ℕ → List ℕ → ℕ
check_from r [] = r
check_from r (w ∷ ws) = check_from (next_check r w) ws

-- the same word n times
abbrev pub same : ℕ → ℕ → List ℕ
same w n = list (λ i. w) 0 n

-- the check of five more of the same word
abbrev pub next_five : ℕ → ℕ → ℕ
next_five r w = next_check (next_check (next_check (next_check (next_check r w) w) w) w) w
