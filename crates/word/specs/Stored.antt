-- A word's three bytes, wherever they stand.
use Rattle.std.specs.Prelude.{ℕ, ◌+◌, ◌*◌, ◌^◌, List, get_or}

-- the word whose bytes stand from byte `at` on; `word_at c i` is `three_at c (3 * i)`
unfoldable pub three_at : List ℕ → ℕ → ℕ
three_at s at = get_or s at 0 * 2 ^ 16 + get_or s (at + 1) 0 * 2 ^ 8 + get_or s (at + 2) 0
