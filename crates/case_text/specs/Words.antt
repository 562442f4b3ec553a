-- The words of a line.
use Rattle.std.specs.Prelude.{ℕ, ◌+◌, Bool, not, ◌==◌, List, take, drop}
use Rattle.std.specs.List.{prefix_len}

abbrev pub is_in_word : ℕ → Bool
is_in_word b = not (b == 32)

-- up to the first space
abbrev pub first_word : List ℕ → List ℕ
first_word line = take (prefix_len is_in_word line) line

-- what stands behind that space; nothing if there is none
abbrev pub behind_word : List ℕ → List ℕ
behind_word line = drop (prefix_len is_in_word line + 1) line
