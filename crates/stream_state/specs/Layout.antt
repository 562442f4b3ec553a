-- The state between two calls as C lends it (document 02, K4): 7,168 bytes. In front stand 101 numbers of eight bytes, most significant
-- first: the hundred of a state's row (StateNumbers), its stage stamped with the layout's version, and how many bytes wait; then 216
-- bytes of zeros, the bytes that wait, and zeros.
use Rattle.std.specs.Prelude.{ℕ, ◌+◌, ◌*◌, ◌-◌, Bool, cond, ◌&&◌, length, get_or, take, drop, replicate, eqb}
use mathlib.Core.List.{List, [], ◌∷◌, ◌++◌, flat_map}
use Rattle.format.specs.Lists.{list}
use Rattle.from_c.specs.Numbers.{time_at, time_bytes}
use Rattle.stream_rules.specs.Stream.{State, fits}
use Rattle.stream_rules.specs.StateNumbers.{numbers_of, state_of, same_row}

-- a stage in the bytes: the version, 4, above it; a closed state is all zeros
abbrev pub stamped : ℕ → ℕ
stamped stage = cond (eqb stage 0) 0 (1024 + stage)

-- the stage that a number says; what has no stamp of this version says closed
abbrev pub stage_of : ℕ → ℕ
stage_of n = cond (eqb n 1025) 1 (cond (eqb n 1026) 2 0)

-- the numbers in front
abbrev pub front_of : List ℕ → List ℕ
front_of ns = stamped (get_or ns 0 0) ∷ (take 99 (drop 1 ns) ++ length (drop 100 ns) ∷ [])

abbrev pub zeros_behind : ℕ → List ℕ → List ℕ
zeros_behind room v = v ++ replicate (room - length v) 0

-- a row as bytes
unfoldable pub row_bytes : List ℕ → List ℕ
row_bytes ns = flat_map time_bytes (front_of ns) ++ (replicate 216 0 ++ zeros_behind 6144 (drop 100 ns))

abbrev pub state_bytes : State → List ℕ
state_bytes s = row_bytes (numbers_of s)

-- the number i of those in front
abbrev pub number_at : List ℕ → ℕ → ℕ
number_at b i = time_at b (8 * i)

-- the row that bytes say
unfoldable pub row_at : List ℕ → List ℕ
row_at b = stage_of (number_at b 0) ∷ (list (number_at b) 1 99 ++ take (number_at b 100) (drop 1024 b))

abbrev pub state_at : List ℕ → State
state_at b = state_of (row_at b)

-- the written test of the lent bytes: the state that they say fits together, and these are its bytes (so every byte that says nothing
-- is 0, and the stage has this version)
unfoldable pub is_state : List ℕ → Bool
is_state b = eqb (length b) 7168 && (fits (state_at b) && same_row (state_bytes (state_at b)) b)
