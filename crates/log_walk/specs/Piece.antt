-- What stands at a place of a log, as bits: what the functions of this crate answer, by the definitions of `format`.
use Rattle.std.specs.Prelude.{ℕ, ◌+◌, ◌-◌, ◌*◌, ◌/◌, ◌%◌, ◌^◌, ◌≤◌, Bool, cond, ◌≡◌, List, length, eqb, ltb}
use Rattle.format.specs.Log.{Next, ends, has, wrong, field}
use Rattle.log_write.specs.Packed.{packed_of}
use Rattle.log_write.specs.declared.Packed.{Packed}
use Rattle.log_walk.specs.declared.Piece.{Piece}
use Rattle.log_walk.specs.declared.Piece.TheVariants.{Item, End, Wrong}

abbrev pub piece_of : Next → Piece
piece_of ends = End
piece_of (has i q) = Item (packed_of i)
piece_of wrong = Wrong

-- what a window at p is for: the highest of the 64 bits of w are those of s from p on, so every field within 57 bits can be read from w
abbrev pub Window : List ℕ → ℕ → ℕ → Type 0
Window s p w = (k n : ℕ) → k + n ≤ 57 → p + k + n ≤ length s → field s (p + k) n ≡ w / 2 ^ (64 - k - n) % 2 ^ n

-- how many bits an item of a kind has before its tag or response time
abbrev pub first_bits : ℕ → ℕ
first_bits kind =
    cond (eqb kind 1) 26 (cond (eqb kind 2) 26 (cond (eqb kind 5) 43 (cond (eqb kind 6) 18 (cond (eqb kind 8) 24 25))))

-- how many its tag or response time has, where w is the window at its first bit
abbrev pub behind_bits : ℕ → ℕ → ℕ
behind_bits kind w =
    cond (eqb kind 1) (w / 2 ^ 54 % 2 * 46) (cond (eqb kind 2) (w / 2 ^ 54 % 2 * 14) (cond (eqb kind 5) (w / 2 ^ 53 % 2 * 46) 0))

-- an item's bus, behind its kind
abbrev pub bus_in : Packed → ℕ
bus_in k = k.first / 2 ^ (k.first_bits - 8) % 16

-- its microseconds or its response time, which end it, are below 10000
abbrev pub times_in : Packed → Bool
times_in k = ltb (k.behind % 16384) 10000
