-- What a word of a line says as a number.
use Rattle.std.specs.Prelude.{ℕ, ◌+◌, ◌-◌, ◌*◌, ◌%◌, cond, ◌&&◌, nat_le, nat_lt, ◌==◌, slice_index, drop, List, [], ◌∷◌}

-- 0 to 9 or A to F; 16 of what is no digit
abbrev pub digit : ℕ → ℕ
digit b = cond (nat_le 48 b && nat_le b 57) (b - 48) (cond (nat_le 65 b && nat_le b 70) (b - 55) 16)

-- the digits from here on, as far as they go, behind a value; of that, all but the last 60 bits are lost
abbrev pub digits_from : ℕ → ℕ → List ℕ → ℕ
digits_from base value [] = value
digits_from base value (b ∷ bs) = cond (nat_lt (digit b) base) (digits_from base (value % 1152921504606846976 * base + digit b) bs) value

-- decimal, or hexadecimal behind an x; 0 if there are no digits
abbrev pub number_of : List ℕ → ℕ
number_of word = cond (slice_index word 0 == 120) (digits_from 16 0 (drop 1 word)) (digits_from 10 0 word)
