-- A log that is built in an array which may be too short for it: whole bytes, and fewer than eight bits behind them.
use Rattle.std.specs.Prelude.{ℕ, ◌+◌, ◌*◌, ◌-◌, ◌/◌, ◌%◌, ◌^◌, ◌≤◌, ◌<◌, cond, ◌≡◌, List, [], ◌∷◌, ◌++◌, length, take, drop, get_or, leb}
use Rattle.format.specs.Bits.{bits_of, bytes_bits}
use Rattle.format.specs.Lists.{Bytes}
use Rattle.format.specs.declared.Item.{Item}
use Rattle.log_write.specs.Packed.{packed_of}
use Rattle.log_write.specs.declared.Packed.{Packed}
use Rattle.log_write.specs.declared.Pen.{Pen}

abbrev pub start : Pen
start = record { bits = 0; last = 0 }

-- the eight bytes of a number of 64 bits
abbrev pub eight : ℕ → List ℕ
eight w =
    w / 2 ^ 56 ∷ w / 2 ^ 48 % 256 ∷ w / 2 ^ 40 % 256 ∷ w / 2 ^ 32 % 256 ∷ w / 2 ^ 24 % 256 ∷ w / 2 ^ 16 % 256 ∷ w / 2 ^ 8 % 256
    ∷ w % 256 ∷ []

-- from `at` on, where there is room for all of them
unfoldable pub eight_in : List ℕ → ℕ → ℕ → List ℕ
eight_in out at w = cond (leb (at + 8) (length out)) (take at out ++ (eight w ++ drop (at + 8) out)) out

-- the last bits with n more, and these at the top of 64
abbrev pub joined : Pen → ℕ → ℕ → ℕ
joined p v n = p.last * 2 ^ n % 2 ^ 64 + v

abbrev pub topped : ℕ → ℕ → ℕ
topped part x = x * 2 ^ (63 - part) % 2 ^ 64 * 2 ^ 1 % 2 ^ 64

-- up to 56 bits more
unfoldable pub pen_put : Pen → ℕ → ℕ → Pen
pen_put p v n = record { bits = p.bits + n; last = joined p v n }

unfoldable pub pen_in : List ℕ → Pen → ℕ → ℕ → List ℕ
pen_in out p v n = eight_in out (p.bits / 8) (topped (p.bits % 8 + n) (joined p v n))

-- how many words' items, 32 bits a word, surely have eight bytes of room behind these bits in so many bytes
abbrev pub words_in : Pen → ℕ → ℕ
words_in p room = (room - (p.bits / 8 + 9)) / 4

-- an item's two numbers
unfoldable pub item_put : Pen → Item → Pen
item_put p i = let k : Packed = packed_of i in pen_put (pen_put p k.first k.first_bits) k.behind k.behind_bits

unfoldable pub item_in : List ℕ → Pen → Item → List ℕ
item_in out p i =
    let k : Packed = packed_of i in
    pen_in (pen_in out p k.first k.first_bits) (pen_put p k.first k.first_bits) k.behind k.behind_bits

-- the end mark, and zeros to the end of its byte at least
unfoldable pub closed_in : List ℕ → Pen → List ℕ
closed_in out p = pen_in out p 0 11

unfoldable pub closed_size : Pen → ℕ
closed_size p = (p.bits + 11) / 8

-- `bits` are written: whole bytes, of which the array has those that have eight places from theirs on, and the last bits
pub record Wrote (bits out : List ℕ) (p : Pen) : Type 0 where
  pub bytes : List ℕ
  pub small : Bytes bytes
  pub is : bits ≡ bytes_bits bytes ++ bits_of (p.bits % 8) p.last
  pub size : length bytes ≡ p.bits / 8
  pub kept : (i : ℕ) → i + 8 ≤ length out → i < p.bits / 8 → get_or out i 0 ≡ get_or bytes i 0
