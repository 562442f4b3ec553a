-- A shift with its time row as bytes, and what its parts answer.
use Rattle.std.specs.Prelude.{ℕ, ◌+◌, ◌*◌, ◌/◌, ◌<◌, Bool, true, cond, ◌≡◌, length, ℤ}
use mathlib.Core.List.{List, [], ◌∷◌, map, flat_map}
use Rattle.format.specs.Answer.{log_after, over, read_answer}
use Rattle.format.specs.Item.{item_bits}
use Rattle.format.specs.Log.{Parsed, items, fault, log_of}
use Rattle.format.specs.Read.{Reading, gives, refuses}
use Rattle.format.specs.declared.Answer.{Answer}
use Rattle.format.specs.declared.Item.{Item}
use Rattle.from_c.specs.Numbers.{time_at, time_bytes, times_from}
use Rattle.log_close.specs.Made.{StandsIn}
use Rattle.log_put.specs.declared.Put.{Put}
use Rattle.log_rules.specs.Shift.{first_unmoved, if_shifted, moved, moves, shifted_in}
use Rattle.log_write.specs.Pen.{Wrote}
use Rattle.log_write.specs.declared.Pen.{Pen}

-- the lent bytes of the time row afterwards; the spare ones "stay"
abbrev pub row_after : Reading → List ℕ → List ℕ
row_after (gives log times) old = over (flat_map time_bytes times) old
row_after (refuses n p second) old = old

-- a shift's answer, the lent log and the lent time row
abbrev pub Shifted : Reading → Answer → List ℕ → List ℕ → List ℕ → List ℕ → Type 0
Shifted g r out out' times times' = (r ≡ read_answer g) × (out' ≡ log_after g out) × (times' ≡ row_after g times)

-- two answers that meet it are the same, and leave the same in the lent log and the lent time row
pub shifted_one : (g : Reading) (r r' : Answer) (out x x' times y y' : List ℕ) → Shifted g r out x times y → Shifted g r' out x' times y'
    → (r ≡ r') × (x ≡ x') × (y ≡ y')
shifted_one g r r' out x x' times y y' a b = (cc, cc, cc)

-- the index of the first time that cannot be moved, counted from i, or how many there are
unfoldable pub unmovable_from : ℤ → ℕ → List ℕ → ℕ
unmovable_from by i [] = i
unmovable_from by i (t ∷ ts) = cond (moves by t) (unmovable_from by (i + 1) ts) i

abbrev pub first_unmovable : ℤ → List ℕ → ℕ
first_unmovable by ts = unmovable_from by 0 ts

-- each entry of the row can be moved
abbrev pub Moves : ℤ → List ℕ → Type 0
Moves by s = (i : ℕ) → i < length s / 8 → moves by (time_at s (8 * i)) ≡ true

-- the row moved
abbrev pub moved_bytes : ℤ → List ℕ → List ℕ
moved_bytes by s = over (flat_map time_bytes (map (moved by) (times_from s))) s

-- "then a frame time likewise (its index); 6 last": of items that are moved
abbrev pub row_shifted : ℤ → List ℕ → ℕ → List Item → Reading
row_shifted by times room is = if_shifted (first_unmoved by 0 times) (shifted_in room (log_of is) (map (moved by) times))

abbrev pub ShiftsRow : ℤ → Pen → List ℕ → Answer → List ℕ → List ℕ → List ℕ → List ℕ → Type 0
ShiftsRow by p built r out out' times times' =
    (is : List Item) → Wrote (flat_map item_bits is) built p → Shifted (row_shifted by (times_from times) (length out) is) r out out' times times'

-- of a row of items or a fault
abbrev pub put_shifted : ℤ → List ℕ → ℕ → Parsed → Reading
put_shifted by times room (items is) = row_shifted by times room is
put_shifted by times room (fault n q) = refuses n q 0

abbrev pub ShiftsPut : ℤ → Put → List ℕ → Answer → List ℕ → List ℕ → List ℕ → List ℕ → Type 0
ShiftsPut by put built r out out' times times' =
    (row : Parsed) (most : ℕ) → StandsIn row most built put → Shifted (put_shifted by (times_from times) (length out) row) r out out' times times'
