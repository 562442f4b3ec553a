-- What the contracts cite beside the definitions: a time, a tag and a row of items moved.
use Rattle.std.specs.Prelude.{ℕ, ◌+◌, ◌*◌, ◌/◌, ◌%◌, ◌≤◌, cond, ◌≡◌, length, eqb, ℤ, pos, nat_abs, ◌+ℤ◌}
use mathlib.Core.List.{List, flat_map, map}
use Rattle.format.specs.Group.{Fault, none, found}
use Rattle.format.specs.Item.{item_bits}
use Rattle.format.specs.Log.{Parsed, items, fault, on_no_plan}
use Rattle.format.specs.Time.{time_end, high_part, low_part, micro_part}
use Rattle.format.specs.declared.Item.{Item}
use Rattle.log_put.specs.declared.Put.{Put}
use Rattle.log_put.specs.declared.Spot.{Spot}
use Rattle.log_put.specs.declared.Put.TheVariants.{Fault as Refused}
use Rattle.log_rules.specs.Shift.{is_time, first_failing, item_moves, moved_item}
use Rattle.log_rules.specs.Laws.Checking.{Walk}
use Rattle.log_write.specs.Pen.{Wrote}
use Rattle.log_write.specs.declared.Packed.{Packed}
use Rattle.log_write.specs.declared.Pen.{Pen}

-- a sum that is a time, or the first number that is none
abbrev pub number_of : ℤ → ℕ
number_of z = cond (is_time z) (nat_abs z) time_end

abbrev pub moved_number : ℤ → ℕ → ℕ
moved_number by t = number_of (pos t +ℤ by)

-- the time of an item's tag moved, where 46 bits behind it are one
abbrev pub tag_number : ℤ → Packed → ℕ
tag_number by k = cond (eqb k.behind_bits 46) (moved_number by (10000 * (k.behind / 16384) + k.behind % 16384)) 0

-- a tag's bits
abbrev pub time_number : ℕ → ℕ
time_number t = (high_part t * 65536 + low_part t) * 16384 + micro_part t

-- an item with another time in its tag
abbrev pub moved_packed : ℕ → Packed → Packed
moved_packed t k =
    cond (eqb k.behind_bits 46) (record { first = k.first; first_bits = k.first_bits; behind = time_number t; behind_bits = 46 }) k

-- a log's own fault, or 17
abbrev pub judged : Parsed → ℕ → Put
judged (items is) place = Refused 17 place
judged (fault n q) place = Refused n q

-- the items moved, or 17 at the first that cannot be
abbrev pub row_of : Fault → List Item → Parsed
row_of none is = items is
row_of (found n q) is = fault n q

abbrev pub moved_row : ℤ → Parsed → Parsed
moved_row by (items is) = row_of (first_failing (item_moves by) 17 0 is) (map (moved_item by) is)
moved_row by (fault n q) = fault n q

-- the items of a log so far, each of them good, and moved and put
pub record Moving (log : List ℕ) (by : ℤ) (built : List ℕ) (place : ℕ) (p : Pen) : Type 0 where
  pub past : List Item
  pub walk : Walk on_no_plan log past place
  pub clear : first_failing (item_moves by) 17 0 past ≡ none
  pub wrote : Wrote (flat_map item_bits (map (moved_item by) past)) built p
  pub few : p.bits ≤ place
  pub short : length log ≤ 32768

-- from a spot on more items are moved and put, whatever the shift is
pub record MovesOn (log built : List ℕ) (from : Spot) (built' : List ℕ) (to : Spot) : Type 0 where
  pub on : from.at ≤ to.at
  pub within : to.at ≤ length log * 8
  pub moves : (by : ℤ) → Moving log by built from.at from.pen → Moving log by built' to.at to.pen
