-- Composing from C (document 01, "Programs").
use Rattle.std.specs.Prelude.{ℕ, ◌%◌, ◌≤◌, cond, ◌≡◌, length, take, eqb}
use mathlib.Core.List.{List, map, flat_map}
use Rattle.format.specs.Compose.{Composed, refused, composed, groups_for, unless_open}
use Rattle.format.specs.Notices.{open_fault, bit_of}
use Rattle.format.specs.Item.{item_words}
use Rattle.format.specs.Log.{Parsed, items, fault, on_plan, parsed}
use Rattle.format.specs.Plan.{legal, times_needed}
use Rattle.format.specs.declared.Kind.{Kind}
use Rattle.format.specs.declared.Plan.{Plan}
use Rattle.from_c.specs.Numbers.{kind_of, named, plan_from, times_from}

-- the bytes' times stand in front of the row, and n is how many; or n is 127, if they are not whole eights or more than 126
pub record TimesPut (times row : List ℕ) (n : ℕ) : Type 0 where
  pub few : n ≤ 127
  pub is : length times % 8 ≡ 0 → length times ≤ 1008 → take n row ≡ times_from times
  pub full : ((length times % 8 ≡ 0) → (length times ≤ 1008) → ⊥) → n ≡ 127
  pub long : length row ≡ 127

-- "Composing refuses a run of times that is not whole eights by 5, its place the number needed": after 2, 3 and 4, and 15 (K2)
abbrev pub ragged_parsed : Plan → Parsed → Composed
ragged_parsed p (items is) = unless_open (open_fault (bit_of is) is) (refused 5 (times_needed p (groups_for p (length (flat_map item_words is)))))
ragged_parsed p (fault n q) = refused n q

unfoldable pub ragged : Plan → List Kind → List ℕ → Composed
ragged p ks log = cond (legal p ks) (ragged_parsed p (parsed (on_plan ks) log)) (refused 1 0)

unfoldable pub composed_bytes : Plan → List Kind → List ℕ → List ℕ → ℕ → Composed
composed_bytes p ks log times room = cond (eqb (length times % 8) 0) (composed p ks log (times_from times) room) (ragged p ks log)

unfoldable pub composed_from : ℕ → ℕ → ℕ → ℕ → ℕ → ℕ → ℕ → List ℕ → List ℕ → List ℕ → ℕ → Composed
composed_from words tracks time crc parity label code kinds log times room =
    cond (named time crc parity kinds)
    (composed_bytes (plan_from words tracks time crc parity label code) (map kind_of kinds) log times room)
    (refused 1 0)
