-- An item's tag moved, by its numbers.
use Prim.Native.Nat.{ℕ, ◌+◌, ◌*◌, ◌/◌, ◌%◌, ◌^◌, ◌<◌}
use native.Mathlib.Nat.{mod-eq_of_lt}
use native.Mathlib.Omega.{arith}
use mathlib.Core.Bool.{Bool, true, false, cond}
use mathlib.Core.Path.{◌≡◌, refl, ap, sym, ◌∙◌}
use lib.Dec.{eqb, ltb}
use lib.IntN.{ℤ}
use Rattle.format.specs.Item.{item_fields}
use Rattle.format.specs.Time.{time_end, high_part, low_part, micro_part}
use Rattle.format.specs.declared.Time.{Time}
use Rattle.format.specs.declared.Tag.TheVariants.{Untagged, At}
use Rattle.format.specs.declared.Response.TheVariants.{Untimed, After}
use Rattle.format.specs.declared.Item.{Item}
use Rattle.format.specs.declared.Item.TheVariants.{Command, Status, Data, BusError, Arinc, Notice, User, Overflow}
use Rattle.log_rules.specs.Shift.{item_moves, moved, moved_item, moves, tag_time, time_of}
use Rattle.log_rules.specs.Laws.Shift.{moved_sum}
use Rattle.log_walk.proofs.Items.{TagNarrow, TimesNarrow}
use Rattle.log_write.specs.Packed.{packed_of}
use Rattle.log_write.specs.declared.Packed.{Packed}
use Rattle.log_move.specs.Moved.{moved_number, moved_packed, tag_number, time_number}
use Rattle.log_move.proofs.Times.{number_moved, test_moves}

-- a tag's three fields as one number
abbrev fields_number : ℕ → ℕ → ℕ → ℕ
fields_number high low micro = ((0 * 2 ^ 16 + high % 2 ^ 16) * 2 ^ 16 + low % 2 ^ 16) * 2 ^ 14 + micro % 2 ^ 14

fields_whole : (high low micro : ℕ) → high < 65536 → low < 65536 → micro < 16384 → fields_number high low micro ≡ (65536 * high + low) * 16384 + micro
fields_whole high low micro a b c =
    let x : high % 2 ^ 16 ≡ high = mod-eq_of_lt a in
    let y : low % 2 ^ 16 ≡ low = mod-eq_of_lt b in
    let z : micro % 2 ^ 14 ≡ micro = mod-eq_of_lt c in
    rw (x, y, z) (omega arith)

apart : (x m : ℕ) → m < 16384 → 10000 * ((x * 16384 + m) / 16384) + (x * 16384 + m) % 16384 ≡ 10000 * x + m
apart x m h = omega arith

time_said : (t : Time) → TagNarrow (At t) → 10000 * (fields_number t.high t.low t.micro / 16384) + fields_number t.high t.low t.micro % 16384 ≡ tag_time t
time_said t (a, b, c) = rw (fields_whole t.high t.low t.micro a b c) (apart (65536 * t.high + t.low) t.micro c)

-- the time that the numbers of an item say can be moved as the item can
pub tag_moves : (by : ℤ) (i : Item) → TimesNarrow i → ltb (tag_number by (packed_of i)) time_end ≡ item_moves by i
unfolding packed_of item_fields item_moves
tag_moves by (Command bus b Untagged word) h = refl
tag_moves by (Command bus b (At t) word) h = ap (λ (n : ℕ). ltb (moved_number by n) time_end) (time_said t h) ∙ test_moves by (tag_time t)
tag_moves by (Status bus b Untimed word) h = refl
tag_moves by (Status bus b (After r) word) h = refl
tag_moves by (Data bus b word) h = refl
tag_moves by (BusError bus b word) h = refl
tag_moves by (Arinc bus c Untagged word) h = refl
tag_moves by (Arinc bus c (At t) word) h = ap (λ (n : ℕ). ltb (moved_number by n) time_end) (time_said t h) ∙ test_moves by (tag_time t)
tag_moves by (Notice bus c diag) h = refl
tag_moves by (User bus three word) h = refl
tag_moves by (Overflow bus word) h = refl

parts_said : (n : ℕ) → n < time_end → fields_number (high_part n) (low_part n) (micro_part n) ≡ time_number n
parts_said n h =
    let q : n / 10000 < 4294967296 = omega arith in
    let a : high_part n < 65536 = omega arith in
    let b : low_part n < 65536 = omega arith in
    let c : micro_part n < 16384 = omega arith in
    fields_whole (high_part n) (low_part n) (micro_part n) a b c ∙ swap (high_part n) (low_part n) (micro_part n)
  where
    swap : (x y z : ℕ) → (65536 * x + y) * 16384 + z ≡ (x * 65536 + y) * 16384 + z
    swap x y z = omega arith

-- the tag's number, moved
new_tag : (by : ℤ) (t : Time) → TagNarrow (At t) → moves by (tag_time t) ≡ true
    → fields_number (high_part (moved by (tag_time t))) (low_part (moved by (tag_time t))) (micro_part (moved by (tag_time t)))
    ≡ time_number (moved_number by (10000 * (fields_number t.high t.low t.micro / 16384) + fields_number t.high t.low t.micro % 16384))
new_tag by t h e =
    parts_said (moved by (tag_time t)) (moved_sum by (tag_time t) e).1
    ∙ ap time_number (sym (number_moved by (tag_time t) e))
    ∙ ap (λ (n : ℕ). time_number (moved_number by n)) (sym (time_said t h))

-- an item moved has the numbers of the item with the moved time
pub tag_moved : (by : ℤ) (i : Item) → TimesNarrow i → item_moves by i ≡ true → packed_of (moved_item by i) ≡ moved_packed (tag_number by (packed_of i)) (packed_of i)
unfolding packed_of item_fields item_moves moved_item
tag_moved by (Command bus b Untagged word) h e = refl
tag_moved by (Command bus b (At t) word) h e = rw (new_tag by t h e) refl
tag_moved by (Status bus b Untimed word) h e = refl
tag_moved by (Status bus b (After r) word) h e = refl
tag_moved by (Data bus b word) h e = refl
tag_moved by (BusError bus b word) h e = refl
tag_moved by (Arinc bus c Untagged word) h e = refl
tag_moved by (Arinc bus c (At t) word) h e = rw (new_tag by t h e) refl
tag_moved by (Notice bus c diag) h e = refl
tag_moved by (User bus three word) h e = refl
tag_moved by (Overflow bus word) h e = refl
