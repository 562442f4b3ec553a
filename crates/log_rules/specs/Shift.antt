-- Shift (document 02, K9): "all time tags and frame times moved by a signed number of microseconds".
use Rattle.std.specs.Prelude.{ℕ, ◌+◌, Bool, true, false, cond, ◌&&◌, List, [], ◌∷◌, map, length, ltb, leb, ℤ, pos, negsuc, nat_abs, ◌+ℤ◌}
use Rattle.format.specs.Time.{microseconds, high_part, low_part, micro_part, time_end}
use Rattle.format.specs.Item.{item_bits}
use Rattle.format.specs.Log.{Parsed, items, fault, parsed, on_no_plan, log_of}
use Rattle.format.specs.Group.{Fault, none, found, or_else, unless}
use Rattle.format.specs.Read.{Reading, gives, refuses}
use Rattle.format.specs.declared.Time.{Time}
use Rattle.format.specs.declared.Tag.{Tag}
use Rattle.format.specs.declared.Tag.TheVariants.{Untagged, At}
use Rattle.format.specs.declared.Item.{Item}
use Rattle.format.specs.declared.Item.TheVariants.{Command, Status, Data, BusError, Arinc, Notice, User, Overflow}

-- "at most 31,622,400,000,000 either way"
abbrev pub in_limits : ℤ → Bool
in_limits by = leb (nat_abs by) 31622400000000

-- a sum that is a time: it does not "fall below zero or reach 42,949,672,960,000"
abbrev pub is_time : ℤ → Bool
is_time (pos n) = ltb n time_end
is_time (negsuc n) = false

-- may a time be moved so
abbrev pub moves : ℤ → ℕ → Bool
moves by t = is_time (pos t +ℤ by)

-- the time moved
abbrev pub moved : ℤ → ℕ → ℕ
moved by t = nat_abs (pos t +ℤ by)

-- a number of microseconds as a tag
abbrev pub time_of : ℕ → Time
time_of n = record { high = high_part n; low = low_part n; micro = micro_part n }

-- a tag's number of microseconds
abbrev pub tag_time : Time → ℕ
tag_time t = microseconds t.high t.low t.micro

-- a tag moved
abbrev pub moved_tag : ℤ → Tag → Tag
moved_tag by Untagged = Untagged
moved_tag by (At t) = At (time_of (moved by (tag_time t)))

abbrev pub tag_moves : ℤ → Tag → Bool
tag_moves by Untagged = true
tag_moves by (At t) = moves by (tag_time t)

-- "all time tags"; "Response times, item order and log length stay."
unfoldable pub moved_item : ℤ → Item → Item
moved_item by (Command bus b tag word) = Command bus b (moved_tag by tag) word
moved_item by (Status bus b resp word) = Status bus b resp word
moved_item by (Data bus b word) = Data bus b word
moved_item by (BusError bus b word) = BusError bus b word
moved_item by (Arinc bus c tag word) = Arinc bus c (moved_tag by tag) word
moved_item by (Notice bus c diag) = Notice bus c diag
moved_item by (User bus three word) = User bus three word
moved_item by (Overflow bus word) = Overflow bus word

unfoldable pub item_moves : ℤ → Item → Bool
item_moves by (Command bus b tag word) = tag_moves by tag
item_moves by (Status bus b resp word) = true
item_moves by (Data bus b word) = true
item_moves by (BusError bus b word) = true
item_moves by (Arinc bus c tag word) = tag_moves by tag
item_moves by (Notice bus c diag) = true
item_moves by (User bus three word) = true
item_moves by (Overflow bus word) = true

-- the first item that fails a test: this number, and its first bit, where the first of them begins at p
unfoldable pub first_failing : (Item → Bool) → ℕ → ℕ → List Item → Fault
first_failing test number p [] = none
first_failing test number p (i ∷ is) = cond (test i) (first_failing test number (p + length (item_bits i)) is) (found number p)

-- "then a frame time likewise (its index)"
unfoldable pub first_unmoved : ℤ → ℕ → List ℕ → Fault
first_unmoved by i [] = none
first_unmoved by i (t ∷ ts) = cond (moves by t) (first_unmoved by (i + 1) ts) (found 17 i)

-- "17 for a shift out of limits (place 0), a tag that would fall below zero or reach 42,949,672,960,000 (its item's first
-- bit), then a frame time likewise (its index)"
abbrev pub unshifted : ℤ → List ℕ → List Item → Fault
unshifted by times is = or_else (unless (in_limits by) 17 0) (or_else (first_failing (item_moves by) 17 0 is) (first_unmoved by 0 times))

-- "6 last. The time row is written over; the new log goes to a lent buffer."
abbrev pub shifted_in : ℕ → List ℕ → List ℕ → Reading
shifted_in room log times = cond (leb (length log) 32768 && leb (length log) room) (gives log times) (refuses 6 (length log) 0)

abbrev pub if_shifted : Fault → Reading → Reading
if_shifted none r = r
if_shifted (found n p) r = refuses n p 0

abbrev pub shift_parsed : List ℕ → ℤ → ℕ → Parsed → Reading
shift_parsed times by room (fault n p) = refuses n p 0
shift_parsed times by room (items is) = if_shifted (unshifted by times is) (shifted_in room (log_of (map (moved_item by) is)) (map (moved by) times))

-- "Refusals: 2, 4 as in composing; 17 ..; 6 last."
unfoldable pub shifted : List ℕ → List ℕ → ℤ → ℕ → Reading
shifted log times by room = shift_parsed times by room (parsed on_no_plan log)

-- what is not a time: an item with its tag's time forgotten
abbrev pub timeless_tag : Tag → Tag
timeless_tag Untagged = Untagged
timeless_tag (At t) = At (record { high = 0; low = 0; micro = 0 })

unfoldable pub timeless : Item → Item
timeless (Command bus b tag word) = Command bus b (timeless_tag tag) word
timeless (Status bus b resp word) = Status bus b resp word
timeless (Data bus b word) = Data bus b word
timeless (BusError bus b word) = BusError bus b word
timeless (Arinc bus c tag word) = Arinc bus c (timeless_tag tag) word
timeless (Notice bus c diag) = Notice bus c diag
timeless (User bus three word) = User bus three word
timeless (Overflow bus word) = Overflow bus word
