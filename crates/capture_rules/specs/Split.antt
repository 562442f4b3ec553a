-- Reading in two operations (document 02, K3): "one undoes frames and tracks and hands out data slots in dealt order, fill
-- included, with the frame times; the other turns such words into a log".
use Rattle.std.specs.Prelude.{ℕ, zero, suc, ◌+◌, ◌*◌, ◌/◌, ◌%◌, ◌^◌, ◌-◌, Bool, true, false, cond, ◌&&◌, ◌||◌, List, [], ◌∷◌, ◌++◌, map, length, ltb, leb, eqb}
use Rattle.format.specs.Word.{bus_of, label_of, info_of, is_fill}
use Rattle.format.specs.Plan.{legal, slots, group_words, times_needed, stored_at}
use Rattle.format.specs.Log.{log_of}
use Rattle.format.specs.Lists.{list}
use Rattle.format.specs.Reader.{Slot, counted, Ran, bad_at, ran, feed, begun, join, places_of}
use Rattle.format.specs.Notices.{open_fault, first_word_of}
use Rattle.format.specs.Group.{Fault, none, found, or_else, group_fault, group_time}
use Rattle.format.specs.Read.{Reading, gives, refuses, Got, got, stopped, onward, finish, slots_from, unless_found}
use Rattle.format.specs.Laws.Reader.Slots.{words_in}
use Rattle.format.specs.declared.Kind.{Kind}
use Rattle.format.specs.declared.Held.{Held}
use Rattle.format.specs.declared.Held.TheVariants.{Nothing}
use Rattle.format.specs.declared.Plan.{Plan}

-- ---- the first operation: words and times

-- the first fault of 9 to 12 in n groups from g on
unfoldable pub groups_fault : Plan → List ℕ → ℕ → ℕ → Fault
groups_fault p c zero g = none
groups_fault p c (suc n) g = or_else (group_fault p c (g * group_words p)) (groups_fault p c n (g + 1))

-- the frame times of n groups
abbrev pub frame_times : Plan → List ℕ → ℕ → List ℕ
frame_times p c n = list (λ g. group_time p c (g * group_words p)) 0 (times_needed p n)

-- "then 6 for its word room (place in words), then 7"; the length given is that of the words
abbrev pub words_roomed : Plan → List ℕ → ℕ → ℕ → ℕ → Reading
words_roomed p c n wordRoom time_room =
    cond (leb (n * slots p) wordRoom)
    (cond (leb (times_needed p n) time_room) (gives (words_in (slots_from p c n 0)) (frame_times p c n)) (refuses 7 (times_needed p n) 0))
    (refuses 6 (n * slots p) 0)

-- "the first gives 1, 8 to 12, then 6 .., then 7"
unfoldable pub words_read : Plan → List Kind → List ℕ → ℕ → ℕ → Reading
words_read p ks c wordRoom time_room =
    let size : ℕ = 3 * group_words p in
    cond (legal p ks)
    (cond (leb (length c) 1048576 && eqb (length c % size) 0)
    (unless_found (groups_fault p c (length c / size) 0) (words_roomed p c (length c / size) wordRoom time_room))
    (refuses 8 (length c) 0))
    (refuses 1 0 0)

-- ---- the second operation: a log

-- as `run`, and "13 (also for a number above 24 bits)"; a bad word's second place as there
unfoldable pub run_numbers : List Kind → Bool → List Slot → Held → ℕ → Ran
run_numbers ks parity [] h p = ran [] h p
run_numbers ks parity (s ∷ ss) h p =
    cond (ltb s.1 (2 ^ 24))
    (cond (is_fill s.1) (run_numbers ks parity ss h p)
    (join (feed ks h (bus_of parity s.1) (label_of s.1) (info_of s.1)) p (begun h p s.0) s.0 (λ h' p'. run_numbers ks parity ss h' p')))
    (bad_at s.0 (begun h p s.0))

-- 6 last: "output too short, or a log above 32,768"
abbrev pub log_roomed : ℕ → List ℕ → Reading
log_roomed log_room log = cond (leb (length log) 32768 && leb (length log) log_room) (gives log []) (refuses 6 (length log) 0)

-- "15, 6" of the items in slots
abbrev pub items_settled : ℕ → List Slot → Got → Reading
items_settled log_room ss (stopped k at second) = refuses k at second
items_settled log_room ss (got is) = unless_found (open_fault (first_word_of (places_of ss) is) is) (log_roomed log_room (log_of is))

-- "The second counts places in the words it was given" (`counted`): it "gives 1, 8 for more than 349,525 words (their number), 13 .., 15, 6"
unfoldable pub items_read : Plan → List Kind → List ℕ → ℕ → Reading
items_read p ks ws log_room =
    cond (legal p ks)
    (cond (leb (length ws) 349525)
    (items_settled log_room (counted 0 ws) (onward (run_numbers ks p.parity (counted 0 ws) Nothing 0) finish))
    (refuses 8 (length ws) 0))
    (refuses 1 0 0)

-- ---- where a dealt word stands

-- the plain reading from what the two operations give: the log of the second with the times of the first, or the second's
-- refusal, the place of a 13 or 15 that of the word in the capture, and so the second place of a 13 (K8)
abbrev pub in_capture : Plan → List ℕ → Reading → Reading
in_capture p times (gives log row) = gives log times
in_capture p times (refuses k at second) = refuses k (cond (eqb k 13 || eqb k 15) (stored_at p at) at) (cond (eqb k 13) (stored_at p second) second)
