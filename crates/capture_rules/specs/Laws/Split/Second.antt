-- The second place in the two operations (document 02, K8): "In every other answer the second place is 0."
use Rattle.std.specs.Prelude.{ℕ, ◌*◌, ◌/◌, ◌%◌, ◌&&◌, ◌≡◌, refl, List, [], length, leb, eqb}
use Rattle.format.specs.Plan.{legal, slots, group_words, times_needed}
use Rattle.format.specs.Log.{log_of}
use Rattle.format.specs.Reader.{Slot, places_of, counted}
use Rattle.format.specs.Notices.{open_fault, first_word_of}
use Rattle.format.specs.Read.{Reading, gives, refuses, Got, got, stopped, onward, finish, slots_from, unless_found}
use Rattle.format.specs.Laws.Second.{ReadOnly, GotOnly, finish_only, onward_only, placed_only, test_only}
use Rattle.capture_rules.specs.Split.{groups_fault, frame_times, words_roomed, words_read, run_numbers, log_roomed, items_settled, items_read}
use Rattle.format.specs.declared.Kind.{Kind}
use Rattle.format.specs.declared.Plan.{Plan}
use Rattle.format.specs.declared.Held.TheVariants.{Nothing}
use Rattle.format.specs.Laws.Reader.Slots.{words_in}

words_roomed_only : (p : Plan) (c : List ℕ) (n wordRoom time_room : ℕ) → ReadOnly (words_roomed p c n wordRoom time_room)
words_roomed_only p c n wordRoom time_room =
    test_only (leb (n * slots p) wordRoom) _ _
    (test_only (leb (times_needed p n) time_room) (gives (words_in (slots_from p c n 0)) (frame_times p c n)) (refuses 7 (times_needed p n) 0) tt (λ z. refl)) (λ z. refl)

pub words_only : (p : Plan) (ks : List Kind) (c : List ℕ) (wordRoom time_room : ℕ) → ReadOnly (words_read p ks c wordRoom time_room)
unfolding words_read
words_only p ks c wordRoom time_room =
    test_only (legal p ks) _ _
    (test_only (leb (length c) 1048576 && eqb (length c % (3 * group_words p)) 0) _ _
    (placed_only (groups_fault p c (length c / (3 * group_words p)) 0) (words_roomed p c (length c / (3 * group_words p)) wordRoom time_room)
    (words_roomed_only p c (length c / (3 * group_words p)) wordRoom time_room))
    (λ z. refl)) (λ z. refl)

settled_only : (log_room : ℕ) (ss : List Slot) (g : Got) → GotOnly g → ReadOnly (items_settled log_room ss g)
settled_only log_room ss (stopped k at second) o = o
settled_only log_room ss (got is) o =
    placed_only (open_fault (first_word_of (places_of ss) is) is) (log_roomed log_room (log_of is))
    (test_only (leb (length (log_of is)) 32768 && leb (length (log_of is)) log_room) (gives (log_of is) []) (refuses 6 (length (log_of is)) 0) tt (λ z. refl))

pub items_only : (p : Plan) (ks : List Kind) (ws : List ℕ) (log_room : ℕ) → ReadOnly (items_read p ks ws log_room)
unfolding items_read
items_only p ks ws log_room =
    test_only (legal p ks) _ _
    (test_only (leb (length ws) 349525) _ _
    (settled_only log_room (counted 0 ws) (onward (run_numbers ks p.parity (counted 0 ws) Nothing 0) finish)
    (onward_only (run_numbers ks p.parity (counted 0 ws) Nothing 0) finish finish_only))
    (λ z. refl)) (λ z. refl)
