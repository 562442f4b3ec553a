-- The definitions as they were before the plan had its last two lines (document 02, K5): those that say which word fill is, or which
-- label the CRC word has, and those that rest on them. They take no notice of the plan's last two lines.
use Rattle.std.specs.Prelude.{ℕ, zero, suc, ◌+◌, ◌*◌, ◌/◌, ◌%◌, Bool, true, false, cond, ◌&&◌, ◌||◌, not, get_or, length, drop, leb, eqb}
use mathlib.Core.List.{List, [], ◌∷◌, ◌++◌, flat_map}
use Rattle.format.specs.Word.{word_of, sent, sync, bytes_of, word_at, is_odd, is_fill, bus_of}
use Rattle.format.specs.Lists.{list}
use Rattle.format.specs.Check.{check_of}
use Rattle.format.specs.Plan.{least_words, most_words, rows, slots, group_words, times_needed, used_buses}
use Rattle.format.specs.Item.{item_words}
use Rattle.format.specs.Log.{Parsed, items, fault, parsed, on_plan, log_of}
use Rattle.format.specs.Reader.{Slot, run}
use Rattle.format.specs.Group.{Fault, none, found, or_else, unless, first_of, time_fault, group_slots}
use Rattle.format.specs.Notices.{open_fault, bit_of}
use Rattle.format.specs.Compose.{Composed, made, refused, groups_for, dealt_for, first_late, unless_open}
use Rattle.format.specs.Read.{Got, got, stopped, finish, onward, if_sound, open_in, any_data, Reading, refuses, roomed, unless_found}
use Rattle.format.specs.declared.Kind.{Kind}
use Rattle.format.specs.declared.Item.{Item}
use Rattle.format.specs.declared.Held.{Held}
use Rattle.format.specs.declared.Held.TheVariants.{Nothing}
use Rattle.format.specs.declared.Plan.{Plan}

-- a plan of five lines: label 3 and code 0
abbrev pub plain : ℕ → ℕ → Bool → Bool → Bool → Plan
plain words tracks time crc parity =
    record { words = words; tracks = tracks; frame_time = time; crc = crc; parity = parity; crc_label = 3; fill_bus = 0 }

unfoldable pub legal : Plan → List Kind → Bool
legal p ks =
    leb least_words p.words && leb p.words most_words && leb 1 p.tracks && leb p.tracks 4
    && (eqb p.tracks 1 || eqb (used_buses ks) 1)
    && (not p.parity || eqb (used_buses (drop 8 ks)) 0)

-- "Fill is label 1 with information AAAA; we write it on bus 0."
unfoldable pub fill : ℕ
fill = word_of 0 1 0xAAAA

-- "the CRC word: bus 0, label 3 .., with parity like any word"
unfoldable pub check_word : Bool → List ℕ → ℕ
check_word parity ws = sent parity (word_of 0 3 (check_of ws))

-- ---- composing

unfoldable pub frame : Plan → List ℕ → ℕ → List ℕ
frame p dealt t =
    let ws : List ℕ = sync ∷ list (λ r. sent p.parity (get_or dealt (r * p.tracks + t) fill)) 0 (rows p) in
    cond p.crc (ws ++ check_word p.parity ws ∷ []) ws

unfoldable pub group : Plan → List ℕ → List ℕ
group p dealt = flat_map (frame p dealt) (list (λ t. t) 0 p.tracks)

unfoldable pub capture_of : Plan → List ℕ → List ℕ → List ℕ
capture_of p times ws =
    flat_map bytes_of (flat_map (λ (g : ℕ). group p (dealt_for p times ws g)) (list (λ g. g) 0 (groups_for p (length ws))))

unfoldable pub compose_words : Plan → List ℕ → ℕ → List ℕ → Composed
compose_words p times room ws =
    let n : ℕ = groups_for p (length ws) in
    let need : ℕ = times_needed p n in
    let bytes : ℕ = n * (3 * group_words p) in
    cond (eqb (length times) need)
    (cond (eqb (first_late 0 times) (length times))
    (cond (leb bytes room) (made (capture_of p times ws)) (refused 6 bytes))
    (refused 5 (first_late 0 times)))
    (refused 5 need)

abbrev pub compose_parsed : Plan → List ℕ → ℕ → Parsed → Composed
compose_parsed p times room (items is) = unless_open (open_fault (bit_of is) is) (compose_words p times room (flat_map item_words is))
compose_parsed p times room (fault n q) = refused n q

unfoldable pub composed : Plan → List Kind → List ℕ → List ℕ → ℕ → Composed
composed p ks log times room = cond (legal p ks) (compose_parsed p times room (parsed (on_plan ks) log)) (refused 1 0)

-- ---- reading

unfoldable pub fault_at : Plan → List ℕ → ℕ → ℕ → Fault
fault_at p c at zero = unless (eqb (word_at c at) sync) 9 at
fault_at p c at (suc j) =
    let w : ℕ = word_at c (at + suc j) in
    or_else (unless (not p.parity || is_odd w) 10 (at + suc j))
    (cond (p.crc && eqb (suc (suc j)) p.words)
    (unless (eqb w (check_word p.parity (list (word_at c) at (suc j)))) 11 (at + suc j))
    none)

unfoldable pub stored_fault : Plan → List ℕ → ℕ → Fault
stored_fault p c at = first_of (flat_map (λ (t : ℕ). list (fault_at p c (at + t * p.words)) 0 p.words) (list (λ t. t) 0 p.tracks))

unfoldable pub group_fault : Plan → List ℕ → ℕ → Fault
group_fault p c at = or_else (stored_fault p c at) (time_fault p c at)

unfoldable pub read_groups : Plan → List Kind → List ℕ → ℕ → ℕ → Held → ℕ → Got
read_groups p ks c zero g h at = finish h at
read_groups p ks c (suc n) g h at =
    let first : ℕ = g * group_words p in
    if_sound (group_fault p c first)
    (onward (run ks p.parity (group_slots p c first) h at) (λ h' at'. read_groups p ks c n (g + 1) h' at'))

-- "Fill is misplaced if a data word follows it, if neither its group nor a later one has a data word, or if its bus is not 0."
unfoldable pub misplaced_in : Plan → List Slot → List Slot → Bool → Fault → Fault
misplaced_in p [] later near rest = rest
misplaced_in p (s ∷ ss) later near rest =
    cond (is_fill s.1 && (any_data ss || any_data later || not near || not (eqb (bus_of p.parity s.1) 0)))
    (found 14 s.0) (misplaced_in p ss later near rest)

unfoldable pub misplaced : Plan → List (List Slot) → Fault
misplaced p [] = none
misplaced p (ss ∷ gs) =
    let later : List Slot = flat_map (λ (x : List Slot). x) gs in
    misplaced_in p ss later (any_data ss || any_data later) (misplaced p gs)

abbrev pub settled : Plan → List ℕ → ℕ → ℕ → ℕ → Bool → Got → Reading
settled p c n log_room time_room closed (stopped k at second) = refuses k at second
settled p c n log_room time_room closed (got is) =
    unless_found (open_in p c n is)
    (unless_found (cond closed (misplaced p (list (λ g. group_slots p c (g * group_words p)) 0 n)) none) (roomed p c n log_room time_room (log_of is)))

unfoldable pub reading : Bool → Plan → List Kind → List ℕ → ℕ → ℕ → Reading
reading closed p ks c log_room time_room =
    let size : ℕ = 3 * group_words p in
    cond (legal p ks)
    (cond (leb (length c) 1048576 && eqb (length c % size) 0)
    (settled p c (length c / size) log_room time_room closed (read_groups p ks c (length c / size) 0 Nothing 0))
    (refuses 8 (length c) 0))
    (refuses 1 0 0)
