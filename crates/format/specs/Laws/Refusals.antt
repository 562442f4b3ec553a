-- A refusal's number is never 0, so number 0 says success: composing refuses by 1 to 6 and 15, a reading by 1 to 15.
use Rattle.std.specs.Prelude.{ℕ, zero, suc, ◌+◌, ◌*◌, ◌/◌, ◌%◌, ◌≤◌, true, false, cond, ◌&&◌, ◌||◌, not, ◌≡◌, refl, ◌⊎◌, length, ltb}
use native.Mathlib.Omega.{arith}
use Rattle.std.proofs.Math.Bool.{Bool}
use Rattle.std.proofs.Common.{inl, inr}
use mathlib.Core.List.{List, [], ◌∷◌, ◌++◌, flat_map}
use Rattle.std.proofs.Math.Dec.{eqb, leb}
use Rattle.std.proofs.lemmas.Bool.{eqb-false}
use Rattle.format.specs.Bits.{bytes_bits}
use Rattle.format.specs.Word.{word_at, sync, is_odd, bus_of, label_of, info_of, is_fill}
use Rattle.format.specs.Time.{below_tick}
use Rattle.format.specs.Plan.{legal, group_words, place_of, kind_on, times_needed}
use Rattle.format.specs.Item.{item_words, stands_on, bus_of_item, in_time}
use Rattle.format.specs.Lists.{All, nil, cons, list}
use Rattle.format.specs.Log.{Parsed, items, fault, consed, Next, has, ends, wrong, next_at, parse_next, parse_from, parsed, on_plan, log_of}
use Rattle.format.specs.Check.{check_word}
use Rattle.format.specs.Group.{Fault, none, found, or_else, unless, fault_at, first_of, stored_fault, time_word_fault, time_fault, group_fault, group_slots, group_time}
use Rattle.format.specs.Reader.{Slot, Ran, bad_at, ran, run, places_of}
use Rattle.format.specs.Compose.{Composed, made, refused, composed, compose_parsed, unless_open, compose_words, capture_of, groups_for, first_late}
use Rattle.format.specs.Read.{Got, got, stopped, before, finish, onward, if_sound, read_groups, any_data, misplaced_in, misplaced, Reading, gives, refuses, roomed, unless_found, settled, reading, open_in, slots_from}
use Rattle.format.specs.Notices.{open_fault, first_open, bit_of, first_word_of}
use Rattle.format.specs.Laws.Lists.{all_list, all_flat}
use Rattle.format.specs.declared.Kind.{Kind}
use Rattle.format.specs.declared.Item.{Item}
use Rattle.format.specs.declared.Held.{Held}
use Rattle.format.specs.declared.Held.TheVariants.{Nothing, Taggable, Half, TagHigh, TagLow, Answering}
use Rattle.format.specs.declared.Plan.{Plan}

-- a number from 1 to `most`
abbrev Number : ℕ → ℕ → Type 0
Number most n = (1 ≤ n) × (n ≤ most)

either : {A : Type 0} (P : A → Type 0) (b : Bool) (x y : A) → P x → P y → P (cond b x y)
either P true x y p q = p
either P false x y p q = q

-- ---- composing

abbrev ParsedNumber : Parsed → Type 0
ParsedNumber (items is) = Unit {0}
ParsedNumber (fault n q) = Number 4 n

check_low : (ks : List Kind) (i : Item) → on_plan ks i ≤ 4
check_low ks i = either (λ (n : ℕ). n ≤ 4) (stands_on i (kind_on ks (bus_of_item i))) (cond (in_time i) 0 4) 3 (either (λ (n : ℕ). n ≤ 4) (in_time i) 0 4 (omega arith) (omega arith)) (omega arith)

consed_number : (i : Item) (r : Parsed) → ParsedNumber r → ParsedNumber (consed i r)
consed_number i (items is) h = tt
consed_number i (fault n q) h = h

next_number : (ks : List Kind) (p : ℕ) (rest : ℕ → Parsed) → ((q : ℕ) → ParsedNumber (rest q)) → (x : Next) → ParsedNumber (parse_next (on_plan ks) p rest x)
next_number ks p rest h ends = tt
next_number ks p rest h (has i q) = go (eqb (on_plan ks i) 0) refl
  where
    go : (b : Bool) → eqb (on_plan ks i) 0 ≡ b → ParsedNumber (cond b (consed i (rest q)) (fault (on_plan ks i) p))
    go true b = consed_number i (rest q) (h q)
    go false b =
        let z : on_plan ks i ≡ 0 → ⊥ = eqb-false (on_plan ks i) 0 b in
        (above (on_plan ks i) z, check_low ks i)
      where
        above : (n : ℕ) → (n ≡ 0 → ⊥) → 1 ≤ n
        above zero z = absurd (z refl)
        above (suc n) z = omega arith
next_number ks p rest h wrong = (omega arith, omega arith)

parse_number : (ks : List Kind) (s : List ℕ) (f p : ℕ) → ParsedNumber (parse_from f (on_plan ks) s p)
unfolding parse_from
parse_number ks s zero p = (omega arith, omega arith)
parse_number ks s (suc f) p = next_number ks p (parse_from f (on_plan ks) s) (λ q. parse_number ks s f q) (next_at s p)

log_number : (ks : List Kind) (log : List ℕ) → ParsedNumber (parsed (on_plan ks) log)
unfolding parsed
log_number ks log =
    either ParsedNumber (ltb 32768 (length log)) (fault 2 0) (parse_from (length log + 1) (on_plan ks) (bytes_bits log) 0) (omega arith, omega arith)
    (parse_number ks (bytes_bits log) (length log + 1) 0)

pub log_refused : (ks : List Kind) (log : List ℕ) (n q : ℕ) → parsed (on_plan ks) log ≡ fault n q → (1 ≤ n) × (n ≤ 4)
log_refused ks log n q e = rw e at (log_number ks log)

-- the numbers that composing refuses by: 1 to 6, and 15
abbrev pub ComposingNumber : ℕ → Type 0
ComposingNumber n = (1 ≤ n) × ((n ≤ 6) ⊎ (n ≡ 15))

abbrev ComposedNumber : Composed → Type 0
ComposedNumber (made c) = Unit {0}
ComposedNumber (refused n q) = ComposingNumber n

words_number : (p : Plan) (times : List ℕ) (room : ℕ) (ws : List ℕ) → ComposedNumber (compose_words p times room ws)
unfolding compose_words
words_number p times room ws =
    let n : ℕ = groups_for p (length ws) in
    let bytes : ℕ = n * (3 * group_words p) in
    either ComposedNumber (eqb (length times) (times_needed p n))
    (cond (eqb (first_late 0 times) (length times)) (cond (leb bytes room) (made (capture_of p times ws)) (refused 6 bytes)) (refused 5 (first_late 0 times))) (refused 5 (times_needed p n))
    (either ComposedNumber (eqb (first_late 0 times) (length times)) (cond (leb bytes room) (made (capture_of p times ws)) (refused 6 bytes)) (refused 5 (first_late 0 times))
    (either ComposedNumber (leb bytes room) (made (capture_of p times ws)) (refused 6 bytes) tt (omega arith, inl (omega arith)))
    (omega arith, inl (omega arith)))
    (omega arith, inl (omega arith))

-- the fault of an open notice is 15
open_number : (place : ℕ → ℕ) (is : List Item) (p : Plan) (times : List ℕ) (room : ℕ) → ComposedNumber (unless_open (open_fault place is) (compose_words p times room (flat_map item_words is)))
open_number place is p times room = go (eqb (first_open is) (length is))
  where
    go : (b : Bool) → ComposedNumber (unless_open (unless b 15 (place (first_open is))) (compose_words p times room (flat_map item_words is)))
    go true = words_number p times room (flat_map item_words is)
    go false = (omega arith, inr refl)

parsed_number : (p : Plan) (times : List ℕ) (room : ℕ) (r : Parsed) → ParsedNumber r → ComposedNumber (compose_parsed p times room r)
parsed_number p times room (items is) h = open_number (bit_of is) is p times room
parsed_number p times room (fault n q) h = (h.0, inl (omega (arith, h.1)))

composed_number : (p : Plan) (ks : List Kind) (log times : List ℕ) (room : ℕ) → ComposedNumber (composed p ks log times room)
unfolding composed
composed_number p ks log times room =
    either ComposedNumber (legal p ks) (compose_parsed p times room (parsed (on_plan ks) log)) (refused 1 0)
    (parsed_number p times room (parsed (on_plan ks) log) (log_number ks log))
    (omega arith, inl (omega arith))

pub composed_refused : (p : Plan) (ks : List Kind) (log times : List ℕ) (room n q : ℕ) → composed p ks log times room ≡ refused n q → ComposingNumber n
composed_refused p ks log times room n q e = rw e at (composed_number p ks log times room)

-- ---- reading

abbrev FaultNumber : Fault → Type 0
FaultNumber none = Unit {0}
FaultNumber (found n q) = Number 15 n

unless_number : (b : Bool) (n p : ℕ) → Number 15 n → FaultNumber (unless b n p)
unless_number true n p h = tt
unless_number false n p h = h

else_number : (f g : Fault) → FaultNumber f → FaultNumber g → FaultNumber (or_else f g)
else_number none g h k = k
else_number (found n p) g h k = h

at_number : (p : Plan) (c : List ℕ) (at j : ℕ) → FaultNumber (fault_at p c at j)
unfolding fault_at
at_number p c at zero = unless_number (eqb (word_at c at) sync) 9 at (omega arith, omega arith)
at_number p c at (suc j) =
    let w : ℕ = word_at c (at + suc j) in
    let check : Fault = unless (eqb w (check_word p.parity p.crc_label (list (word_at c) at (suc j)))) 11 (at + suc j) in
    let last : Fault = cond (p.crc && eqb (suc (suc j)) p.words) check none in
    else_number (unless (not p.parity || is_odd w) 10 (at + suc j)) last (unless_number (not p.parity || is_odd w) 10 (at + suc j) (omega arith, omega arith))
    (either FaultNumber (p.crc && eqb (suc (suc j)) p.words) check none (unless_number (eqb w (check_word p.parity p.crc_label (list (word_at c) at (suc j)))) 11 (at + suc j) (omega arith, omega arith)) tt)

first_number : (fs : List Fault) → All FaultNumber fs → FaultNumber (first_of fs)
unfolding first_of
first_number [] nil = tt
first_number (f ∷ fs) (cons h t) = else_number f (first_of fs) h (first_number fs t)

stored_number : (p : Plan) (c : List ℕ) (at : ℕ) → FaultNumber (stored_fault p c at)
unfolding stored_fault
stored_number p c at =
    first_number _
    (all_flat FaultNumber (λ (t : ℕ). list (fault_at p c (at + t * p.words)) 0 p.words) (list (λ t. t) 0 p.tracks)
    (all_list _ (λ t. t) p.tracks 0 (λ t h. all_list FaultNumber (fault_at p c (at + (0 + t) * p.words)) p.words 0 (λ j l. at_number p c (at + (0 + t) * p.words) (0 + j)))))

time_word_number : (p : Plan) (c : List ℕ) (at s label : ℕ) (micro : Bool) → FaultNumber (time_word_fault p c at s label micro)
unfolding time_word_fault
time_word_number p c at s label micro =
    let w : ℕ = word_at c (at + place_of p s) in
    unless_number (eqb (bus_of p.parity w) 0 && eqb (label_of w) label && (cond micro (below_tick (info_of w)) true)) 12 (at + place_of p s) (omega arith, omega arith)

group_number : (p : Plan) (c : List ℕ) (at : ℕ) → FaultNumber (group_fault p c at)
unfolding group_fault time_fault
group_number p c at =
    let a : Fault = time_word_fault p c at 0 7 false in
    let b : Fault = time_word_fault p c at 1 6 false in
    let d : Fault = time_word_fault p c at 2 5 true in
    else_number (stored_fault p c at) (cond p.frame_time (or_else a (or_else b d)) none) (stored_number p c at)
    (either FaultNumber p.frame_time (or_else a (or_else b d)) none
    (else_number a (or_else b d) (time_word_number p c at 0 7 false) (else_number b d (time_word_number p c at 1 6 false) (time_word_number p c at 2 5 true))) tt)

abbrev GotNumber : Got → Type 0
GotNumber (got is) = Unit {0}
GotNumber (stopped n q second) = Number 15 n

finish_number : (h : Held) (at : ℕ) → GotNumber (finish h at)
finish_number Nothing at = tt
finish_number (Taggable x) at = tt
finish_number (Half bus c high) at = (omega arith, omega arith)
finish_number (TagHigh x high) at = (omega arith, omega arith)
finish_number (TagLow x high low) at = (omega arith, omega arith)
finish_number (Answering bus r) at = (omega arith, omega arith)

onward_number : (r : Ran) (go : Held → ℕ → Got) → ((h : Held) (at : ℕ) → GotNumber (go h at)) → GotNumber (onward r go)
onward_number (bad_at p q) go k = (omega arith, omega arith)
onward_number (ran is h at) go k = front (go h at) (k h at)
  where
    front : (g : Got) → GotNumber g → GotNumber (before is g)
    front (got js) z = tt
    front (stopped n p q) z = z

sound_number : (f : Fault) (g : Got) → FaultNumber f → GotNumber g → GotNumber (if_sound f g)
sound_number none g h k = k
sound_number (found n p) g h k = h

groups_number : (p : Plan) (ks : List Kind) (c : List ℕ) (n g : ℕ) (h : Held) (at : ℕ) → GotNumber (read_groups p ks c n g h at)
unfolding read_groups
groups_number p ks c zero g h at = finish_number h at
groups_number p ks c (suc n) g h at =
    let first : ℕ = g * group_words p in
    let rest : Got = onward (run ks p.parity (group_slots p c first) h at) (λ h' at'. read_groups p ks c n (g + 1) h' at') in
    sound_number (group_fault p c first) rest (group_number p c first)
    (onward_number (run ks p.parity (group_slots p c first) h at) (λ h' at'. read_groups p ks c n (g + 1) h' at') (λ h' at'. groups_number p ks c n (g + 1) h' at'))

in_number : (p : Plan) (ss later : List Slot) (near : Bool) (rest : Fault) → FaultNumber rest → FaultNumber (misplaced_in p ss later near rest)
unfolding misplaced_in
in_number p [] later near rest h = h
in_number p (s ∷ ss) later near rest h =
    either FaultNumber (is_fill s.1 && (any_data ss || any_data later || not near || not (eqb (bus_of p.parity s.1) p.fill_bus))) (found 14 s.0) (misplaced_in p ss later near rest)
    (omega arith, omega arith) (in_number p ss later near rest h)

fill_number : (p : Plan) (gs : List (List Slot)) → FaultNumber (misplaced p gs)
unfolding misplaced
fill_number p [] = tt
fill_number p (ss ∷ gs) =
    let later : List Slot = flat_map (λ (x : List Slot). x) gs in
    in_number p ss later (any_data ss || any_data later) (misplaced p gs) (fill_number p gs)

abbrev ReadingNumber : Reading → Type 0
ReadingNumber (gives log times) = Unit {0}
ReadingNumber (refuses n q second) = Number 15 n

module _ (closed : Bool) (p : Plan) (ks : List Kind) (c : List ℕ) (log_room time_room : ℕ) where
  abbrev groups : ℕ
  groups = length c / (3 * group_words p)

  room_number : (log : List ℕ) → ReadingNumber (roomed p c groups log_room time_room log)
  room_number log =
      let need : ℕ = times_needed p groups in
      let given : Reading = gives log (list (λ g. group_time p c (g * group_words p)) 0 need) in
      either ReadingNumber (leb (length log) 32768 && leb (length log) log_room) (cond (leb need time_room) given (refuses 7 need 0)) (refuses 6 (length log) 0)
      (either ReadingNumber (leb need time_room) given (refuses 7 need 0) tt (omega arith, omega arith)) (omega arith, omega arith)

  placed_number : (f : Fault) (r : Reading) → FaultNumber f → ReadingNumber r → ReadingNumber (unless_found f r)
  placed_number none r h k = k
  placed_number (found n q) r h k = h

  settled_number : (g : Got) → GotNumber g → ReadingNumber (settled p c groups log_room time_room closed g)
  settled_number (stopped n q second) h = h
  settled_number (got is) h =
      let fill : Fault = misplaced p (list (λ g. group_slots p c (g * group_words p)) 0 groups) in
      placed_number (open_in p c groups is) (unless_found (cond closed fill none) (roomed p c groups log_room time_room (log_of is)))
      (unless_number (eqb (first_open is) (length is)) 15 (first_word_of (places_of (slots_from p c groups 0)) is (first_open is)) (omega arith, omega arith))
      (placed_number (cond closed fill none) (roomed p c groups log_room time_room (log_of is)) (either FaultNumber closed fill none (fill_number p (list (λ g. group_slots p c (g * group_words p)) 0 groups)) tt) (room_number (log_of is)))

  reading_number : ReadingNumber (reading closed p ks c log_room time_room)
  unfolding reading
  reading_number =
      let all : Reading = settled p c groups log_room time_room closed (read_groups p ks c groups 0 Nothing 0) in
      let whole : Bool = leb (length c) 1048576 && eqb (length c % (3 * group_words p)) 0 in
      either ReadingNumber (legal p ks) (cond whole all (refuses 8 (length c) 0)) (refuses 1 0 0)
      (either ReadingNumber whole all (refuses 8 (length c) 0) (settled_number (read_groups p ks c groups 0 Nothing 0) (groups_number p ks c groups 0 Nothing 0)) (omega arith, omega arith))
      (omega arith, omega arith)

pub reading_refused : (closed : Bool) (p : Plan) (ks : List Kind) (c : List ℕ) (log_room time_room n q second : ℕ) → reading closed p ks c log_room time_room ≡ refuses n q second
    → (1 ≤ n) × (n ≤ 15)
reading_refused closed p ks c log_room time_room n q second e = rw e at (reading_number closed p ks c log_room time_room)
