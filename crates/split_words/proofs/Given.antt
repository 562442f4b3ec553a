-- The refusals behind the groups' faults, and the words handed over.
use Prim.Native.Nat.{ℕ, ◌+◌, ◌*◌, ◌/◌, ◌%◌, ◌≤◌, ◌<◌}
use native.Mathlib.Omega.{arith}
use mathlib.Core.Bool.{Bool, true, false, cond}
use mathlib.Core.Path.{◌≡◌, refl, sym, ap, ap₂, ◌∙◌}
use mathlib.Core.List.{List, ◌++◌}
use lib.ListN.{length, drop}
use lib.Dec.{eqb, leb}
use borrow.Author.Tests.{le-leb, lt-leb, leb-true, leb-false, eq-eqb}
use Rattle.format.specs.Answer.{Given, over, success}
use Rattle.format.specs.Group.{Fault, none, found, group_time}
use Rattle.format.specs.Lists.{list}
use Rattle.format.specs.Plan.{group_words, legal, slots, times_needed}
use Rattle.format.specs.Read.{Reading, gives, refuses, slots_from, unless_found}
use Rattle.format.proofs.Laws.Accepted.Exact.{slots_count}
use Rattle.format.specs.Laws.Reader.Slots.{words_in}
use Rattle.format.specs.declared.Kind.{Kind}
use Rattle.format.specs.declared.Plan.{Plan}
use Rattle.capture_rules.specs.Split.{groups_fault, frame_times, words_read, words_roomed}
use Rattle.capture_parts.proofs.Given.{given_whole, table_long}
use Rattle.group_read.specs.declared.Fault.{Fault as Found}
use Rattle.group_read.specs.Faults.{fault_of}
use Rattle.split_words.specs.Fault.{FirstFault}
use Rattle.capture_parts.specs.Room.{earlier, short_of}

-- ---- "9 to 12, then 6, then 7", of n groups

abbrev pub settled : Plan → List ℕ → ℕ → ℕ → ℕ → Reading
settled p c wordRoom time_room n = unless_found (groups_fault p c n 0) (words_roomed p c n wordRoom time_room)

found_is : (f : Fault) (r : Found) → r ≡ fault_of f → (r.number ≡ 0 → ⊥) → f ≡ found r.number r.place
found_is none r e d = absurd (d (ap (λ (x : Found). x.number) e))
found_is (found k q) r e d = ap₂ found (sym (ap (λ (x : Found). x.number) e)) (sym (ap (λ (x : Found). x.place) e))

-- which of the two rooms is short, by the number
abbrev pub room_number : ℕ → ℕ → ℕ → ℕ → ℕ
room_number count need wordRoom time_room = earlier (short_of 6 count wordRoom) (short_of 7 need time_room)

short_six : (u w : Bool) → ◌≡◌ {A = ℕ} (earlier (cond u 0 6) (cond w 0 7)) 6 → u ≡ false
short_six true true e = absurd (omega arith)
short_six true false e = absurd (omega arith)
short_six false w e = refl

short_seven : (u w : Bool) → ◌≡◌ {A = ℕ} (earlier (cond u 0 6) (cond w 0 7)) 7 → (u ≡ true) × (w ≡ false)
short_seven true true e = absurd (omega arith)
short_seven true false e = (refl, refl)
short_seven false w e = absurd (omega arith)

short_none : (u w : Bool) → (earlier (cond u 0 6) (cond w 0 7) ≡ 6 → ⊥) → (earlier (cond u 0 6) (cond w 0 7) ≡ 7 → ⊥) → (u ≡ true) × (w ≡ true)
short_none true true d e = (refl, refl)
short_none true false d e = absurd (e refl)
short_none false w d e = absurd (d refl)

pub both_fit : (count need wordRoom time_room : ℕ) {number : ℕ} → number ≡ room_number count need wordRoom time_room → (number ≡ 6 → ⊥) → (number ≡ 7 → ⊥)
    → (count ≤ wordRoom) × (need ≤ time_room)
both_fit count need wordRoom time_room a d e =
    let s = short_none (leb count wordRoom) (leb need time_room) (λ z. d (a ∙ z)) (λ z. e (a ∙ z)) in
    (leb-true _ _ s.0, leb-true _ _ s.1)

module _ (p : Plan) (c : List ℕ) (wordRoom time_room n : ℕ) where
  pub fault_refused : (m : ℕ) {r : Found} → n ≡ m → FirstFault (groups_fault p c n 0) r → (r.number ≡ 0 → ⊥)
      → settled p c wordRoom time_room m ≡ refuses r.number r.place 0
  fault_refused m {r} e f d =
      sym (ap (settled p c wordRoom time_room) e) ∙ ap (λ (x : Fault). unless_found x (words_roomed p c n wordRoom time_room)) (found_is (groups_fault p c n 0) r f.is d)

  module _ (m : ℕ) (e : n ≡ m) (clear : groups_fault p c n 0 ≡ none) where
    cleared : settled p c wordRoom time_room m ≡ words_roomed p c n wordRoom time_room
    cleared = sym (ap (settled p c wordRoom time_room) e) ∙ ap (λ (x : Fault). unless_found x (words_roomed p c n wordRoom time_room)) clear

    pub words_refused : {count need number : ℕ} → count ≡ n * slots p → need ≡ times_needed p n → number ≡ room_number count need wordRoom time_room → number ≡ 6
        → settled p c wordRoom time_room m ≡ refuses 6 count 0
    words_refused {count} {need} k t a z =
        let l : wordRoom < n * slots p = omega (arith, k, leb-false count wordRoom (short_six (leb count wordRoom) (leb need time_room) (sym a ∙ z))) in
        cleared ∙ rw (lt-leb _ _ l) (ap (λ (x : ℕ). refuses 6 x 0) (sym k))

    pub times_refused : {count need number : ℕ} → count ≡ n * slots p → need ≡ times_needed p n → number ≡ room_number count need wordRoom time_room → number ≡ 7
        → settled p c wordRoom time_room m ≡ refuses 7 need 0
    times_refused {count} {need} k t a z =
        let s = short_seven (leb count wordRoom) (leb need time_room) (sym a ∙ z) in
        let w : n * slots p ≤ wordRoom = omega (arith, k, leb-true count wordRoom s.0) in
        let l : time_room < times_needed p n = omega (arith, t, leb-false need time_room s.1) in
        cleared ∙ rw (le-leb _ _ w, lt-leb _ _ l) (ap (λ (x : ℕ). refuses 7 x 0) (sym t))

    both_given : n * slots p ≤ wordRoom → times_needed p n ≤ time_room → settled p c wordRoom time_room m ≡ gives (words_in (slots_from p c n 0)) (frame_times p c n)
    both_given w t = cleared ∙ rw (le-leb _ _ w, le-leb _ _ t)

-- the words and the times are written
pub words_given : (p : Plan) (c : List ℕ) (n m : ℕ) → n ≡ m → groups_fault p c n 0 ≡ none → (count need : ℕ) (words words' times times' : List ℕ)
    → count ≡ n * slots p → need ≡ times_needed p n → count ≤ length words → need ≤ length times
    → words' ≡ over (words_in (slots_from p c n 0)) words → times' ≡ list (λ g. group_time p c (g * group_words p)) 0 need ++ drop need times
    → Given (settled p c (length words) (length times) m) (success count need) words words' times times'
words_given p c n m e clear count need words words' times times' k t a b w v =
    let table : List ℕ = frame_times p c n in
    let long : length table ≡ times_needed p n = table_long p c (times_needed p n) in
    let x : n * slots p ≤ length words = omega (arith, k, a) in
    let y : times_needed p n ≤ length times = omega (arith, t, b) in
    given_whole (settled p c (length words) (length times) m) (success count need) words words' times times' (words_in (slots_from p c n 0)) table
    (both_given p c (length words) (length times) n m e clear x y)
    (ap₂ success (k ∙ sym (slots_count p c n 0)) (t ∙ sym long)) w
    (v ∙ ap (λ (j : ℕ). list (λ g. group_time p c (g * group_words p)) 0 j ++ drop j times) t ∙ ap (λ (j : ℕ). table ++ drop j times) (sym long))

-- ---- "1, 8"

module _ (p : Plan) (ks : List Kind) (c : List ℕ) (wordRoom time_room : ℕ) where
  pub illegal_refused : legal p ks ≡ false → words_read p ks c wordRoom time_room ≡ refuses 1 0 0
  unfolding words_read
  illegal_refused e = rw e refl

  pub long_refused : legal p ks ≡ true → 1048576 < length c → words_read p ks c wordRoom time_room ≡ refuses 8 (length c) 0
  unfolding words_read
  long_refused e h = rw (e, lt-leb (length c) 1048576 h) refl

  pub ragged_refused : legal p ks ≡ true → length c ≤ 1048576 → eqb (length c % (3 * group_words p)) 0 ≡ false
      → words_read p ks c wordRoom time_room ≡ refuses 8 (length c) 0
  unfolding words_read
  ragged_refused e h z = rw (e, le-leb (length c) 1048576 h, z) refl

  pub read_on : legal p ks ≡ true → length c ≤ 1048576 → length c % (3 * group_words p) ≡ 0
      → words_read p ks c wordRoom time_room ≡ settled p c wordRoom time_room (length c / (3 * group_words p))
  unfolding words_read
  read_on e h z = rw (e, le-leb (length c) 1048576 h, eq-eqb (length c % (3 * group_words p)) 0 z) refl
