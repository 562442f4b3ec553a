-- The search for a group's first fault, from a place on: a track or a word at a time.
use Prim.Native.Nat.{ℕ, zero, suc, ◌+◌, ◌*◌, ◌-◌, ◌^◌, ◌≤◌, ◌<◌}
use native.Mathlib.Omega.{arith}
use native.Mathlib.Numerals.{add-one}
use mathlib.Core.Path.{◌≡◌, refl, sym, ap, ◌∙◌}
use mathlib.Core.Bool.{Bool, true, false, cond, not, ◌&&◌, ◌||◌}
use mathlib.Core.List.{List, [], ◌∷◌, ◌++◌, flat_map}
use lib.Dec.{eqb}
use borrow.Author.Tests.{eq-eqb, ne_eqb}
use Rattle.format.specs.Lists.{list}
use Rattle.format.specs.Laws.Lists.{list_more_at}
use Rattle.format.specs.Word.{word_of, word_at, is_odd, sent, sync}
use Rattle.format.specs.Check.{check_of, check_word}
use Rattle.format.specs.Group.{Fault, none, found, or_else, unless, first_of, fault_at, stored_fault, time_fault, group_fault}
use Rattle.format.specs.declared.Plan.{Plan}
use Rattle.crc.specs.Running.{next_check, check_from}
use Rattle.crc.proofs.Running.{check_is_from, check_more}
use Rattle.group_read.specs.Faults.{number_unless, earlier_number, word_number}

-- the check of the j words from the place `first` on, 0 where no CRC word is chosen
abbrev pub check_so_far : Bool → List ℕ → ℕ → ℕ → ℕ
check_so_far crc c first j = cond crc (check_of (list (word_at c) first j)) 0

or_else_assoc : (a b d : Fault) → or_else (or_else a b) d ≡ or_else a (or_else b d)
or_else_assoc none b d = refl
or_else_assoc (found n q) b d = refl

first_of_append : (l m : List Fault) → first_of (l ++ m) ≡ or_else (first_of l) (first_of m)
unfolding first_of
first_of_append [] m = refl
first_of_append (f ∷ l) m = rw (first_of_append l m) (sym (or_else_assoc f (first_of l) (first_of m)))

-- ---- one word

-- a number of 0 is no fault
abbrev pub numbered : ℕ → ℕ → Fault
numbered zero q = none
numbered (suc n) q = found (suc n) q

numbered_bad : (n q : ℕ) → (n ≡ 0 → ⊥) → numbered n q ≡ found n q
numbered_bad zero q h = absurd (h refl)
numbered_bad (suc n) q h = refl

two_tests : (a due b : Bool) (q : ℕ) → or_else (unless a 10 q) (cond due (unless b 11 q) none) ≡ numbered (earlier_number (number_unless a 10) (cond due (number_unless b 11) 0)) q
two_tests true true true q = refl
two_tests true true false q = refl
two_tests true false b q = refl
two_tests false due b q = refl

-- without CRC the check is not looked at
due_only : (crc last : Bool) (f : ℕ → Fault) (r : ℕ) → cond (crc && last) (f r) none ≡ cond (crc && last) (f (cond crc r 0)) none
due_only true last f r = refl
due_only false last f r = refl

module _ (p : Plan) (c : List ℕ) (first : ℕ) where
  fault_number : (j : ℕ) → 1 ≤ j
      → fault_at p c first j ≡ numbered (word_number p.parity (p.crc && eqb (j + 1) p.words) p.crc_label (check_so_far p.crc c first j) (word_at c (first + j))) (first + j)
  unfolding fault_at word_number check_word
  fault_number zero h = absurd (omega arith)
  fault_number (suc j) h =
      let w : ℕ = word_at c (first + suc j) in
      let last : Bool = eqb (suc (suc j)) p.words in
      let r : ℕ = check_of (list (word_at c) first (suc j)) in
      rw (add-one (suc j))
      (ap (or_else (unless (not p.parity || is_odd w) 10 (first + suc j))) (due_only p.crc last (λ (x : ℕ). unless (eqb w (sent p.parity (word_of 0 p.crc_label x))) 11 (first + suc j)) r)
      ∙ two_tests (not p.parity || is_odd w) (p.crc && last) (eqb w (sent p.parity (word_of 0 p.crc_label (cond p.crc r 0)))) (first + suc j))

  fault_sync : fault_at p c first 0 ≡ unless (eqb (word_at c first) sync) 9 first
  unfolding fault_at
  fault_sync = refl

-- ---- the check, a word at a time

check_starts : (crc : Bool) (c : List ℕ) (first : ℕ) → check_so_far crc c first 0 ≡ 0
unfolding list check_from
check_starts true c first = check_is_from []
check_starts false c first = refl

check_goes_on : (crc : Bool) (c : List ℕ) (first j : ℕ)
    → cond crc (next_check (check_so_far crc c first j) (word_at c (first + j))) (check_so_far crc c first j) ≡ check_so_far crc c first (j + 1)
check_goes_on true c first j = sym (ap check_of (list_more_at (word_at c) first j) ∙ check_more (list (word_at c) first j) (word_at c (first + j)))
check_goes_on false c first j = refl

pub check_of_more : (crc : Bool) (c : List ℕ) (first j : ℕ) {w check r : ℕ} → w ≡ word_at c (first + j) → check ≡ check_so_far crc c first j
    → r ≡ cond crc (next_check check w) check → r ≡ check_so_far crc c first (j + 1)
check_of_more crc c first j e k h = h ∙ rw (e, k) (check_goes_on crc c first j)

pub check_of_two : (crc : Bool) (c : List ℕ) (first j : ℕ) {one two check r : ℕ} → one ≡ word_at c (first + j) → two ≡ word_at c (first + (j + 1)) → check ≡ check_so_far crc c first j
    → r ≡ cond crc (next_check (next_check check one) two) check → r ≡ check_so_far crc c first (j + 2)
check_of_two true c first j {one} {two} {check} e f k h =
    let s : j + 1 + 1 ≡ j + 2 = omega arith in
    check_of_more true c first (j + 1) f (check_of_more true c first j {w = one} {check = check} {r = next_check check one} e k refl) h ∙ ap (check_so_far true c first) s
check_of_two false c first j e f k h = h ∙ k

pub check_of_sync : (crc : Bool) (c : List ℕ) (first : ℕ) {w r : ℕ} → w ≡ word_at c first → r ≡ cond crc (next_check 0 w) 0 → r ≡ check_so_far crc c first 1
check_of_sync crc c first e h =
    let z : first ≡ first + 0 = omega arith in
    check_of_more crc c first 0 (e ∙ ap (word_at c) z) (sym (check_starts crc c first)) h

pub check_word_low : (label r : ℕ) → label ≤ 7 → r < 2 ^ 16 → word_of 0 label r < 2 ^ 24
unfolding word_of
check_word_low label r l h = omega arith

-- ---- two words

pub not_both : {b : Bool} → b ≡ true → b ≡ false → ⊥
not_both {b} h g = let z : ◌≡◌ {A = ℕ} 0 1 = ap (λ (x : Bool). cond x 0 1) (sym h ∙ g) in absurd (omega arith)

pub both_odd : (parity a b : Bool) → (not parity || a && b) ≡ true → ((not parity || a) ≡ true) × ((not parity || b) ≡ true)
both_odd true true true e = (refl, refl)
both_odd true true false e = (refl, e)
both_odd true false b e = (e, absurd (not_both e refl))
both_odd false a b e = (refl, refl)

-- ---- the rest of the search

module _ (p : Plan) (c : List ℕ) (at : ℕ) where
  -- the faults of the tracks from t on, and then those of the time words
  unfoldable pub rest_of_tracks : ℕ → Fault
  rest_of_tracks t = or_else (first_of (flat_map (λ (u : ℕ). list (fault_at p c (at + u * p.words)) 0 p.words) (list (λ u. u) t (p.tracks - t)))) (time_fault p c at)

  -- those of the words of the track t from j on, and then of the later tracks
  unfoldable pub rest_of_track : ℕ → ℕ → Fault
  rest_of_track t j = or_else (first_of (list (fault_at p c (at + t * p.words)) j (p.words - j))) (rest_of_tracks (t + 1))

  pub rest_starts : group_fault p c at ≡ rest_of_tracks 0
  unfolding group_fault stored_fault rest_of_tracks
  rest_starts = let e : p.tracks - 0 ≡ p.tracks = omega arith in rw e

  pub rest_ends : (t : ℕ) → p.tracks ≤ t → rest_of_tracks t ≡ time_fault p c at
  unfolding rest_of_tracks first_of flat_map list
  rest_ends t h = let e : p.tracks - t ≡ 0 = omega arith in rw e

  rest_track : (t : ℕ) → t < p.tracks → rest_of_tracks t ≡ rest_of_track t 0
  unfolding rest_of_tracks rest_of_track flat_map list
  rest_track t h =
      let e : p.tracks - t ≡ suc (p.tracks - (t + 1)) = omega arith in
      let z : p.words - 0 ≡ p.words = omega arith in
      let F : ℕ → List Fault = λ (u : ℕ). list (fault_at p c (at + u * p.words)) 0 p.words in
      let later : List Fault = flat_map F (list (λ u. u) (t + 1) (p.tracks - (t + 1))) in
      ap (λ (n : ℕ). or_else (first_of (flat_map F (list (λ u. u) t n))) (time_fault p c at)) e
      ∙ ap (λ (f : Fault). or_else f (time_fault p c at)) (first_of_append (F t) later)
      ∙ or_else_assoc (first_of (F t)) (first_of later) (time_fault p c at)
      ∙ ap (λ (n : ℕ). or_else (first_of (list (fault_at p c (at + t * p.words)) 0 n)) (rest_of_tracks (t + 1))) (sym z)

  rest_word : (t j : ℕ) → j < p.words → rest_of_track t j ≡ or_else (fault_at p c (at + t * p.words) j) (rest_of_track t (j + 1))
  unfolding rest_of_track first_of list
  rest_word t j h =
      let e : p.words - j ≡ suc (p.words - (j + 1)) = omega arith in
      ap (λ (n : ℕ). or_else (first_of (list (fault_at p c (at + t * p.words)) j n)) (rest_of_tracks (t + 1))) e
      ∙ or_else_assoc (fault_at p c (at + t * p.words) j) (first_of (list (fault_at p c (at + t * p.words)) (j + 1) (p.words - (j + 1)))) (rest_of_tracks (t + 1))

  pub track_over : (t j : ℕ) → p.words ≤ j → rest_of_track t j ≡ rest_of_tracks (t + 1)
  unfolding rest_of_track first_of list
  track_over t j h = let e : p.words - j ≡ 0 = omega arith in rw e

  module _ (t : ℕ) where
    sync_first : t < p.tracks → 0 < p.words → rest_of_tracks t ≡ or_else (unless (eqb (word_at c (at + t * p.words)) sync) 9 (at + t * p.words)) (rest_of_track t 1)
    sync_first h k = rest_track t h ∙ rest_word t 0 k ∙ ap (λ (f : Fault). or_else f (rest_of_track t 1)) (fault_sync p c (at + t * p.words))

    pub sync_bad : {w s : ℕ} → t < p.tracks → 0 < p.words → w ≡ word_at c (at + t * p.words) → s ≡ sync → (w ≡ s → ⊥) → rest_of_tracks t ≡ found 9 (at + t * p.words)
    sync_bad {w} {s} h k e z n = sync_first h k ∙ rw (← e, ← z, ne_eqb w s n)

    pub sync_good : {w s : ℕ} → t < p.tracks → 0 < p.words → w ≡ word_at c (at + t * p.words) → s ≡ sync → w ≡ s → rest_of_tracks t ≡ rest_of_track t 1
    sync_good {w} {s} h k e z n = sync_first h k ∙ rw (← e, ← z, eq-eqb w s n)

    module _ (j check word number : ℕ) (low : 1 ≤ j) (h : j < p.words) (e : check ≡ check_so_far p.crc c (at + t * p.words) j)
        (z : word ≡ word_at c (at + t * p.words + j)) (s : number ≡ word_number p.parity (p.crc && eqb (j + 1) p.words) p.crc_label check word) where
      word_first : rest_of_track t j ≡ or_else (numbered number (at + t * p.words + j)) (rest_of_track t (j + 1))
      word_first = rest_word t j h ∙ rw (s, e, z) (ap (λ (f : Fault). or_else f (rest_of_track t (j + 1))) (fault_number p c (at + t * p.words) j low))

      pub word_bad : (number ≡ 0 → ⊥) → rest_of_track t j ≡ found number (at + t * p.words + j)
      word_bad n = word_first ∙ rw (numbered_bad number (at + t * p.words + j) n)

      pub word_good : number ≡ 0 → rest_of_track t j ≡ rest_of_track t (j + 1)
      word_good n = word_first ∙ rw n
