-- What a caller of `deal` knows of a group of a capture, to which it lends the group's own bytes.
use Prim.Native.Nat.{ℕ, ◌+◌, ◌*◌, ◌^◌, ◌<◌}
use native.Mathlib.Omega.{arith}
use mathlib.Core.Path.{◌≡◌, sym, ap, ap₂, ◌∙◌}
use mathlib.Core.List.{List, ◌++◌, append_assoc}
use lib.ListN.{length, get_or, take, drop}
use lib.Seq.{take_at, drop_at}
use Rattle.format.specs.Lists.{list}
use Rattle.format.specs.Word.{word_at}
use Rattle.format.specs.Plan.{group_words, lead, slots, place_of}
use Rattle.format.specs.Group.{none, found, group_fault, group_slots, group_time}
use Rattle.format.specs.Laws.Limits.{Shape}
use Rattle.format.specs.Laws.Lists.{length_list, get_or_list, list_same}
use Rattle.format.specs.Laws.Reader.Slots.{words_in}
use Rattle.format.specs.declared.Plan.{Plan}
use Rattle.group_read.specs.declared.Fault.{Fault}
use Rattle.group_read.specs.Faults.{fault_of}
use Rattle.group_read.specs.Row.{dealt_count, dealt_words}
use Rattle.group_read.proofs.Numbers.{number_none, number_found, place_low}
use Rattle.group_read.proofs.Moved.{moved, part_fault, part_time, part_word}
use Rattle.group_read.proofs.Places.{place_in}
use Rattle.group_read.proofs.Words.{dealt_is, words_are}

room_for : (p : Plan) (i : ℕ) → i < slots p → lead p + i < dealt_count p
unfolding slots
room_for p i l = omega arith

-- `&c[b..b + k]` is lent: the bytes of the group whose first stored word is `at`
module _ (p : Plan) (c : List ℕ) (at b k : ℕ) (h : Shape p) (o : b ≡ 3 * at) (s : k ≡ 3 * group_words p) where
  abbrev part : List ℕ
  part = take k (drop b c)

  own : take (3 * group_words p) (drop (3 * at) c) ≡ part
  own = ap₂ (λ (n m : ℕ). take n (drop m c)) (sym s) (sym o)

  pub part_time_is : group_time p c at ≡ group_time p part 0
  part_time_is = part_time p c at h ∙ ap (λ (g : List ℕ). group_time p g 0) own

  module _ {r : Fault} (e : r ≡ fault_of (group_fault p part 0)) where
    fault_is : group_fault p c at ≡ moved at (group_fault p part 0)
    fault_is = part_fault p c at h ∙ ap (λ (g : List ℕ). moved at (group_fault p g 0)) own

    pub answer_none : r.number ≡ 0 → group_fault p c at ≡ none
    unfolding moved
    answer_none z = fault_is ∙ ap (moved at) (number_none p part h e z)

    pub answer_found : (r.number ≡ 0 → ⊥) → group_fault p c at ≡ found r.number (at + r.place)
    unfolding moved
    answer_found z = fault_is ∙ ap (moved at) (number_found p part h e z)

    pub answer_low : r.place < group_words p
    answer_low = place_low p part h e

  -- the row behind the time words
  words_own : words_in (group_slots p part 0) ≡ words_in (group_slots p c at)
  words_own =
      words_are p part 0
      ∙ list_same (λ i. word_at part (0 + place_of p i)) (λ i. word_at c (at + place_of p i)) (slots p) (lead p) (lead p)
      (λ i l. sym (same (place_of p (lead p + i)) (place_in p h (lead p + i) (room_for p i l))))
      ∙ sym (words_are p c at)
    where
      same : (q : ℕ) → q < group_words p → word_at c (at + q) ≡ word_at part (0 + q)
      same q l = let z : q ≡ 0 + q = omega arith in part_word p c at q l ∙ ap₂ word_at own z

  pub answer_words : {row : List ℕ} (rest : List ℕ) (n : ℕ) → n ≡ slots p → row ≡ dealt_words p part ++ rest → take n (drop (lead p) row) ≡ words_in (group_slots p c at)
  answer_words {row} rest n m e =
      let f : ℕ → ℕ = λ q. word_at part (place_of p q) in
      let ws : List ℕ = words_in (group_slots p part 0) in
      let d : drop (lead p) row ≡ ws ++ rest =
      ap (drop (lead p)) (e ∙ ap (λ (l : List ℕ). l ++ rest) (dealt_is p part h) ∙ append_assoc (list f 0 (lead p)) ws rest)
      ∙ drop_at (list f 0 (lead p)) (ws ++ rest) (lead p) (length_list f 0 (lead p)) in
      ap (take n) d ∙ take_at ws rest n (words_long ∙ sym m) ∙ words_own
    where
      words_long : length (words_in (group_slots p part 0)) ≡ slots p
      words_long = ap (λ (l : List ℕ). length l) (words_are p part 0) ∙ length_list (λ i. word_at part (0 + place_of p i)) (lead p) (slots p)

-- ---- a capture's words have 24 bits

module _ (p : Plan) (c : List ℕ) (at : ℕ) where
  pub words_length : length (words_in (group_slots p c at)) ≡ slots p
  words_length = ap (λ (l : List ℕ). length l) (words_are p c at) ∙ length_list (λ i. word_at c (at + place_of p i)) (lead p) (slots p)

  pub words_low : ((i : ℕ) → get_or c i 0 < 2 ^ 8) → (i : ℕ) → i < length (words_in (group_slots p c at)) → get_or (words_in (group_slots p c at)) i 0 < 2 ^ 24
  unfolding word_at
  words_low b i l =
      let f : ℕ → ℕ = λ i. word_at c (at + place_of p i) in
      let q : ℕ = at + place_of p (lead p + i) in
      let e : get_or (words_in (group_slots p c at)) i 0 ≡ word_at c q =
      ap (λ (x : List ℕ). get_or x i 0) (words_are p c at) ∙ get_or_list f (lead p) (slots p) i 0 (omega (arith, l, words_length)) in
      rw e (omega (arith, b (3 * q), b (3 * q + 1), b (3 * q + 2)))
