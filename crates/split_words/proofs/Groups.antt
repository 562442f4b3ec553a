-- Faults and data slots from group to group.
use Prim.Native.Nat.{ℕ, zero, suc, ◌+◌, ◌*◌, ◌-◌, ◌≤◌, ◌<◌}
use native.Mathlib.Numerals.{add-one}
use native.Mathlib.Nat.{mul-le-mul_right}
use native.Mathlib.Omega.{arith}
use mathlib.Core.Path.{◌≡◌, refl, sym, ap, ap₂, ◌∙◌}
use mathlib.Core.List.{List, [], ◌∷◌, ◌++◌, append_assoc, append-nil}
use borrow.Rule.Slice.PartMut.{put_mid}
use lib.ListN.{length, take, drop, length-take, length-drop, drop_of_length-le}
use lib.Seq.{take_all}
use Rattle.format.specs.Answer.{over}
use Rattle.format.specs.Plan.{group_words, slots}
use Rattle.format.specs.Group.{Fault, none, found, or_else, group_fault, group_slots}
use Rattle.format.specs.Read.{slots_from}
use Rattle.format.specs.Reader.{Slot}
use Rattle.format.specs.Laws.Front.{Front, front_none, front_part}
use Rattle.format.specs.Laws.Lists.{map_append}
use Rattle.format.specs.Laws.Reader.Slots.{words_in}
use Rattle.format.proofs.Laws.Accepted.Exact.{slots_count}
use Rattle.format.specs.Laws.Tests.{clash}
use Rattle.format.specs.declared.Plan.{Plan}
use Rattle.capture_rules.specs.Split.{groups_fault}
use Rattle.group_read.specs.declared.Fault.{Fault as Found}
use Rattle.group_read.specs.Faults.{fault_of}
use Rattle.group_read.proofs.Answers.{words_length}

module _ (p : Plan) (c : List ℕ) (n : ℕ) where
  -- ---- the first fault

  -- the group g, and those behind it
  fault_next : (g : ℕ) → g < n → groups_fault p c (n - g) g ≡ or_else (group_fault p c (g * group_words p)) (groups_fault p c (n - (g + 1)) (g + 1))
  unfolding groups_fault
  fault_next g l =
      let e : n - g ≡ suc (n - (g + 1)) = omega arith in
      rw e refl

  pub fault_here : (g : ℕ) {k q : ℕ} → g < n → group_fault p c (g * group_words p) ≡ found k q → groups_fault p c (n - g) g ≡ found k q
  fault_here g l e = fault_next g l ∙ ap (λ (f : Fault). or_else f (groups_fault p c (n - (g + 1)) (g + 1))) e

  pub fault_behind : (g : ℕ) → g < n → group_fault p c (g * group_words p) ≡ none → groups_fault p c (n - g) g ≡ groups_fault p c (n - (g + 1)) (g + 1)
  fault_behind g l e = fault_next g l ∙ ap (λ (f : Fault). or_else f (groups_fault p c (n - (g + 1)) (g + 1))) e

  pub fault_none : (g : ℕ) → g < n → groups_fault p c (n - g) g ≡ none
      → (group_fault p c (g * group_words p) ≡ none) × (groups_fault p c (n - (g + 1)) (g + 1) ≡ none)
  fault_none g l e = go (group_fault p c (g * group_words p)) (sym (fault_next g l) ∙ e)
    where
      go : (f : Fault) → or_else f (groups_fault p c (n - (g + 1)) (g + 1)) ≡ none → (f ≡ none) × (groups_fault p c (n - (g + 1)) (g + 1) ≡ none)
      go none y = (refl, y)
      go (found k q) y = let z : ◌≡◌ {A = ℕ} 0 1 = cc in absurd (omega arith)

  pub fault_first : groups_fault p c n 0 ≡ groups_fault p c (n - 0) 0
  fault_first = let e : n ≡ n - 0 = omega arith in ap (λ (k : ℕ). groups_fault p c k 0) e

  pub fault_last : (g : ℕ) → n ≤ g → groups_fault p c (n - g) g ≡ none
  unfolding groups_fault
  fault_last g l =
      let e : n - g ≡ 0 = omega arith in
      rw e refl

-- ---- the words

-- a part that is lent
pub lent_length : (xs : List ℕ) (a k : ℕ) → a + k ≤ length xs → length (take (a + k - a) (drop a xs)) ≡ k
lent_length xs a k l = simp (length-take, length-drop) (omega arith)

-- and is written whole
pub front_whole : (d xs ys : List ℕ) (i : ℕ) → length d ≡ length ys → length ys ≤ i → Front (take i ys) d xs i → xs ≡ ys
front_whole d xs ys i e l f =
    f.is ∙ ap₂ (λ (a b : List ℕ). a ++ b) (take_all i ys l) (drop_of_length-le d {i = i} (omega (arith, e))) ∙ append-nil ys

slots_more : (p : Plan) (c : List ℕ) (n g : ℕ) → slots_from p c (n + 1) g ≡ slots_from p c n g ++ group_slots p c ((g + n) * group_words p)
unfolding slots_from
slots_more p c zero g =
    let e : g + 0 ≡ g = omega arith in
    rw e (append-nil (group_slots p c (g * group_words p)))
slots_more p c (suc n) g =
    let e : suc n + 1 ≡ suc (n + 1) = omega arith in
    let f : g + 1 + n ≡ g + suc n = omega arith in
    let ih = slots_more p c n (g + 1) in
    rw (e, ih, f) (sym (append_assoc (group_slots p c (g * group_words p)) (slots_from p c n (g + 1)) (group_slots p c ((g + suc n) * group_words p))))

module _ (p : Plan) (c : List ℕ) where
  words_more : (g : ℕ) → words_in (slots_from p c (g + 1) 0) ≡ words_in (slots_from p c g 0) ++ words_in (group_slots p c (g * group_words p))
  words_more g =
      let e : 0 + g ≡ g = omega arith in
      ap words_in (slots_more p c g 0 ∙ ap (λ (k : ℕ). slots_from p c g 0 ++ group_slots p c (k * group_words p)) e)
      ∙ map_append (λ (s : Slot). s.1) (slots_from p c g 0) (group_slots p c (g * group_words p))

  pub words_none : (d : List ℕ) (k : ℕ) → k ≡ 0 → Front (words_in (slots_from p c 0 0)) d d k
  unfolding slots_from
  words_none d k e = rw e (front_none d)

  pub share_room : (g n count most : ℕ) → g < n → count ≡ slots p → n * slots p ≤ most → (g + 1) * count ≤ most
  share_room g n count most l e h =
      let k : g + 1 ≤ n = omega arith in
      rw e (omega (arith, mul-le-mul_right (slots p) k))

  -- the words of a group more
  pub group_more : {d xs ys : List ℕ} (g k count : ℕ) → Front (words_in (slots_from p c g 0)) d xs (g * count) → count ≡ slots p → k ≡ count
      → (g + 1) * count ≤ length d → ys ≡ words_in (group_slots p c (g * group_words p))
      → Front (words_in (slots_from p c (g + 1) 0)) d (put_mid (g * count) k xs ys) ((g + 1) * count)
  group_more {d} {xs} {ys} g k count f e h l y =
      rw (words_more g)
      (front_part k (words_in (group_slots p c (g * group_words p))) f (words_length p c (g * group_words p) ∙ sym (h ∙ e)) (omega (arith, h)) (omega (arith, h)) y)

  pub words_all : {d xs : List ℕ} {k : ℕ} (g n : ℕ) → g ≡ n → Front (words_in (slots_from p c g 0)) d xs k → xs ≡ over (words_in (slots_from p c n 0)) d
  words_all {d} {xs} {k} g n e f =
      f.is ∙ ap (λ (j : ℕ). words_in (slots_from p c g 0) ++ drop j d) (sym f.size) ∙ ap (λ (j : ℕ). over (words_in (slots_from p c j 0)) d) e
