-- A group's own bytes in a capture, and what a caller that has them dealt then knows of the group.
use Prim.Native.Nat.{ℕ, zero, suc, ◌+◌, ◌*◌, ◌-◌, ◌≤◌, ◌<◌}
use native.Mathlib.Nat.{mul-le-mul_right, mul-le-mul_left}
use native.Mathlib.Omega.{arith}
use mathlib.Core.Path.{◌≡◌, refl, ap, ◌∙◌}
use mathlib.Core.List.{List}
use lib.ListN.{length, take, drop, length-take, length-drop}
use Rattle.format.specs.Plan.{group_words, slots, rows, lead}
use Rattle.format.specs.Group.{Fault, none, found, group_fault, group_slots}
use Rattle.format.specs.Laws.Limits.{Shape, rows_under, lead_few, room}
use Rattle.format.specs.Laws.Reader.Slots.{words_in}
use Rattle.format.specs.declared.Plan.{Plan}
use Rattle.group_read.specs.declared.Fault.{Fault as Found}
use Rattle.group_read.specs.Row.{dealt_count, Deals}
use Rattle.group_read.proofs.Answers.{answer_none, answer_found, answer_low, answer_words}

module _ (p : Plan) (s : Shape p) where
  pub dealt_few : dealt_count p ≤ group_words p
  dealt_few = let k : rows p ≤ p.words = omega (arith, rows_under p s) in mul-le-mul_left p.tracks k

  pub slots_few : slots p ≤ group_words p
  unfolding slots
  slots_few = omega (arith, dealt_few)

  pub dealt_all : lead p + slots p ≡ dealt_count p
  unfolding slots
  dealt_all = omega (arith, lead_few p, room p s)

  -- the data words of n groups
  pub numbers_few : (n size : ℕ) → size ≡ n * (3 * group_words p) → size ≤ 1048576 → n * slots p ≤ 349525
  numbers_few n size e l = omega (arith, mul-le-mul_left n slots_few)

  -- the group g of n is within the capture
  pub group_room : (n g size : ℕ) → size ≡ n * (3 * group_words p) → g < n → g * (3 * group_words p) + 3 * group_words p ≤ size
  group_room n g size e l = let k : suc g ≤ n = l in omega (arith, mul-le-mul_right (3 * group_words p) k)

  -- what is lent of the capture for the group g, and of the row that it is dealt to
  pub part_long : (c : List ℕ) (g : ℕ) → g * (3 * group_words p) + 3 * group_words p ≤ length c
      → length (take (g * (3 * group_words p) + 3 * group_words p - g * (3 * group_words p)) (drop (g * (3 * group_words p)) c)) ≡ 3 * group_words p
  part_long c g h = simp (length-take, length-drop) (omega (arith, h))

  pub part_length : (c : List ℕ) (n g : ℕ) → length c ≡ n * (3 * group_words p) → g < n
      → length (take (g * (3 * group_words p) + 3 * group_words p - g * (3 * group_words p)) (drop (g * (3 * group_words p)) c)) ≡ 3 * group_words p
  part_length c n g e l = part_long c g (group_room n g (length c) e l)

  not_both : {A : Type 0} {f : Fault} {k q : ℕ} → f ≡ none → f ≡ found k q → A
  not_both e d = let z : ◌≡◌ {A = ℕ} 0 1 = cc in absurd (omega arith)

  module _ (c : List ℕ) (g : ℕ) where
    abbrev pub part_of : List ℕ
    part_of = take (g * (3 * group_words p) + 3 * group_words p - g * (3 * group_words p)) (drop (g * (3 * group_words p)) c)

    begins : g * (3 * group_words p) ≡ 3 * (g * group_words p)
    begins = omega arith

    sized : g * (3 * group_words p) + 3 * group_words p - g * (3 * group_words p) ≡ 3 * group_words p
    sized = omega arith

    module _ {r : Found} {row₀ row : List ℕ} (d : Deals p part_of row₀ r row) where
      pub dealt_none : r.number ≡ 0 → group_fault p c (g * group_words p) ≡ none
      dealt_none z = answer_none p c (g * group_words p) (g * (3 * group_words p)) _ s begins sized d.fault z

      pub dealt_found : (r.number ≡ 0 → ⊥) → group_fault p c (g * group_words p) ≡ found r.number (g * group_words p + r.place)
      dealt_found z = answer_found p c (g * group_words p) (g * (3 * group_words p)) _ s begins sized d.fault z

      pub none_dealt : group_fault p c (g * group_words p) ≡ none → r.number ≡ 0
      none_dealt e = go r.number refl
        where
          go : (k : ℕ) → r.number ≡ k → k ≡ 0
          go zero z = refl
          go (suc k) z = not_both e (dealt_found (λ y. absurd (omega (arith, y, z))))

      pub dealt_low : r.place < group_words p
      dealt_low = answer_low p c (g * group_words p) (g * (3 * group_words p)) _ s begins sized d.fault

      pub dealt_words : (first count : ℕ) → r.number ≡ 0 → first ≡ lead p → count ≡ slots p
          → take (first + count - first) (drop first row) ≡ words_in (group_slots p c (g * group_words p))
      dealt_words first count z e f =
          let k : first + count - first ≡ slots p = omega arith in
          ap (λ (n : ℕ). take (first + count - first) (drop n row)) e
          ∙ answer_words p c (g * group_words p) (g * (3 * group_words p)) _ s begins sized (drop (dealt_count p) row₀) (first + count - first) k (d.words z)

  -- the words of a group in a row that is as long as a third of the capture
  pub row_room : (n size : ℕ) → size ≡ n * (3 * group_words p) → 0 < n → 3 * dealt_count p ≤ size
  row_room n size e l = let k : 1 ≤ n = l in omega (arith, mul-le-mul_right (3 * group_words p) k, dealt_few)
