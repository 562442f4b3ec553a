-- A capture's group at `at` and its own bytes: the same fault, its place moved by `at`; the same time and the same data.
use Prim.Native.Nat.{ℕ, zero, suc, ◌+◌, ◌*◌, ◌^◌, ◌≤◌, ◌<◌}
use native.Mathlib.Omega.{arith}
use native.Mathlib.Nat.{mul-le-mul_right}
use mathlib.Core.Path.{◌≡◌, refl, sym, ap, ap₂, ◌∙◌}
use mathlib.Core.Bool.{Bool, true, false, cond, not, ◌&&◌, ◌||◌}
use mathlib.Core.List.{List, [], ◌++◌, flat_map}
use lib.ListN.{get_or, take, drop}
use lib.Seq.{get_or-take, get_or-drop}
use lib.Dec.{eqb}
use Rattle.format.specs.Lists.{list}
use Rattle.format.specs.Laws.Lists.{list_same}
use Rattle.format.specs.Word.{word_at, is_odd, sync, bus_of, label_of, info_of}
use Rattle.format.specs.Time.{below_tick}
use Rattle.format.specs.Check.{check_word}
use Rattle.format.specs.Plan.{group_words, place_of}
use Rattle.format.specs.Group.{Fault, none, found, or_else, unless, first_of, fault_at, stored_fault, time_word_fault, time_fault, group_fault, group_time}
use Rattle.format.specs.declared.Plan.{Plan}
use Rattle.format.specs.Laws.Limits.{Shape, room}
use Rattle.group_read.proofs.Places.{place_in}
use Rattle.group_read.specs.Row.{dealt_count, dealt_words}

-- a fault's place, moved
unfoldable pub moved : ℕ → Fault → Fault
moved at none = none
moved at (found n q) = found n (at + q)

-- f is the fault f' of the own bytes
record Moves (at : ℕ) (f f' : Fault) : Type 0 where
  pub is : f ≡ moved at f'

moved_none : (at : ℕ) → Moves at none none
unfolding moved
moved_none at = record { is = refl }

moved_unless : (at : ℕ) (b : Bool) (n q r : ℕ) → r ≡ at + q → Moves at (unless b n r) (unless b n q)
unfolding moved
moved_unless at true n q r e = record { is = refl }
moved_unless at false n q r e = record { is = ap (found n) e }

moved_or : (at : ℕ) {f g f' g' : Fault} → Moves at f f' → Moves at g g' → Moves at (or_else f g) (or_else f' g')
unfolding moved
moved_or at {f} {g} {f'} {g'} a b = record { is = ap₂ or_else a.is b.is ∙ go f' g' }
  where
    go : (x y : Fault) → or_else (moved at x) (moved at y) ≡ moved at (or_else x y)
    go none y = refl
    go (found n q) y = refl

moved_if : (at : ℕ) (b : Bool) {f f' : Fault} → Moves at f f' → Moves at (cond b f none) (cond b f' none)
moved_if at true e = e
moved_if at false e = moved_none at

-- the first of two lists, fault by fault
moved_list : (at : ℕ) (F G : ℕ → Fault) (n a : ℕ) → ((i : ℕ) → a ≤ i → i < a + n → Moves at (F i) (G i)) → (l m : List Fault) → Moves at (first_of l) (first_of m)
    → Moves at (first_of (list F a n ++ l)) (first_of (list G a n ++ m))
unfolding list first_of
moved_list at F G zero a h l m e = e
moved_list at F G (suc n) a h l m e = moved_or at (h a (omega arith) (omega arith)) (moved_list at F G n (a + 1) (λ i x y. h i (omega arith) (omega arith)) l m e)

module _ (p : Plan) (c g : List ℕ) (at : ℕ) (same : (i : ℕ) → i < group_words p → word_at c (at + i) ≡ word_at g i) where
  word_same : (i k : ℕ) → k ≡ at + i → i < group_words p → word_at c k ≡ word_at g i
  word_same i k e h = ap (word_at c) e ∙ same i h

  fault_moved : (first j : ℕ) → first + j < group_words p → Moves at (fault_at p c (at + first) j) (fault_at p g (0 + first) j)
  unfolding fault_at
  fault_moved first zero h =
      rw (word_same (0 + first) (at + first) (omega arith) (omega arith)) (moved_unless at (eqb (word_at g (0 + first)) sync) 9 (0 + first) (at + first) (omega arith))
  fault_moved first (suc j) h =
      let e : at + first + suc j ≡ at + (0 + first + suc j) = omega arith in
      let w : ℕ = word_at g (0 + first + suc j) in
      let x : word_at c (at + first + suc j) ≡ w = word_same (0 + first + suc j) (at + first + suc j) e (omega arith) in
      let l : list (word_at c) (at + first) (suc j) ≡ list (word_at g) (0 + first) (suc j) =
      list_same (word_at c) (word_at g) (suc j) (at + first) (0 + first) (λ i k. word_same (0 + first + i) (at + first + i) (omega arith) (omega arith)) in
      rw (x, l)
      (moved_or at (moved_unless at (not p.parity || is_odd w) 10 (0 + first + suc j) (at + first + suc j) e)
      (moved_if at (p.crc && eqb (suc (suc j)) p.words) (moved_unless at (eqb w (check_word p.parity p.crc_label (list (word_at g) (0 + first) (suc j)))) 11 (0 + first + suc j) (at + first + suc j) e)))

  tracks_moved : (n t : ℕ) → t + n ≤ p.tracks
      → Moves at (first_of (flat_map (λ (u : ℕ). list (fault_at p c (at + u * p.words)) 0 p.words) (list (λ u. u) t n)))
      (first_of (flat_map (λ (u : ℕ). list (fault_at p g (0 + u * p.words)) 0 p.words) (list (λ u. u) t n)))
  unfolding flat_map list first_of
  tracks_moved zero t h = moved_none at
  tracks_moved (suc n) t h =
      let k : t + 1 ≤ p.tracks = omega arith in
      moved_list at (fault_at p c (at + t * p.words)) (fault_at p g (0 + t * p.words)) p.words 0
      (λ i x y. fault_moved (t * p.words) i (omega (arith, mul-le-mul_right p.words k)))
      (flat_map (λ (u : ℕ). list (fault_at p c (at + u * p.words)) 0 p.words) (list (λ u. u) (t + 1) n))
      (flat_map (λ (u : ℕ). list (fault_at p g (0 + u * p.words)) 0 p.words) (list (λ u. u) (t + 1) n))
      (tracks_moved n (t + 1) (omega arith))

  time_word_moved : (s label : ℕ) (micro : Bool) → place_of p s < group_words p → Moves at (time_word_fault p c at s label micro) (time_word_fault p g 0 s label micro)
  unfolding time_word_fault
  time_word_moved s label micro h =
      let w : ℕ = word_at g (0 + place_of p s) in
      rw (word_same (0 + place_of p s) (at + place_of p s) (omega arith) (omega arith))
      (moved_unless at (eqb (bus_of p.parity w) 0 && eqb (label_of w) label && (cond micro (below_tick (info_of w)) true)) 12 (0 + place_of p s) (at + place_of p s) (omega arith))

  in_group : Shape p → (s : ℕ) → s < 3 → place_of p s < group_words p
  in_group h s l = place_in p h s (omega (arith, room p h))

  time_moved : Shape p → Moves at (time_fault p c at) (time_fault p g 0)
  unfolding time_fault
  time_moved h =
      moved_if at p.frame_time
      (moved_or at (time_word_moved 0 7 false (in_group h 0 (omega arith)))
      (moved_or at (time_word_moved 1 6 false (in_group h 1 (omega arith))) (time_word_moved 2 5 true (in_group h 2 (omega arith)))))

  pub group_moved : Shape p → group_fault p c at ≡ moved at (group_fault p g 0)
  unfolding group_fault stored_fault
  group_moved h = (moved_or at (tracks_moved p.tracks 0 (omega arith)) (time_moved h)).is

  pub time_same : Shape p → group_time p c at ≡ group_time p g 0
  unfolding group_time
  time_same h =
      let a : (s : ℕ) → s < 3 → word_at c (at + place_of p s) ≡ word_at g (0 + place_of p s) =
      λ s l. word_same (0 + place_of p s) (at + place_of p s) (omega arith) (omega (arith, in_group h s l)) in
      rw (a 0 (omega arith), a 1 (omega arith), a 2 (omega arith)) refl

  pub dealt_same : Shape p → list (λ s. word_at c (at + place_of p s)) 0 (dealt_count p) ≡ dealt_words p g
  unfolding dealt_words
  dealt_same h =
      list_same (λ s. word_at c (at + place_of p s)) (λ s. word_at g (place_of p s)) (dealt_count p) 0 0 (λ i l. same (place_of p (0 + i)) (place_in p h (0 + i) (omega arith)))

-- the words of a group's own bytes
pub part_word : (p : Plan) (c : List ℕ) (at i : ℕ) → i < group_words p → word_at c (at + i) ≡ word_at (take (3 * group_words p) (drop (3 * at) c)) i
unfolding word_at
part_word p c at i h =
    ap₂ ◌+◌
    (ap₂ ◌+◌ (ap (λ (b : ℕ). b * 2 ^ 16) (go (3 * i) (3 * (at + i)) (omega arith) (omega arith)))
    (ap (λ (b : ℕ). b * 2 ^ 8) (go (3 * i + 1) (3 * (at + i) + 1) (omega arith) (omega arith))))
    (go (3 * i + 2) (3 * (at + i) + 2) (omega arith) (omega arith))
  where
    go : (b k : ℕ) → k ≡ 3 * at + b → b < 3 * group_words p → get_or c k 0 ≡ get_or (take (3 * group_words p) (drop (3 * at) c)) b 0
    go b k e l = ap (λ (x : ℕ). get_or c x 0) e ∙ sym (get_or-drop (3 * at) c b 0) ∙ sym (get_or-take (3 * group_words p) (drop (3 * at) c) b 0 l)

-- what a caller of `deal` knows of the capture's group: its fault is that of the part it lends, moved by `at`
pub part_fault : (p : Plan) (c : List ℕ) (at : ℕ) → Shape p → group_fault p c at ≡ moved at (group_fault p (take (3 * group_words p) (drop (3 * at) c)) 0)
part_fault p c at h = group_moved p c (take (3 * group_words p) (drop (3 * at) c)) at (part_word p c at) h

-- and so are its time, and the words that are dealt
pub part_time : (p : Plan) (c : List ℕ) (at : ℕ) → Shape p → group_time p c at ≡ group_time p (take (3 * group_words p) (drop (3 * at) c)) 0
part_time p c at h = time_same p c (take (3 * group_words p) (drop (3 * at) c)) at (part_word p c at) h

pub part_dealt : (p : Plan) (c : List ℕ) (at : ℕ) → Shape p → list (λ s. word_at c (at + place_of p s)) 0 (dealt_count p) ≡ dealt_words p (take (3 * group_words p) (drop (3 * at) c))
part_dealt p c at h = dealt_same p c (take (3 * group_words p) (drop (3 * at) c)) at (part_word p c at) h
