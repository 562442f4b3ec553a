-- A group of a capture, and its bytes alone: the same faults, time and words, at places that are moved.
use Prim.Native.Nat.{ℕ, zero, suc, ◌+◌, ◌*◌, ◌/◌, ◌%◌, ◌^◌, ◌-◌, ◌≤◌, ◌<◌}
use native.Mathlib.Omega.{arith}
use Rattle.std.proofs.Math.Nat.{mul-le-mul_right}
use Rattle.std.proofs.Common.{mul-le-mul_left, ◌∙◌, get_or-take, get_or-drop}
use Rattle.std.proofs.Math.Bool.{Bool, true, false, cond, not}
use Rattle.std.specs.Prelude.{◌&&◌, ◌||◌, ◌≡◌, length, take, drop, ltb, leb}
use Rattle.std.proofs.Math.Path.{refl, ap, sym, ap₂}
use mathlib.Core.List.{List, [], ◌∷◌, ◌++◌, flat_map, map}
use Rattle.std.proofs.Math.ListN.{get_or}
use Rattle.std.proofs.Math.Dec.{eqb}
use Rattle.format.specs.Word.{word_at, is_odd, sync, bus_of, label_of, info_of}
use Rattle.format.specs.Time.{microseconds, below_tick}
use Rattle.format.specs.Check.{check_word}
use Rattle.format.specs.Plan.{rows, slots, lead, group_words, place_of}
use Rattle.format.specs.Lists.{list}
use Rattle.format.specs.Reader.{Slot}
use Rattle.format.specs.Group.{Fault, none, found, or_else, unless, fault_at, first_of, stored_fault, time_word_fault, time_fault, group_fault, time_info, group_time, group_slots}
use Rattle.stream_rules.specs.Stream.{stored_of, slots_of, slots_at, moved_fault, group_size, group_bytes}
use Rattle.format.specs.Laws.Lists.{list_same, map_append}
use Rattle.format.specs.Laws.Legal.{Legal}
use Rattle.format.specs.Laws.Limits.{long, room}
use Rattle.format.specs.Laws.Composed.Frames.{place_low}
use Rattle.format.proofs.Laws.Composed.Slots.{slot_in}
use Rattle.stream_rules.specs.Laws.Stream.Fits.{lead_in, slots_named}
use Rattle.format.specs.declared.Kind.{Kind}
use Rattle.format.specs.declared.Plan.{Plan}
use Rattle.format.proofs.Laws.Reader.Named.{named}

-- ---- faults that are moved

moved_or : (at : ℕ) (f g : Fault) → moved_fault at (or_else f g) ≡ or_else (moved_fault at f) (moved_fault at g)
moved_or at none g = refl
moved_or at (found n q) g = refl

moved_unless : (at : ℕ) (b : Bool) (n q : ℕ) → moved_fault at (unless b n q) ≡ unless b n (at + q)
moved_unless at true n q = refl
moved_unless at false n q = refl

moved_cond : (at : ℕ) (b : Bool) (f : Fault) → moved_fault at (cond b f none) ≡ cond b (moved_fault at f) none
moved_cond at true f = refl
moved_cond at false f = refl

moved_first : (at : ℕ) (fs : List Fault) → moved_fault at (first_of fs) ≡ first_of (map (moved_fault at) fs)
unfolding first_of
moved_first at [] = refl
moved_first at (f ∷ fs) = moved_or at f (first_of fs) ∙ ap (or_else (moved_fault at f)) (moved_first at fs)

list_moved : (at : ℕ) (f g : ℕ → Fault) (n a : ℕ) → ((i : ℕ) → i < n → f (a + i) ≡ moved_fault at (g (a + i))) → list f a n ≡ map (moved_fault at) (list g a n)
unfolding list
list_moved at f g zero a h = refl
list_moved at f g (suc n) a h =
    let z : a + 0 ≡ a = omega arith in
    let one : f a ≡ moved_fault at (g a) = rw z at (h 0 (omega arith)) in
    ap₂ (λ (x : Fault) (l : List Fault). x ∷ l) one (list_moved at f g n (a + 1) (λ i l. let e : a + 1 + i ≡ a + suc i = omega arith in rw e (h (suc i) (omega arith))))

blocks_moved : (at : ℕ) (F G : ℕ → List Fault) (n a : ℕ) → ((i : ℕ) → i < n → F (a + i) ≡ map (moved_fault at) (G (a + i)))
    → flat_map F (list (λ t. t) a n) ≡ map (moved_fault at) (flat_map G (list (λ t. t) a n))
unfolding list flat_map
blocks_moved at F G zero a h = refl
blocks_moved at F G (suc n) a h =
    let z : a + 0 ≡ a = omega arith in
    let one : F a ≡ map (moved_fault at) (G a) = rw z at (h 0 (omega arith)) in
    ap₂ (λ (x y : List Fault). x ++ y) one (blocks_moved at F G n (a + 1) (λ i l. let e : a + 1 + i ≡ a + suc i = omega arith in rw e (h (suc i) (omega arith))))
    ∙ sym (map_append (moved_fault at) (G a) (flat_map G (list (λ t. t) (a + 1) n)))

abbrev slot : ℕ → ℕ → Slot
slot q w = (q, w)

module _ (p : Plan) (ks : List Kind) (ok : Legal p ks) (c : List ℕ) (g : ℕ) where
  abbrev v : List ℕ
  v = group_bytes p c g

  abbrev at : ℕ
  at = g * group_words p

  byte_moved : (i : ℕ) → i < group_size p → get_or (group_bytes p c g) i 0 ≡ get_or c (g * group_size p + i) 0
  byte_moved i h = get_or-take (group_size p) (drop (g * group_size p) c) i 0 h ∙ get_or-drop (g * group_size p) c i 0

  pub word_moved : (i : ℕ) → i < group_words p → word_at c (g * group_words p + i) ≡ word_at (group_bytes p c g) i
  unfolding word_at
  word_moved i h =
      let a : 3 * (g * group_words p + i) ≡ g * group_size p + 3 * i = omega arith in
      let b : 3 * (g * group_words p + i) + 1 ≡ g * group_size p + (3 * i + 1) = omega arith in
      let d : 3 * (g * group_words p + i) + 2 ≡ g * group_size p + (3 * i + 2) = omega arith in
      let x : get_or c (3 * (g * group_words p + i)) 0 ≡ get_or v (3 * i) 0 = ap (λ (k : ℕ). get_or c k 0) a ∙ sym (byte_moved (3 * i) (omega arith)) in
      let y : get_or c (3 * (g * group_words p + i) + 1) 0 ≡ get_or v (3 * i + 1) 0 = ap (λ (k : ℕ). get_or c k 0) b ∙ sym (byte_moved (3 * i + 1) (omega arith)) in
      let z : get_or c (3 * (g * group_words p + i) + 2) 0 ≡ get_or v (3 * i + 2) 0 = ap (λ (k : ℕ). get_or c k 0) d ∙ sym (byte_moved (3 * i + 2) (omega arith)) in
      rw (x, y, z)

  fault_moved : (a j : ℕ) → a + p.words ≤ group_words p → j < p.words → fault_at p c (at + a) j ≡ moved_fault at (fault_at p v a j)
  unfolding fault_at
  fault_moved a zero h l = rw (word_moved a (omega (arith, h, l))) (sym (moved_unless at (eqb (word_at v a) sync) 9 a))
  fault_moved a (suc j) h l =
      let q : at + a + suc j ≡ at + (a + suc j) = omega arith in
      let w : word_at c (at + a + suc j) ≡ word_at v (a + suc j) = ap (word_at c) q ∙ word_moved (a + suc j) (omega (arith, h, l)) in
      let ls : list (word_at c) (at + a) (suc j) ≡ list (word_at v) a (suc j) = list_same (word_at c) (word_at v) (suc j) (at + a) a (λ i m. let r : at + a + i ≡ at + (a + i) = omega arith in ap (word_at c) r ∙ word_moved (a + i) (omega (arith, h, l, m))) in
      let even : Bool = not p.parity || is_odd (word_at v (a + suc j)) in
      let last : Bool = p.crc && eqb (suc (suc j)) p.words in
      let right : Bool = eqb (word_at v (a + suc j)) (check_word p.parity p.crc_label (list (word_at v) a (suc j))) in
      rw (w, ls, q)
      (sym (moved_or at (unless even 10 (a + suc j)) (cond last (unless right 11 (a + suc j)) none)
      ∙ ap₂ or_else (moved_unless at even 10 (a + suc j)) (moved_cond at last (unless right 11 (a + suc j)) ∙ ap (λ (f : Fault). cond last f none) (moved_unless at right 11 (a + suc j)))))

  stored_moved : stored_fault p c at ≡ moved_fault at (stored_fault p v 0)
  unfolding stored_fault
  stored_moved =
      ap first_of (blocks_moved at (λ (t : ℕ). list (fault_at p c (at + t * p.words)) 0 p.words) (λ (t : ℕ). list (fault_at p v (0 + t * p.words)) 0 p.words) p.tracks 0
      (λ t l. list_moved at (fault_at p c (at + (0 + t) * p.words)) (fault_at p v (0 + (0 + t) * p.words)) p.words 0
      (λ j k. let e : (0 + t) * p.words ≡ 0 + (0 + t) * p.words = omega arith in fault_moved ((0 + t) * p.words) (0 + j) (omega (arith, mul-le-mul_right p.words l)) (omega arith) ∙ ap (λ (a : ℕ). moved_fault at (fault_at p v a (0 + j))) e)))
      ∙ sym (moved_first at (flat_map (λ (t : ℕ). list (fault_at p v (0 + t * p.words)) 0 p.words) (list (λ t. t) 0 p.tracks)))

  place_in : (s : ℕ) → s < 3 → place_of p s < group_words p
  place_in s h = place_low p (long p ok.shape) ok.shape.tracks_least s (omega (arith, h, room p ok.shape))

  time_word_moved : (s label : ℕ) (micro : Bool) → s < 3 → time_word_fault p c at s label micro ≡ moved_fault at (time_word_fault p v 0 s label micro)
  unfolding time_word_fault
  time_word_moved s label micro h =
      let z : 0 + place_of p s ≡ place_of p s = omega arith in
      let w : ℕ = word_at v (place_of p s) in
      rw (z, word_moved (place_of p s) (place_in s h))
      (sym (moved_unless at (eqb (bus_of p.parity w) 0 && eqb (label_of w) label && (cond micro (below_tick (info_of w)) true)) 12 (place_of p s)))

  pub group_moved : group_fault p c at ≡ moved_fault at (group_fault p v 0)
  unfolding group_fault time_fault
  group_moved =
      let a : Fault = time_word_fault p v 0 0 7 false in
      let b : Fault = time_word_fault p v 0 1 6 false in
      let d : Fault = time_word_fault p v 0 2 5 true in
      rw (stored_moved, time_word_moved 0 7 false (omega arith), time_word_moved 1 6 false (omega arith), time_word_moved 2 5 true (omega arith))
      (sym (moved_or at (stored_fault p v 0) (cond p.frame_time (or_else a (or_else b d)) none)
      ∙ ap (or_else (moved_fault at (stored_fault p v 0)))
      (moved_cond at p.frame_time (or_else a (or_else b d)) ∙ ap (λ (f : Fault). cond p.frame_time f none) (moved_or at a (or_else b d) ∙ ap (or_else (moved_fault at a)) (moved_or at b d)))))

  pub time_moved : group_time p c at ≡ group_time p v 0
  unfolding group_time
  time_moved =
      let z0 : 0 + place_of p 0 ≡ place_of p 0 = omega arith in
      let z1 : 0 + place_of p 1 ≡ place_of p 1 = omega arith in
      let z2 : 0 + place_of p 2 ≡ place_of p 2 = omega arith in
      rw (z0, z1, z2, word_moved (place_of p 0) (place_in 0 (omega arith)), word_moved (place_of p 1) (place_in 1 (omega arith)), word_moved (place_of p 2) (place_in 2 (omega arith)))

  -- the slots
  slots_list : (m a : ℕ) → a + m ≤ p.tracks * rows p
      → list {A = Slot} (λ s. (g * group_words p + place_of p s, word_at c (g * group_words p + place_of p s))) a m ≡ list {A = Slot} (λ s. (g * group_words p + place_of p s, word_at (group_bytes p c g) (place_of p s))) a m
  unfolding list
  slots_list zero a h = refl
  slots_list (suc m) a h =
      let l : place_of p a < group_words p = place_low p (long p ok.shape) ok.shape.tracks_least a (omega (arith, h)) in
      ap₂ (λ (x : Slot) (y : List Slot). x ∷ y) (ap (slot (g * group_words p + place_of p a)) (word_moved (place_of p a) l)) (slots_list m (a + 1) (omega (arith, h)))

  pub slots_moved : group_slots p c (g * group_words p) ≡ slots_at p (group_bytes p c g) (g * group_words p)
  unfolding group_slots slots_at
  slots_moved = slots_list (slots p) (lead p) (lead_in p ks ok)

  -- under the names of their numbers
  pub numbers_moved : group_slots p c (g * group_words p) ≡ map (named (stored_of p)) (slots_of p (group_bytes p c g) g)
  numbers_moved = slots_moved ∙ slots_named p ks ok (group_bytes p c g) g
