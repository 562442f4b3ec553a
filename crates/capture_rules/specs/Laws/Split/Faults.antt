-- Where the faults of a group stand, and which numbers they have.
use Prim.Native.Nat.{ℕ, zero, suc, ◌+◌, ◌*◌, ◌/◌, ◌%◌, ◌-◌, ◌≤◌, ◌<◌}
use Rattle.std.proofs.Common.{arith, ap, sym, ◌∙◌}
use Rattle.std.proofs.Math.Nat.{mul-le-mul_right}
use Rattle.std.specs.Prelude.{Bool, cond, ◌&&◌, ◌||◌, not, ◌≡◌, refl}
use Rattle.std.proofs.Math.Bool.{true, false}
use mathlib.Core.List.{List, [], ◌∷◌, ◌++◌, flat_map}
use Rattle.std.proofs.Math.Dec.{eqb}
use Rattle.format.specs.Word.{word_at, is_odd, sync, bus_of, label_of, info_of}
use Rattle.format.specs.Time.{below_tick}
use Rattle.format.specs.Check.{check_word}
use Rattle.format.specs.Plan.{rows, lead, slots, group_words, place_of}
use Rattle.format.specs.Lists.{All, nil, cons, list}
use Rattle.format.specs.Group.{Fault, none, found, or_else, unless, fault_at, first_of, stored_fault, time_word_fault, time_fault, group_fault, group_slots}
use Rattle.format.specs.Reader.{Slot}
use Rattle.format.specs.Laws.Lists.{all_list, all_flat}
use Rattle.format.specs.Laws.Legal.{Legal}
use Rattle.format.specs.Laws.Limits.{long, room, free}
use Rattle.format.specs.Laws.Composed.Frames.{place_low}
use Rattle.format.proofs.Laws.Composed.Slots.{slot_in}
use Rattle.format.specs.declared.Plan.{Plan}
use Rattle.format.specs.declared.Kind.{Kind}

-- a place at or behind lo and before hi
pub record In (lo hi q : ℕ) : Type 0 where
  pub over : lo ≤ q
  pub under : q < hi

-- a fault of 9 to 12 there
abbrev pub FaultIn : ℕ → ℕ → Fault → Type 0
FaultIn lo hi none = Unit {0}
FaultIn lo hi (found n q) = (9 ≤ n) × (n ≤ 12) × In lo hi q

or_in : (lo hi : ℕ) (f g : Fault) → FaultIn lo hi f → FaultIn lo hi g → FaultIn lo hi (or_else f g)
or_in lo hi none g x y = y
or_in lo hi (found n q) g x y = x

unless_in : (lo hi : ℕ) (b : Bool) (n q : ℕ) → 9 ≤ n → n ≤ 12 → lo ≤ q → q < hi → FaultIn lo hi (unless b n q)
unless_in lo hi true n q a b l h = tt
unless_in lo hi false n q a b l h = (a, b, record { over = l; under = h })

cond_in : (lo hi : ℕ) (b : Bool) (f : Fault) → FaultIn lo hi f → FaultIn lo hi (cond b f none)
cond_in lo hi true f x = x
cond_in lo hi false f x = tt

first_in : (lo hi : ℕ) (fs : List Fault) → All (FaultIn lo hi) fs → FaultIn lo hi (first_of fs)
unfolding first_of
first_in lo hi [] nil = tt
first_in lo hi (f ∷ fs) (cons h t) = or_in lo hi f (first_of fs) h (first_in lo hi fs t)

word_in : (p : Plan) (c : List ℕ) (lo hi at j : ℕ) → lo ≤ at → at + p.words ≤ hi → j < p.words → FaultIn lo hi (fault_at p c at j)
unfolding fault_at
word_in p c lo hi at zero a b h = unless_in lo hi (eqb (word_at c at) sync) 9 at (omega arith) (omega arith) a (omega arith)
word_in p c lo hi at (suc j) a b h =
    let w : ℕ = word_at c (at + suc j) in
    let even : Bool = not p.parity || is_odd w in
    let last : Bool = p.crc && eqb (suc (suc j)) p.words in
    let right : Bool = eqb w (check_word p.parity p.crc_label (list (word_at c) at (suc j))) in
    or_in lo hi (unless even 10 (at + suc j)) (cond last (unless right 11 (at + suc j)) none)
    (unless_in lo hi even 10 (at + suc j) (omega arith) (omega arith) (omega arith) (omega arith))
    (cond_in lo hi last (unless right 11 (at + suc j)) (unless_in lo hi right 11 (at + suc j) (omega arith) (omega arith) (omega arith) (omega arith)))

module _ (p : Plan) (c : List ℕ) (at : ℕ) (some : 2 ≤ p.words) (one : 1 ≤ p.tracks) (room : 3 ≤ p.tracks * rows p) where
  abbrev hi : ℕ
  hi = at + group_words p

  stored_in : FaultIn at hi (stored_fault p c at)
  unfolding stored_fault
  stored_in =
      first_in at hi _ (all_flat (FaultIn at hi) (λ (t : ℕ). list (fault_at p c (at + t * p.words)) 0 p.words) (list (λ t. t) 0 p.tracks)
      (all_list (λ (t : ℕ). All (FaultIn at hi) (list (fault_at p c (at + t * p.words)) 0 p.words)) (λ t. t) p.tracks 0
      (λ t l. all_list (FaultIn at hi) (fault_at p c (at + (0 + t) * p.words)) p.words 0
      (λ j k. word_in p c at hi (at + (0 + t) * p.words) (0 + j) (omega arith) (omega (arith, mul-le-mul_right p.words l)) (omega arith)))))

  time_word_in : (s label : ℕ) (micro : Bool) → s < 3 → FaultIn at hi (time_word_fault p c at s label micro)
  unfolding time_word_fault
  time_word_in s label micro h =
      let w : ℕ = word_at c (at + place_of p s) in
      unless_in at hi (eqb (bus_of p.parity w) 0 && eqb (label_of w) label && (cond micro (below_tick (info_of w)) true)) 12 (at + place_of p s) (omega arith) (omega arith) (omega arith) (omega (arith, place_low p some one s (omega (arith, h, room))))

  pub fault_in : FaultIn at hi (group_fault p c at)
  unfolding group_fault time_fault
  fault_in =
      let a : Fault = time_word_fault p c at 0 7 false in
      let b : Fault = time_word_fault p c at 1 6 false in
      let d : Fault = time_word_fault p c at 2 5 true in
      or_in at hi (stored_fault p c at) (cond p.frame_time (or_else a (or_else b d)) none) stored_in
      (cond_in at hi p.frame_time (or_else a (or_else b d)) (or_in at hi a (or_else b d) (time_word_in 0 7 false (omega arith)) (or_in at hi b d (time_word_in 1 6 false (omega arith)) (time_word_in 2 5 true (omega arith)))))

  pub slots_in : All (λ (s : Slot). In at hi s.0) (group_slots p c at)
  unfolding group_slots
  slots_in =
      all_list (λ (s : Slot). In at hi s.0) (λ s. (at + place_of p s, word_at c (at + place_of p s))) (slots p) (lead p)
      (λ i l. record { over = omega arith; under = omega (arith, place_low p some one (lead p + i) (slot_in p i l)) })
