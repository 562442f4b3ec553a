-- A group's fault has a number other than 0, so that number 0 says that there is none; and its place is within the group.
use Prim.Native.Nat.{ℕ, zero, suc, ◌+◌, ◌*◌, ◌≤◌, ◌<◌}
use native.Mathlib.Omega.{arith}
use native.Mathlib.Nat.{mul-le-mul_right}
use mathlib.Core.Path.{◌≡◌, refl, sym, ap, ap₂, ◌∙◌}
use mathlib.Core.Bool.{Bool, true, false, cond, not, ◌&&◌, ◌||◌}
use mathlib.Core.List.{List, ◌++◌, flat_map}
use lib.Dec.{eqb}
use Rattle.format.specs.Lists.{list}
use Rattle.format.specs.Word.{word_at, is_odd, sync, bus_of, label_of, info_of}
use Rattle.format.specs.Time.{below_tick}
use Rattle.format.specs.Plan.{group_words, place_of}
use Rattle.format.specs.Check.{check_word}
use Rattle.format.specs.Group.{Fault as GroupFault, none, found, or_else, unless, first_of, fault_at, stored_fault, time_word_fault, time_fault, group_fault}
use Rattle.format.specs.Laws.Limits.{Shape, room, some_words}
use Rattle.format.specs.declared.Plan.{Plan}
use Rattle.group_read.specs.declared.Fault.{Fault}
use Rattle.group_read.specs.Faults.{fault_of}
use Rattle.group_read.proofs.Places.{place_in}

-- a fault among the first m words
abbrev Within : ℕ → GroupFault → Type 0
Within m none = Unit {0}
Within m (found n q) = (1 ≤ n) × (q < m)

within_unless : (m : ℕ) (test : Bool) (n q : ℕ) → 1 ≤ n → q < m → Within m (unless test n q)
within_unless m true n q i h = tt
within_unless m false n q i h = (i, h)

within_or : (m : ℕ) (f g : GroupFault) → Within m f → Within m g → Within m (or_else f g)
within_or m none g a b = b
within_or m (found n q) g a b = a

within_if : (m : ℕ) (test : Bool) (f : GroupFault) → Within m f → Within m (cond test f none)
within_if m true f a = a
within_if m false f a = tt

module _ (p : Plan) (g : List ℕ) (m : ℕ) where
  within_at : (at j : ℕ) → at + j < m → Within m (fault_at p g at j)
  unfolding fault_at
  within_at at zero h = within_unless m (eqb (word_at g at) sync) 9 at (omega arith) (omega arith)
  within_at at (suc j) h =
      let w : ℕ = word_at g (at + suc j) in
      let odd : Bool = not p.parity || is_odd w in
      let right : Bool = eqb w (check_word p.parity p.crc_label (list (word_at g) at (suc j))) in
      let due : Bool = p.crc && eqb (suc (suc j)) p.words in
      within_or m (unless odd 10 (at + suc j)) (cond due (unless right 11 (at + suc j)) none) (within_unless m odd 10 (at + suc j) (omega arith) h)
      (within_if m due (unless right 11 (at + suc j)) (within_unless m right 11 (at + suc j) (omega arith) h))

  -- the words of a frame, and then faults that are within
  within_words : (at : ℕ) (later : List GroupFault) → Within m (first_of later) → (n j : ℕ) → at + (j + n) ≤ m → Within m (first_of (list (fault_at p g at) j n ++ later))
  unfolding first_of list
  within_words at later h zero j l = h
  within_words at later h (suc n) j l =
      within_or m (fault_at p g at j) (first_of (list (fault_at p g at) (j + 1) n ++ later)) (within_at at j (omega arith)) (within_words at later h n (j + 1) (omega arith))

  abbrev tracks_from : ℕ → ℕ → List GroupFault
  tracks_from t n = flat_map (λ (u : ℕ). list (fault_at p g (0 + u * p.words)) 0 p.words) (list (λ u. u) t n)

  within_tracks : (n t : ℕ) → (t + n) * p.words ≤ m → Within m (first_of (tracks_from t n))
  unfolding flat_map list first_of
  within_tracks zero t l = tt
  within_tracks (suc n) t l =
      let e : t + suc n ≡ t + 1 + n = omega arith in
      let k : (t + 1 + n) * p.words ≤ m = rw e at l in
      let o : (t + 1) * p.words ≤ (t + 1 + n) * p.words = mul-le-mul_right p.words (omega arith) in
      within_words (0 + t * p.words) (tracks_from (t + 1) n) (within_tracks n (t + 1) k) p.words 0 (omega (arith, o, k))

  within_time : (s label : ℕ) (micro : Bool) → place_of p s < m → Within m (time_word_fault p g 0 s label micro)
  unfolding time_word_fault
  within_time s label micro h =
      let w : ℕ = word_at g (0 + place_of p s) in
      within_unless m (eqb (bus_of p.parity w) 0 && eqb (label_of w) label && (cond micro (below_tick (info_of w)) true)) 12 (0 + place_of p s) (omega arith) (omega arith)

within_group : (p : Plan) (g : List ℕ) → Shape p → Within (group_words p) (group_fault p g 0)
unfolding group_fault stored_fault time_fault
within_group p g h =
    let m : ℕ = group_words p in
    let i : (s : ℕ) → s < 3 → place_of p s < m = λ s l. place_in p h s (omega (arith, room p h)) in
    let high : GroupFault = time_word_fault p g 0 0 7 false in
    let low : GroupFault = time_word_fault p g 0 1 6 false in
    let micro : GroupFault = time_word_fault p g 0 2 5 true in
    let z : 0 + p.tracks ≡ p.tracks = omega arith in
    within_or m (stored_fault p g 0) (time_fault p g 0) (within_tracks p g m p.tracks 0 (rw z (omega arith)))
    (within_if m p.frame_time (or_else high (or_else low micro))
    (within_or m high (or_else low micro) (within_time p g m 0 7 false (i 0 (omega arith)))
    (within_or m low micro (within_time p g m 1 6 false (i 1 (omega arith))) (within_time p g m 2 5 true (i 2 (omega arith))))))

-- ---- what a caller of `deal` knows by the number, and of the place

module _ (p : Plan) (g : List ℕ) (h : Shape p) {r : Fault} (e : r ≡ fault_of (group_fault p g 0)) where
  pub number_none : r.number ≡ 0 → group_fault p g 0 ≡ none
  number_none z = go (group_fault p g 0) (within_group p g h) e
    where
      go : (f : GroupFault) → Within (group_words p) f → r ≡ fault_of f → f ≡ none
      go none a x = refl
      go (found n q) a x = let y : n ≡ 0 = sym (ap (λ (x : Fault). x.number) x) ∙ z in absurd (omega (arith, a.0))

  pub number_found : (r.number ≡ 0 → ⊥) → group_fault p g 0 ≡ found r.number r.place
  number_found z = go (group_fault p g 0) e
    where
      go : (f : GroupFault) → r ≡ fault_of f → f ≡ found r.number r.place
      go none x = absurd (z (ap (λ (x : Fault). x.number) x))
      go (found n q) x = sym (ap₂ found (ap (λ (x : Fault). x.number) x) (ap (λ (x : Fault). x.place) x))

  pub place_low : r.place < group_words p
  place_low = rw (ap (λ (x : Fault). x.place) e) (go (group_fault p g 0) (within_group p g h))
    where
      go : (f : GroupFault) → Within (group_words p) f → (fault_of f).place < group_words p
      go none a = some_words p h
      go (found n q) a = a.1
