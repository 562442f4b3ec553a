-- The time row as bytes, entry by entry.
use Prim.Native.Nat.{ℕ, zero, suc, ◌+◌, ◌*◌, ◌-◌, ◌/◌, ◌≤◌, ◌<◌}
use native.Mathlib.Nat.{add-zero}
use native.Mathlib.Omega.{arith}
use mathlib.Core.Bool.{Bool, true, false, cond}
use mathlib.Core.Path.{◌≡◌, refl, ap, sym, ◌∙◌}
use mathlib.Core.List.{List, [], ◌∷◌, ◌++◌, map, flat_map, append-nil}
use lib.ListN.{length, take, drop, get_or, length-drop, length-map}
use lib.Dec.{ltb}
use lib.IntN.{ℤ}
use lib.Seq.{drop_at, drop-length, get_or-drop, get_or-take, length-take-le}
use borrow.Author.Tests.{lt-ltb, le-ltb}
use Rattle.format.specs.Answer.{over}
use Rattle.format.specs.Group.{none, found}
use Rattle.format.specs.Lists.{list}
use Rattle.format.specs.Laws.Front.{Front}
use Rattle.format.specs.Laws.Lists.{length_list}
use Rattle.from_c.specs.Numbers.{half_at, time_at, time_bytes, times_from}
use Rattle.from_c.specs.Laws.{length_time}
use Rattle.log_rules.specs.Shift.{first_unmoved, moved, moves}
use Rattle.log_move.specs.Moved.{moved_number}
use Rattle.log_move.proofs.Times.{number_moved, test_moves}
use Rattle.log_shift.specs.Shifted.{Moves, unmovable_from}

-- ---- an entry

-- the same eight bytes say the same time
module _ (s t : List ℕ) (a b : ℕ) (same : (j : ℕ) → j < 8 → get_or s (a + j) 0 ≡ get_or t (b + j) 0) where
  first : get_or s a 0 ≡ get_or t b 0
  first = ap (λ (n : ℕ). get_or s n 0) (sym (add-zero a)) ∙ same 0 (omega arith) ∙ ap (λ (n : ℕ). get_or t n 0) (add-zero b)

  further : (j k : ℕ) → j + k < 8 → get_or s (a + j + k) 0 ≡ get_or t (b + j + k) 0
  further j k h =
      let x : a + j + k ≡ a + (j + k) = omega arith in
      let y : b + j + k ≡ b + (j + k) = omega arith in
      rw (x, y) (same (j + k) h)

  pub same_time : time_at s a ≡ time_at t b
  unfolding time_at half_at
  same_time =
      rw (first, same 1 (omega arith), same 2 (omega arith), same 3 (omega arith), same 4 (omega arith), further 4 1 (omega arith), further 4 2 (omega arith), further 4 3 (omega arith)) refl

-- an entry read from its own eight bytes
pub entry_is : (s : List ℕ) (a k : ℕ) → k ≡ 8 → time_at (take k (drop a s)) 0 ≡ time_at s a
entry_is s a k e = same_time (take k (drop a s)) s 0 a (λ j h. let z : 0 + j ≡ j = omega arith in rw z (get_or-take k (drop a s) j 0 (omega arith) ∙ get_or-drop a s j 0))

-- an entry behind what is written over is as it was
pub entry_kept : {P d xs : List ℕ} {n : ℕ} → Front P d xs n → time_at xs n ≡ time_at d n
entry_kept {P} {d} {xs} {n} f =
    let e : drop n xs ≡ drop n d = rw f.is (drop_at P (drop n d) n f.size) in
    same_time xs d n n (λ j h. sym (get_or-drop n xs j 0) ∙ ap (λ (l : List ℕ). get_or l j 0) e ∙ get_or-drop n d j 0)

-- one time read into a row of one
pub one_read : (part one : List ℕ) (x : ℕ) → length part ≡ 8 → one ≡ over (times_from part) (x ∷ []) → get_or one 0 0 ≡ time_at part 0
unfolding list
one_read part one x h e =
    let z : 8 * 0 ≡ 0 = omega arith in
    rw (e, h, z) refl

-- one time written over eight bytes
pub one_written : (t : ℕ) (part ys : List ℕ) → length part ≡ 8 → ys ≡ over (flat_map time_bytes (t ∷ [])) part → ys ≡ time_bytes t
unfolding flat_map time_bytes
one_written t part ys h e =
    let d : drop 8 part ≡ [] = ap (λ (n : ℕ). drop n part) (sym h) ∙ drop-length part in
    e ∙ rw d refl

-- ---- the entries one by one

module _ (by : ℤ) (f : ℕ → ℕ) where
  unmovable_hit : (i n : ℕ) → moves by (f i) ≡ false → unmovable_from by i (list f i (suc n)) ≡ i
  unfolding unmovable_from list
  unmovable_hit i n e = rw e refl

  unmovable_miss : (i n : ℕ) → moves by (f i) ≡ true → unmovable_from by i (list f i (suc n)) ≡ unmovable_from by (i + 1) (list f (i + 1) n)
  unfolding unmovable_from list
  unmovable_miss i n e = rw e refl

  pub row_hit : (i n : ℕ) → i < n → 42949672960000 ≤ moved_number by (f i) → unmovable_from by i (list f i (n - i)) ≡ i
  row_hit i n h l =
      let e : n - i ≡ suc (n - (i + 1)) = omega arith in
      rw e (unmovable_hit i (n - (i + 1)) (sym (test_moves by (f i)) ∙ le-ltb (moved_number by (f i)) 42949672960000 l))

  pub row_miss : (i n : ℕ) → i < n → moved_number by (f i) < 42949672960000 → unmovable_from by i (list f i (n - i)) ≡ unmovable_from by (i + 1) (list f (i + 1) (n - (i + 1)))
  row_miss i n h l =
      let e : n - i ≡ suc (n - (i + 1)) = omega arith in
      rw e (unmovable_miss i (n - (i + 1)) (sym (test_moves by (f i)) ∙ lt-ltb (moved_number by (f i)) 42949672960000 l))

  pub row_end : (i n : ℕ) → n ≤ i → unmovable_from by i (list f i (n - i)) ≡ i
  unfolding unmovable_from list
  row_end i n h = let e : n - i ≡ 0 = omega arith in rw e refl

  -- the index is that of the fault, and where there is none all can be moved
  below : (i n : ℕ) → (unmovable_from by i (list f i n) < i + n → first_unmoved by i (list f i n) ≡ found 17 (unmovable_from by i (list f i n)))
      × (i + n ≤ unmovable_from by i (list f i n) → (first_unmoved by i (list f i n) ≡ none) × ((j : ℕ) → j < n → moves by (f (i + j)) ≡ true))
  unfolding unmovable_from first_unmoved list
  below i zero = (λ h. absurd (omega arith), λ h. (refl, λ j l. absurd (omega arith)))
  below i (suc n) = go (moves by (f i)) refl (below (i + 1) n)
    where
      go : (b : Bool) → moves by (f i) ≡ b
          → (unmovable_from by (i + 1) (list f (i + 1) n) < i + 1 + n → first_unmoved by (i + 1) (list f (i + 1) n) ≡ found 17 (unmovable_from by (i + 1) (list f (i + 1) n)))
          × (i + 1 + n ≤ unmovable_from by (i + 1) (list f (i + 1) n) → (first_unmoved by (i + 1) (list f (i + 1) n) ≡ none) × ((j : ℕ) → j < n → moves by (f (i + 1 + j)) ≡ true))
          → (unmovable_from by i (list f i (suc n)) < i + suc n → first_unmoved by i (list f i (suc n)) ≡ found 17 (unmovable_from by i (list f i (suc n))))
          × (i + suc n ≤ unmovable_from by i (list f i (suc n)) → (first_unmoved by i (list f i (suc n)) ≡ none) × ((j : ℕ) → j < suc n → moves by (f (i + j)) ≡ true))
      go true e (p, q) = rw e (λ h. p (omega (arith, h)), λ h. ((q (omega (arith, h))).0, λ j l. each j l (q (omega (arith, h))).1))
        where
          each : (j : ℕ) → j < suc n → ((k : ℕ) → k < n → moves by (f (i + 1 + k)) ≡ true) → moves by (f (i + j)) ≡ true
          each zero l g = let z : i + 0 ≡ i = omega arith in rw z e
          each (suc j) l g = let z : i + suc j ≡ i + 1 + j = omega arith in rw z (g j (omega arith))
      go false e r = rw e (λ h. refl, λ h. absurd (omega arith))

module _ (by : ℤ) (s : List ℕ) where
  pub row_fault : unmovable_from by 0 (times_from s) < length s / 8 → first_unmoved by 0 (times_from s) ≡ found 17 (unmovable_from by 0 (times_from s))
  row_fault h = (below by (λ i. time_at s (8 * i)) 0 (length s / 8)).0 (omega arith)

  pub row_clear : length s / 8 ≤ unmovable_from by 0 (times_from s) → (first_unmoved by 0 (times_from s) ≡ none) × Moves by s
  row_clear h =
      let q = (below by (λ i. time_at s (8 * i)) 0 (length s / 8)).1 (omega arith) in
      (q.0, λ i l. let z : 0 + i ≡ i = omega arith in rw z at (q.1 i l))
