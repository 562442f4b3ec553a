-- Misplaced fill from the left: what is kept of the slots so far says the earliest one.
use Prim.Native.Nat.{ℕ, suc, ◌+◌, ◌-◌}
use native.Mathlib.Numerals.{add-one}
use native.Mathlib.Omega.{arith}
use mathlib.Core.Bool.{Bool, true, false, cond, ◌||◌, not}
use mathlib.Core.Path.{◌≡◌, refl, sym, ap, ◌∙◌}
use mathlib.Core.List.{List, [], ◌∷◌, ◌++◌, flat_map}
use lib.Dec.{eqb}
use borrow.Author.Tests.{eq-eqb, ne_eqb}
use Rattle.format.specs.Word.{is_fill, bus_of}
use Rattle.format.specs.Reader.{Slot}
use Rattle.format.specs.Group.{none, found}
use Rattle.format.specs.Read.{any_data, misplaced_in, misplaced}
use Rattle.format.specs.declared.Plan.{Plan}
use Rattle.format.specs.Laws.Tests.{clash, or_false}
use Rattle.data_run.specs.declared.fill.Fills.{Fills}
use Rattle.data_run.specs.Fills.{on_slot, or_place, fills_in, no_fill}
use Rattle.read_groups.specs.Misplaced.{fills_over, told, earliest}

pub yes_or_no : {A : Type 0} (b : Bool) → (b ≡ true → A) → (b ≡ false → A) → A
yes_or_no true y n = y refl
yes_or_no false y n = n refl

-- what a place one up tells
pub told_none : (m : ℕ) → m ≡ 0 → told m ≡ none
told_none m e = rw (eq-eqb m 0 e) refl

pub told_found : (m : ℕ) → (m ≡ 0 → ⊥) → told m ≡ found 14 (m - 1)
told_found m z = rw (ne_eqb m 0 z) refl

one_up : (a : ℕ) → eqb (suc a) 0 ≡ false
one_up a = ne_eqb (suc a) 0 (λ e. absurd (omega arith))

no_start : (i : ℕ) → eqb (i + 1) 0 ≡ false
no_start i = ne_eqb (i + 1) 0 (λ e. absurd (omega arith))

-- fill was seen first at a; the earliest that is misplaced so far is at b, each one up
abbrev saw : ℕ → ℕ → Fills
saw a b = record { first = a; misplaced = b }

abbrev flat : List (List Slot) → List Slot
flat gs = flat_map (λ (x : List Slot). x) gs

any_append : (ss ts : List Slot) → any_data (ss ++ ts) ≡ (any_data ss || any_data ts)
unfolding any_data
any_append [] ts = refl
any_append (s ∷ ss) ts = yes_or_no (is_fill s.1) (λ e. rw e (any_append ss ts)) (λ e. rw e refl)

any_flat : (ss : List Slot) (gs : List (List Slot)) → any_data (flat (ss ∷ gs)) ≡ (any_data ss || any_data (flat gs))
unfolding flat_map
any_flat ss gs = any_append ss (flat gs)

-- no data among the slots: each is fill, and so is what follows
only_fill : (s : Slot) (ss : List Slot) → any_data (s ∷ ss) ≡ false → (is_fill s.1 ≡ true) × (any_data ss ≡ false)
unfolding any_data
only_fill s ss h = yes_or_no (is_fill s.1) (λ e. (e, rw e at h)) (λ e. clash (sym (rw e at h)))

fill_data : (s : Slot) (ss : List Slot) → is_fill s.1 ≡ true → any_data (s ∷ ss) ≡ any_data ss
unfolding any_data
fill_data s ss e = rw e refl

no_data_in_none : {A : Type 0} → any_data [] ≡ true → A
unfolding any_data
no_data_in_none h = clash h

no_data_in_no_group : {A : Type 0} → any_data (flat []) ≡ true → A
unfolding any_data flat_map
no_data_in_no_group h = clash h

module _ (p : Plan) where
  -- the plan's fill is on this bus
  abbrev code : ℕ
  code = p.fill_bus

  -- the first fill of all stays the first
  step_first : (i : ℕ) (s : Slot) (a b : ℕ) → on_slot p.parity code i s (saw (suc a) b) ≡ saw (suc a) (on_slot p.parity code i s (saw (suc a) b)).misplaced
  step_first i s a b = yes_or_no (is_fill s.1) (λ e. rw (e, one_up a) refl) (λ e. rw e refl)

  in_first : (i : ℕ) (ss : List Slot) (a b : ℕ) → fills_in p.parity code i ss (saw (suc a) b) ≡ saw (suc a) (fills_in p.parity code i ss (saw (suc a) b)).misplaced
  unfolding fills_in
  in_first i [] a b = refl
  in_first i (s ∷ ss) a b =
      ap (fills_in p.parity code (i + 1) ss) (step_first i s a b) ∙ in_first (i + 1) ss a (on_slot p.parity code i s (saw (suc a) b)).misplaced
      ∙ ap (λ (f : Fills). saw (suc a) (fills_in p.parity code (i + 1) ss f).misplaced) (sym (step_first i s a b))

  -- a first fill that is misplaced is the answer
  step_kept : (i : ℕ) (s : Slot) (a : ℕ) → on_slot p.parity code i s (saw (suc a) (suc a)) ≡ saw (suc a) (suc a)
  step_kept i s a = rw (one_up a) (go (is_fill s.1) (eqb i 0 || not (eqb (bus_of p.parity s.1) code)))
    where
      go : (x y : Bool) → cond x (saw (suc a) (cond y (suc a) (suc a))) (saw (suc a) (suc a)) ≡ saw (suc a) (suc a)
      go true true = refl
      go true false = refl
      go false y = refl

  in_kept : (i : ℕ) (ss : List Slot) (a : ℕ) → fills_in p.parity code i ss (saw (suc a) (suc a)) ≡ saw (suc a) (suc a)
  unfolding fills_in
  in_kept i [] a = refl
  in_kept i (s ∷ ss) a = rw (step_kept i s a) (in_kept (i + 1) ss a)

  over_kept : (gs : List (List Slot)) (a : ℕ) → fills_over p gs (saw (suc a) (suc a)) ≡ saw (suc a) (suc a)
  unfolding fills_over
  over_kept [] a = refl
  over_kept (ss ∷ gs) a = rw (in_kept 0 ss a) (over_kept gs a)

  -- a data word behind any fill misplaces the first
  in_late : (i : ℕ) (ss : List Slot) (a b : ℕ) → any_data ss ≡ true → fills_in p.parity code i ss (saw (suc a) b) ≡ saw (suc a) (suc a)
  unfolding fills_in
  in_late i [] a b h = no_data_in_none h
  in_late i (s ∷ ss) a b h =
      yes_or_no (is_fill s.1)
      (λ e. rw (step_first i s a b) (in_late (i + 1) ss a (on_slot p.parity code i s (saw (suc a) b)).misplaced (sym (fill_data s ss e) ∙ h)))
      (λ e. rw e (in_kept (i + 1) ss a))

  over_late : (gs : List (List Slot)) (a b : ℕ) → any_data (flat gs) ≡ true → fills_over p gs (saw (suc a) b) ≡ saw (suc a) (suc a)
  unfolding fills_over
  over_late [] a b h = no_data_in_no_group h
  over_late (ss ∷ gs) a b h =
      yes_or_no (any_data ss) (λ e. rw (in_late 0 ss a b e) (over_kept gs a))
      (λ e. rw (in_first 0 ss a b) (over_late gs a (fills_in p.parity code 0 ss (saw (suc a) b)).misplaced (rw e at (sym (any_flat ss gs) ∙ h))))

  both_late : (i : ℕ) (ss : List Slot) (gs : List (List Slot)) (a b : ℕ) → (any_data ss || any_data (flat gs)) ≡ true
      → fills_over p gs (fills_in p.parity code i ss (saw (suc a) b)) ≡ saw (suc a) (suc a)
  both_late i ss gs a b h =
      yes_or_no (any_data ss) (λ e. rw (in_late i ss a b e) (over_kept gs a))
      (λ e. rw (in_first i ss a b) (over_late gs a (fills_in p.parity code i ss (saw (suc a) b)).misplaced (rw e at h)))

  -- with no data to come, what is misplaced stays so
  step_found : (i : ℕ) (s : Slot) (a b : ℕ) → is_fill s.1 ≡ true → on_slot p.parity code i s (saw (suc a) (suc b)) ≡ saw (suc a) (suc b)
  step_found i s a b e = rw (e, one_up a, one_up b) (go (eqb i 0 || not (eqb (bus_of p.parity s.1) code)))
    where
      go : (y : Bool) → saw (suc a) (cond y (suc b) (suc b)) ≡ saw (suc a) (suc b)
      go true = refl
      go false = refl

  in_found : (i : ℕ) (ss : List Slot) (a b : ℕ) → any_data ss ≡ false → fills_in p.parity code i ss (saw (suc a) (suc b)) ≡ saw (suc a) (suc b)
  unfolding fills_in
  in_found i [] a b h = refl
  in_found i (s ∷ ss) a b h = rw (step_found i s a b (only_fill s ss h).0) (in_found (i + 1) ss a b (only_fill s ss h).1)

  over_found : (gs : List (List Slot)) (a b : ℕ) → any_data (flat gs) ≡ false → fills_over p gs (saw (suc a) (suc b)) ≡ saw (suc a) (suc b)
  unfolding fills_over
  over_found [] a b h = refl
  over_found (ss ∷ gs) a b h =
      let d : (any_data ss ≡ false) × (any_data (flat gs) ≡ false) = or_false (any_data ss) (any_data (flat gs)) (sym (any_flat ss gs) ∙ h) in
      rw (in_found 0 ss a b d.0) (over_found gs a b d.1)

  both_found : (i : ℕ) (ss : List Slot) (gs : List (List Slot)) (a b : ℕ) → any_data ss ≡ false → any_data (flat gs) ≡ false
      → fills_over p gs (fills_in p.parity code i ss (saw (suc a) (suc b))) ≡ saw (suc a) (suc b)
  both_found i ss gs a b h k = rw (in_found i ss a b h) (over_found gs a b k)

  found_at : (a b : ℕ) → earliest (saw a (suc b)) ≡ found 14 b
  found_at a b =
      let e : suc b - 1 ≡ b = omega arith in
      told_found (suc b) (λ z. absurd (omega arith)) ∙ ap (found 14) e

  ends_found : (i : ℕ) (ss : List Slot) (gs : List (List Slot)) (a b : ℕ) (f : Fills) → f ≡ saw (suc a) (suc b) → any_data ss ≡ false
      → any_data (flat gs) ≡ false → earliest (fills_over p gs (fills_in p.parity code i ss f)) ≡ found 14 b
  ends_found i ss gs a b f e h k =
      ap (λ (g : Fills). earliest (fills_over p gs (fills_in p.parity code i ss g))) e ∙ ap earliest (both_found i ss gs a b h k) ∙ found_at (suc a) b

  ends_late : (i : ℕ) (ss : List Slot) (gs : List (List Slot)) (a b : ℕ) (f : Fills) → f ≡ saw (suc a) b
      → (any_data ss || any_data (flat gs)) ≡ true → earliest (fills_over p gs (fills_in p.parity code i ss f)) ≡ found 14 a
  ends_late i ss gs a b f e h =
      ap (λ (g : Fills). earliest (fills_over p gs (fills_in p.parity code i ss g))) e ∙ ap earliest (both_late i ss gs a b h) ∙ found_at (suc a) a

  -- fill where none was misplaced before: misplaced by its bus or at the start of its group, or not
  odd_step : (i : ℕ) (s : Slot) (a : ℕ) → is_fill s.1 ≡ true → (eqb i 0 || not (eqb (bus_of p.parity s.1) code)) ≡ true
      → on_slot p.parity code i s (saw a 0) ≡ saw (or_place a s.0) (suc s.0)
  odd_step i s a e o = rw (e, o, add-one s.0) refl

  even_step : (i : ℕ) (s : Slot) (a : ℕ) → is_fill s.1 ≡ true → (eqb i 0 || not (eqb (bus_of p.parity s.1) code)) ≡ false
      → on_slot p.parity code i s (saw a 0) ≡ saw (or_place a s.0) 0
  even_step i s a e o = rw (e, o) refl

  or_seen : (a place : ℕ) → or_place (suc a) place ≡ suc a
  or_seen a place = rw (one_up a) refl

  or_first : (place : ℕ) → or_place 0 place ≡ suc place
  or_first place = add-one place

  -- fill was seen, none is misplaced so far, and no data word is to come: its bus misplaces fill, or the start of a later group
  over_quiet : (gs : List (List Slot)) (a : ℕ) → any_data (flat gs) ≡ false → earliest (fills_over p gs (saw (suc a) 0)) ≡ misplaced p gs
  unfolding fills_over misplaced fills_in misplaced_in
  over_quiet [] a h = refl
  over_quiet ([] ∷ gs) a h = over_quiet gs a (or_false (any_data []) (any_data (flat gs)) (sym (any_flat [] gs) ∙ h)).1
  over_quiet ((s ∷ ss) ∷ gs) a h =
      let d : (any_data (s ∷ ss) ≡ false) × (any_data (flat gs) ≡ false) = or_false (any_data (s ∷ ss)) (any_data (flat gs)) (sym (any_flat (s ∷ ss) gs) ∙ h) in
      let f : (is_fill s.1 ≡ true) × (any_data ss ≡ false) = only_fill s ss d.0 in
      let e : on_slot p.parity code 0 s (saw (suc a) 0) ≡ saw (suc a) (suc s.0) = odd_step 0 s (suc a) f.0 refl ∙ ap (λ (x : ℕ). saw x (suc s.0)) (or_seen a s.0) in
      ends_found 1 ss gs a s.0 (on_slot p.parity code 0 s (saw (suc a) 0)) e f.1 d.1 ∙ rw (d.0, f.0, f.1, d.1) refl

  in_quiet : (i : ℕ) (ss : List Slot) (gs : List (List Slot)) (a : ℕ) → eqb i 0 ≡ false → any_data ss ≡ false → any_data (flat gs) ≡ false
      → earliest (fills_over p gs (fills_in p.parity code i ss (saw (suc a) 0))) ≡ misplaced_in p ss (flat gs) true (misplaced p gs)
  unfolding fills_in misplaced_in
  in_quiet i [] gs a z h k = over_quiet gs a k
  in_quiet i (s ∷ ss) gs a z h k =
      let f : (is_fill s.1 ≡ true) × (any_data ss ≡ false) = only_fill s ss h in
      yes_or_no (eqb (bus_of p.parity s.1) code)
      (λ b.
      let e : on_slot p.parity code i s (saw (suc a) 0) ≡ saw (suc a) 0 = even_step i s (suc a) f.0 (rw (z, b) refl) ∙ ap (λ (x : ℕ). saw x 0) (or_seen a s.0) in
      rw (e, f.0, f.1, k, b) (in_quiet (i + 1) ss gs a (no_start i) f.1 k))
      (λ b.
      let e : on_slot p.parity code i s (saw (suc a) 0) ≡ saw (suc a) (suc s.0) = odd_step i s (suc a) f.0 (rw (z, b) refl) ∙ ap (λ (x : ℕ). saw x (suc s.0)) (or_seen a s.0) in
      ends_found (i + 1) ss gs a s.0 (on_slot p.parity code i s (saw (suc a) 0)) e f.1 k ∙ rw (f.0, f.1, k, b) refl)

  -- the first fill of all, with a data word behind it, or none
  first_late : (i : ℕ) (s : Slot) (ss : List Slot) (gs : List (List Slot)) (near : Bool) → is_fill s.1 ≡ true
      → (any_data ss || any_data (flat gs)) ≡ true
      → earliest (fills_over p gs (fills_in p.parity code i (s ∷ ss) no_fill)) ≡ misplaced_in p (s ∷ ss) (flat gs) near (misplaced p gs)
  unfolding fills_in misplaced_in
  first_late i s ss gs near e h =
      let f : on_slot p.parity code i s no_fill ≡ saw (suc s.0) (on_slot p.parity code i s no_fill).misplaced = rw (e, add-one s.0) refl in
      ends_late (i + 1) ss gs s.0 (on_slot p.parity code i s no_fill).misplaced (on_slot p.parity code i s no_fill) f h
      ∙ rw (e, h) refl

  first_odd : (i : ℕ) (s : Slot) (ss : List Slot) (gs : List (List Slot)) (near : Bool) → is_fill s.1 ≡ true
      → any_data ss ≡ false → any_data (flat gs) ≡ false → (eqb i 0 || not (eqb (bus_of p.parity s.1) code)) ≡ true
      → (not near || not (eqb (bus_of p.parity s.1) code)) ≡ true
      → earliest (fills_over p gs (fills_in p.parity code i (s ∷ ss) no_fill)) ≡ misplaced_in p (s ∷ ss) (flat gs) near (misplaced p gs)
  unfolding fills_in misplaced_in
  first_odd i s ss gs near e h k o q =
      let f : on_slot p.parity code i s no_fill ≡ saw (suc s.0) (suc s.0) = odd_step i s 0 e o ∙ ap (λ (x : ℕ). saw x (suc s.0)) (or_first s.0) in
      ends_found (i + 1) ss gs s.0 s.0 (on_slot p.parity code i s no_fill) f h k ∙ rw (e, h, k, q) refl

  first_even : (i : ℕ) (s : Slot) (ss : List Slot) (gs : List (List Slot)) → is_fill s.1 ≡ true
      → any_data ss ≡ false → any_data (flat gs) ≡ false → eqb i 0 ≡ false → eqb (bus_of p.parity s.1) code ≡ true
      → earliest (fills_over p gs (fills_in p.parity code i (s ∷ ss) no_fill)) ≡ misplaced_in p (s ∷ ss) (flat gs) true (misplaced p gs)
  unfolding fills_in misplaced_in
  first_even i s ss gs e h k z b =
      let f : on_slot p.parity code i s no_fill ≡ saw (suc s.0) 0 = even_step i s 0 e (rw (z, b) refl) ∙ ap (λ (x : ℕ). saw x 0) (or_first s.0) in
      ap (λ (g : Fills). earliest (fills_over p gs (fills_in p.parity code (i + 1) ss g))) f ∙ rw (e, h, k, b) (in_quiet (i + 1) ss gs s.0 (no_start i) h k)

  -- behind a data word of the group
  in_plain : (i : ℕ) (ss : List Slot) (gs : List (List Slot)) → eqb i 0 ≡ false → earliest (fills_over p gs no_fill) ≡ misplaced p gs
      → earliest (fills_over p gs (fills_in p.parity code i ss no_fill)) ≡ misplaced_in p ss (flat gs) true (misplaced p gs)
  unfolding fills_in misplaced_in
  in_plain i [] gs z rest = rest
  in_plain i (s ∷ ss) gs z rest =
      yes_or_no (is_fill s.1)
      (λ e.
      yes_or_no (any_data ss || any_data (flat gs)) (λ h. first_late i s ss gs true e h)
      (λ h.
      let d : (any_data ss ≡ false) × (any_data (flat gs) ≡ false) = or_false (any_data ss) (any_data (flat gs)) h in
      yes_or_no (eqb (bus_of p.parity s.1) code) (λ b. first_even i s ss gs e d.0 d.1 z b)
      (λ b. first_odd i s ss gs true e d.0 d.1 (rw (z, b) refl) (rw b refl))))
      (λ e. rw e (in_plain (i + 1) ss gs (no_start i) rest))

  -- from the start of a group
  group_plain : (ss : List Slot) (gs : List (List Slot)) → earliest (fills_over p gs no_fill) ≡ misplaced p gs
      → earliest (fills_over p gs (fills_in p.parity code 0 ss no_fill)) ≡ misplaced_in p ss (flat gs) (any_data ss || any_data (flat gs)) (misplaced p gs)
  unfolding fills_in misplaced_in any_data
  group_plain [] gs rest = rest
  group_plain (s ∷ ss) gs rest =
      yes_or_no (is_fill s.1)
      (λ e.
      yes_or_no (any_data ss || any_data (flat gs)) (λ h. first_late 0 s ss gs (any_data (s ∷ ss) || any_data (flat gs)) e h)
      (λ h.
      let d : (any_data ss ≡ false) × (any_data (flat gs) ≡ false) = or_false (any_data ss) (any_data (flat gs)) h in
      first_odd 0 s ss gs (any_data (s ∷ ss) || any_data (flat gs)) e d.0 d.1 refl (rw (e, h) refl)))
      (λ e. rw e (in_plain 1 ss gs refl rest))

  -- what is kept over the slots of all groups says the earliest misplaced fill
  pub fills_say_misplaced : (gs : List (List Slot)) → earliest (fills_over p gs no_fill) ≡ misplaced p gs
  unfolding fills_over misplaced
  fills_say_misplaced [] = refl
  fills_say_misplaced (ss ∷ gs) = group_plain ss gs (fills_say_misplaced gs)
