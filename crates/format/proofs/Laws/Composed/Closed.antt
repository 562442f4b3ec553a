-- A composed capture has no misplaced fill.
use Prim.Native.Nat.{ℕ, zero, suc, ◌+◌, ◌*◌, ◌/◌, ◌-◌, ◌<◌, ◌≤◌}
use Rattle.std.proofs.Common.{div-lt_iff_lt-mul, mod-lt, div-add-mod', mul-le-mul_right, ◌∙◌, eq-eqb}
use native.Mathlib.Omega.{arith}
use Rattle.std.specs.Prelude.{Bool, true, false, ◌≡◌, get_or}
use Rattle.std.proofs.Math.Path.{refl}
use mathlib.Core.List.{List, [], ◌∷◌, flat_map}
use Rattle.std.proofs.Math.ListN.{length, drop, length-drop}
use Rattle.format.specs.Word.{word_at, sent, fill}
use Rattle.format.specs.Plan.{lead, slots, group_words, place_of}
use Rattle.format.specs.Reader.{Slot}
use Rattle.format.specs.Lawful.{buses}
use Rattle.format.specs.Lists.{list, All, nil, cons}
use Rattle.format.specs.Group.{group_slots, Fault, none}
use Rattle.format.specs.Compose.{capture_of, groups_for}
use Rattle.format.specs.Read.{any_data, misplaced_in, misplaced}
use Rattle.format.specs.Laws.Lists.{all_drop}
use Rattle.format.proofs.Laws.Composed.Slots.{IsData, slot_at}
use Rattle.format.specs.Laws.Word.Parts.{fill_sent, fill_bus}
use Rattle.format.specs.Laws.Tests.{later}
use Rattle.format.specs.declared.Plan.{Plan}

-- slots that hold the words xs and then fill
abbrev Filled : Bool → ℕ → (ℕ → Slot) → ℕ → ℕ → List ℕ → Type 0
Filled parity b f n a xs = (i : ℕ) → i < n → (f (a + i)).1 ≡ sent parity (get_or xs i (fill b))

filled_first : (parity : Bool) (b : ℕ) (f : ℕ → Slot) (n a : ℕ) (xs : List ℕ) → Filled parity b f (suc n) a xs → (f a).1 ≡ sent parity (get_or xs 0 (fill b))
filled_first parity b f n a xs e =
    let z : a + 0 ≡ a = omega arith in
    rw z at (e 0 (omega arith))

filled_next : (parity : Bool) (b : ℕ) (f : ℕ → Slot) (n a : ℕ) (x : ℕ) (xs : List ℕ) → Filled parity b f (suc n) a (x ∷ xs) → Filled parity b f n (a + 1) xs
filled_next parity b f n a x xs e i l = rw (later a i) (e (suc i) (omega arith))

filled_none : (parity : Bool) (b : ℕ) (f : ℕ → Slot) (n a : ℕ) → Filled parity b f (suc n) a [] → Filled parity b f n (a + 1) []
filled_none parity b f n a e i l = rw (later a i) (e (suc i) (omega arith))

no_data : (parity : Bool) (b : ℕ) → b < buses parity → (f : ℕ → Slot) (n a : ℕ) → Filled parity b f n a [] → any_data (list f a n) ≡ false
unfolding any_data list
no_data parity b k f zero a e = refl
no_data parity b k f (suc n) a e = rw (filled_first parity b f n a [] e, fill_sent parity b k) (no_data parity b k f n (a + 1) (filled_none parity b f n a e))

some_data : (parity : Bool) (b : ℕ) (f : ℕ → Slot) (n a : ℕ) (xs : List ℕ) → All (IsData parity) xs → 1 ≤ n → 1 ≤ length xs → Filled parity b f n a xs → any_data (list f a n) ≡ true
unfolding any_data list
some_data parity b f zero a xs w h l e = absurd (omega arith)
some_data parity b f (suc n) a [] w h l e = absurd (omega arith)
some_data parity b f (suc n) a (x ∷ xs) (cons w ws) h l e = rw (filled_first parity b f n a (x ∷ xs) e, w)

-- fill behind the data, in the last group that has any
in_place : (p : Plan) → p.fill_bus < buses p.parity → (f : ℕ → Slot) (n a : ℕ) (xs : List ℕ) (behind : List Slot) (rest : Fault) → All (IsData p.parity) xs → Filled p.parity p.fill_bus f n a xs
    → (length xs < n → any_data behind ≡ false) → misplaced_in p (list f a n) behind true rest ≡ rest
unfolding misplaced_in list
in_place p k f zero a xs behind rest w e z = refl
in_place p k f (suc n) a [] behind rest w e z =
    rw (filled_first p.parity p.fill_bus f n a [] e, fill_sent p.parity p.fill_bus k, fill_bus p.parity p.fill_bus k, eq-eqb p.fill_bus p.fill_bus refl, no_data p.parity p.fill_bus k f n (a + 1) (filled_none p.parity p.fill_bus f n a e), z (omega arith))
    (in_place p k f n (a + 1) [] behind rest nil (filled_none p.parity p.fill_bus f n a e) (λ l. z (omega arith)))
in_place p k f (suc n) a (x ∷ xs) behind rest (cons w ws) e z =
    rw (filled_first p.parity p.fill_bus f n a (x ∷ xs) e, w)
    (in_place p k f n (a + 1) xs behind rest ws (filled_next p.parity p.fill_bus f n a x xs e) (λ l. z (omega arith)))

-- the fewest groups: all but the last are full, and the last is not empty
fewest : (n k g : ℕ) → 1 ≤ k → g < (n + k - 1) / k → g * k < n
fewest n k g h l = omega (arith, div-add-mod' (n + k - 1) k, mod-lt (n + k - 1) h, mul-le-mul_right k l)

full : (n k g : ℕ) → 1 ≤ k → n < (g + 1) * k → (n + k - 1) / k ≤ g + 1
full n k g h l =
    let a : n + k - 1 < (g + 2) * k = omega arith in
    let b : (n + k - 1) / k < g + 2 = (div-lt_iff_lt-mul h).1 a in
    omega arith

module _ (p : Plan) (long : 2 ≤ p.words) (some : 1 ≤ p.tracks) (free : 1 ≤ slots p) (filling : p.fill_bus < buses p.parity) (times ws : List ℕ) (data' : All (IsData p.parity) ws) where
  abbrev c : List ℕ
  c = capture_of p times ws

  abbrev at : ℕ → ℕ → Slot
  at g s = (g * group_words p + place_of p s, word_at c (g * group_words p + place_of p s))

  has_data : (g : ℕ) → g < groups_for p (length ws) → 1 ≤ length (drop (g * slots p) ws)
  unfolding groups_for
  has_data g h = simp length-drop (omega (arith, fewest (length ws) (slots p) g free h))

  nothing_behind : (m g : ℕ) → g + suc m ≡ groups_for p (length ws) → length (drop (g * slots p) ws) < slots p
      → any_data (flat_map (λ (x : List Slot). x) (list (λ g. group_slots p c (g * group_words p)) (g + 1) m)) ≡ false
  unfolding groups_for list flat_map any_data
  nothing_behind zero g e l = refl
  nothing_behind (suc m) g e l =
      let l2 : length ws - g * slots p < slots p = rw (length-drop (g * slots p) ws) at l in
      absurd (omega (arith, full (length ws) (slots p) g free (omega arith)))

  groups_in_place : (m g : ℕ) → g + m ≡ groups_for p (length ws) → misplaced p (list (λ g. group_slots p c (g * group_words p)) g m) ≡ none
  unfolding misplaced list group_slots
  groups_in_place zero g e = refl
  groups_in_place (suc m) g e =
      let h : g < groups_for p (length ws) = omega arith in
      let xs : List ℕ = drop (g * slots p) ws in
      let w : All (IsData p.parity) xs = all_drop (g * slots p) data' in
      let f : Filled p.parity p.fill_bus (at g) (slots p) (lead p) xs = λ i l. slot_at p long some filling times ws data' g i h l in
      rw (some_data p.parity p.fill_bus (at g) (slots p) (lead p) xs w free (has_data g h) f)
      (in_place p filling (at g) (slots p) (lead p) xs _ _ w f (nothing_behind m g e) ∙ groups_in_place m (g + 1) (omega arith))

  -- no fill is misplaced
  pub composed_closed : misplaced p (list (λ g. group_slots p c (g * group_words p)) 0 (groups_for p (length ws))) ≡ none
  composed_closed = groups_in_place (groups_for p (length ws)) 0 (omega arith)
