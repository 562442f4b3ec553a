-- A row that is being dealt: the tracks before `t` whole, and of the track `t` the words before the position `j`.
use Prim.Native.Nat.{ℕ, ◌+◌, ◌*◌, ◌-◌, ◌/◌, ◌%◌, ◌≤◌, ◌<◌}
use native.Mathlib.Omega.{arith}
use native.Mathlib.Nat.{add-mul-div_right, add-mul-mod_self_right, mod-eq_of_lt, div-eq_of_lt, div-add-mod', mod-lt, mul-le-mul_right, div-lt_iff_lt-mul}
use native.Mathlib.Decide.{dec_lt}
use mathlib.Core.Path.{◌≡◌, refl, sym, ap, ap₂, ◌∙◌}
use mathlib.Core.List.{List, ◌++◌}
use lib.ListN.{length, get_or, set, drop, length-set, length-drop}
use lib.Seq.{get_or-set_same, get_or-set_other, get_or-drop}
use Rattle.format.specs.Lists.{list}
use Rattle.format.specs.Laws.Lists.{list_is, list_same, list_split}
use Rattle.format.specs.Word.{word_at}
use Rattle.format.specs.Plan.{rows, place_of}
use Rattle.format.specs.declared.Plan.{Plan}
use Rattle.group_read.specs.Row.{dealt_count, slot_of, dealt_words}

-- ---- where a word stands in the row

slot_track : (T u r : ℕ) → u < T → (r * T + u) % T ≡ u
slot_track T u r h = let z : r * T + u ≡ u + r * T = omega arith in ap (λ (n : ℕ). n % T) z ∙ add-mul-mod_self_right u r T ∙ mod-eq_of_lt h

slot_row : (T u r : ℕ) → u < T → (r * T + u) / T ≡ r
slot_row T u r h =
    let z : r * T + u ≡ u + r * T = omega arith in
    ap (λ (n : ℕ). n / T) z ∙ add-mul-div_right u r (omega arith) ∙ rw (div-eq_of_lt h) (omega arith)

-- another track, or another row, is another place
other_track : (T u v r q : ℕ) → u < T → v < T → u < v → r * T + u ≡ q * T + v → ⊥
other_track T u v r q h k l e =
    let z : u ≡ v = sym (slot_track T u r h) ∙ ap (λ (n : ℕ). n % T) e ∙ slot_track T v q k in
    absurd (omega arith)

other_row : (T u r q : ℕ) → u < T → r < q → r * T + u ≡ q * T + u → ⊥
other_row T u r q h l e =
    let z : r ≡ q = sym (slot_row T u r h) ∙ ap (λ (n : ℕ). n / T) e ∙ slot_row T u q h in
    absurd (omega arith)

slot_within : (p : Plan) (t r : ℕ) → t < p.tracks → r < rows p → slot_of p t r < dealt_count p
slot_within p t r h k =
    let m : (r + 1) * p.tracks ≤ rows p * p.tracks = mul-le-mul_right p.tracks (omega arith) in
    omega (arith, m)

pub slot_below : (p : Plan) (t j slot : ℕ) → t < p.tracks → 1 ≤ j → j ≤ rows p → slot ≡ slot_of p t (j - 1) → slot < dealt_count p
slot_below p t j slot h l k e = let m = slot_within p t (j - 1) h (omega arith) in omega arith

pub slot_next : (p : Plan) (t j slot : ℕ) → 1 ≤ j → slot ≡ slot_of p t (j - 1) → slot + p.tracks ≡ slot_of p t (j + 1 - 1)
slot_next p t j slot l e =
    let z : j + 1 - 1 ≡ j - 1 + 1 = omega arith in
    let y : slot + p.tracks ≡ (j - 1 + 1) * p.tracks + t = omega arith in
    y ∙ ap (slot_of p t) (sym z)

-- ---- the row

pub record Dealing (p : Plan) (g old row : List ℕ) (t j : ℕ) : Type 0 where
  pub long : length row ≡ length old
  pub behind : (i : ℕ) → dealt_count p ≤ i → get_or row i 0 ≡ get_or old i 0
  pub done : (u r : ℕ) → u < t → r < rows p → get_or row (slot_of p u r) 0 ≡ word_at g (u * p.words + (r + 1))
  pub here : (r : ℕ) → r + 1 < j → get_or row (slot_of p t r) 0 ≡ word_at g (t * p.words + (r + 1))

module _ (p : Plan) (g old : List ℕ) where
  pub deal_start : Dealing p g old old 0 1
  deal_start = record { long = refl; behind = λ i h. refl; done = λ u r h k. absurd (omega arith); here = λ r h. absurd (omega arith) }

  pub deal_more : (row : List ℕ) (t j slot w : ℕ) → Dealing p g old row t j → t < p.tracks → 1 ≤ j → j ≤ rows p → dealt_count p ≤ length old
      → slot ≡ slot_of p t (j - 1) → w ≡ word_at g (t * p.words + j) → Dealing p g old (set row slot w) t (j + 1)
  deal_more row t j slot w d h l k n e z =
      let within : slot < dealt_count p = slot_below p t j slot h l k e in
      record {
        long = length-set row slot w ∙ d.long;
        behind = λ i m. get_or-set_other row slot i w 0 (λ x. absurd (omega arith)) ∙ d.behind i m;
        done = λ u r m o. get_or-set_other row slot (slot_of p u r) w 0 (λ x. other_track p.tracks u t r (j - 1) (omega arith) h m (x ∙ e)) ∙ d.done u r m o;
        here = λ r m. go within r m (dec_lt (r + 1) j);
      }
    where
      go : slot < dealt_count p → (r : ℕ) → r + 1 < j + 1 → Dec (r + 1 < j) → get_or (set row slot w) (slot_of p t r) 0 ≡ word_at g (t * p.words + (r + 1))
      go within r m (yes a) = get_or-set_other row slot (slot_of p t r) w 0 (λ x. other_row p.tracks t r (j - 1) h (omega arith) (x ∙ e)) ∙ d.here r a
      go within r m (no a) =
          let x : r + 1 ≡ j = omega arith in
          let y : r ≡ j - 1 = omega arith in
          let s : slot_of p t r ≡ slot = ap (slot_of p t) y ∙ sym e in
          let o : slot < length row = omega (arith, d.long) in
          ap (λ (i : ℕ). get_or (set row slot w) i 0) s ∙ get_or-set_same row slot w 0 o ∙ z ∙ ap (λ (i : ℕ). word_at g (t * p.words + i)) (sym x)

  -- the track's last word is dealt
  pub deal_track : (row : List ℕ) (t j : ℕ) → Dealing p g old row t j → rows p < j → Dealing p g old row (t + 1) 1
  deal_track row t j d h = record { long = d.long; behind = d.behind; done = λ u r m o. go u r m o (dec_lt u t); here = λ r m. absurd (omega arith) }
    where
      go : (u r : ℕ) → u < t + 1 → r < rows p → Dec (u < t) → get_or row (slot_of p u r) 0 ≡ word_at g (u * p.words + (r + 1))
      go u r m o (yes a) = d.done u r a o
      go u r m o (no a) =
          let x : t ≡ u = omega arith in
          rw x at (d.here r (omega arith))

  -- behind the dealt words the row is as it was
  module _ (row : List ℕ) (t j : ℕ) (d : Dealing p g old row t j) where
    rest_from : list (λ i. get_or row i 0) (dealt_count p) (length (drop (dealt_count p) old)) ≡ drop (dealt_count p) old
    rest_from = list_is (λ i. get_or row i 0) (drop (dealt_count p) old) (dealt_count p) (λ i h. d.behind (dealt_count p + i) (omega arith) ∙ sym (get_or-drop (dealt_count p) old i 0))

    pub deal_behind : drop (dealt_count p) row ≡ drop (dealt_count p) old
    deal_behind =
        let e : length (drop (dealt_count p) row) ≡ length (drop (dealt_count p) old) =
        length-drop (dealt_count p) row ∙ ap (λ (n : ℕ). n - dealt_count p) d.long ∙ sym (length-drop (dealt_count p) old) in
        sym (list_is (λ i. get_or row i 0) (drop (dealt_count p) row) (dealt_count p) (λ i h. sym (get_or-drop (dealt_count p) row i 0)))
        ∙ ap (list (λ i. get_or row i 0) (dealt_count p)) e ∙ rest_from

    -- all tracks: every dealt word stands at its number
    at_number : p.tracks ≤ t → 1 ≤ p.tracks → (s : ℕ) → s < dealt_count p → get_or row s 0 ≡ word_at g (place_of p s)
    unfolding place_of
    at_number h i s l =
        let m : s % p.tracks < p.tracks = mod-lt s i in
        let k : s / p.tracks < rows p = let x : s < rows p * p.tracks = omega arith in (div-lt_iff_lt-mul i).1 x in
        let w : s / p.tracks * p.tracks + s % p.tracks ≡ s = div-add-mod' s p.tracks in
        let o : s % p.tracks * p.words + (s / p.tracks + 1) ≡ s % p.tracks * p.words + s / p.tracks + 1 = omega arith in
        ap (λ (n : ℕ). get_or row n 0) (sym w) ∙ d.done (s % p.tracks) (s / p.tracks) (omega arith) k ∙ ap (word_at g) o

    pub deal_over : p.tracks ≤ t → 1 ≤ p.tracks → dealt_count p ≤ length old → row ≡ dealt_words p g ++ drop (dealt_count p) old
    unfolding dealt_words
    deal_over h i n =
        let f : ℕ → ℕ = λ i. get_or row i 0 in
        let m : ℕ = length (drop (dealt_count p) old) in
        let z : 0 + dealt_count p ≡ dealt_count p = omega arith in
        let e : length row ≡ dealt_count p + m = let x : m ≡ length old - dealt_count p = length-drop (dealt_count p) old in omega (arith, d.long) in
        sym (list_is f row 0 (λ i h. let y : 0 + i ≡ i = omega arith in ap f y))
        ∙ ap (list f 0) e ∙ list_split f 0 (dealt_count p) m
        ∙ ap₂ (λ (a b : List ℕ). a ++ b)
        (list_same f (λ s. word_at g (place_of p s)) (dealt_count p) 0 0
        (λ s l. let y : 0 + s ≡ s = omega arith in ap f y ∙ at_number h i s l ∙ ap (λ (x : ℕ). word_at g (place_of p x)) (sym y)))
        (ap (λ (x : ℕ). list f x m) z ∙ rest_from)

  -- two words of a track at once
  pub deal_two : (row : List ℕ) (t j slot one two : ℕ) → Dealing p g old row t j → t < p.tracks → 1 ≤ j → j < rows p → dealt_count p ≤ length old
      → slot ≡ slot_of p t (j - 1) → one ≡ word_at g (t * p.words + j) → two ≡ word_at g (t * p.words + j + 1)
      → Dealing p g old (set (set row slot one) (slot + p.tracks) two) t (j + 2)
  deal_two row t j slot one two d h l k n x e f =
      let z : j + 1 + 1 ≡ j + 2 = omega arith in
      let y : t * p.words + j + 1 ≡ t * p.words + (j + 1) = omega arith in
      let a : Dealing p g old (set row slot one) t (j + 1) = deal_more row t j slot one d h l (omega arith) n x e in
      rw z at (deal_more (set row slot one) t (j + 1) (slot + p.tracks) two a h (omega arith) (omega arith) n (slot_next p t j slot l x) (f ∙ ap (word_at g) y))
