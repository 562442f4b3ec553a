-- One frame of a group, the group being all there is: its words before a position have no fault and are summed.
use Prim.Native.Nat.{ℕ, ◌+◌, ◌*◌, ◌-◌, ◌≤◌, ◌<◌}
use native.Mathlib.Omega.{arith}
use mathlib.Core.Path.{◌≡◌, refl, sym, ap, subst, ◌∙◌}
use mathlib.Core.Bool.{Bool, true, false, cond, not, ◌&&◌, ◌||◌}
use mathlib.Core.List.{List, [], ◌∷◌}
use lib.Dec.{eqb}
use borrow.Author.Tests.{eq-eqb, ne_eqb}
use Rattle.format.specs.Word.{is_odd, word_at, sync}
use Rattle.format.specs.Plan.{rows}
use Rattle.format.specs.Group.{found, group_fault}
use Rattle.format.specs.Laws.Limits.{Shape, rows_checked, rows_plain, rows_under}
use Rattle.format.specs.declared.Plan.{Plan}
use Rattle.crc.specs.Running.{next_check}
use Rattle.crc.specs.Sum.{Small, Sums, Summed, check_of_sum}
use Rattle.crc.specs.declared.Sum.{Sum}
use Rattle.crc.proofs.Sums.{check_none, summed_one, summed_two}
use Rattle.group_read.specs.Faults.{number_unless, earlier_number, word_number, last_number, even_place}
use Rattle.group_read.specs.Row.{slot_of}
use Rattle.group_read.proofs.Dealing.{Dealing}
use Rattle.group_read.proofs.Search as search
use Rattle.group_read.proofs.Search.{check_so_far, check_of_sync, check_of_more, check_of_two, not_both, both_odd, rest_of_tracks, rest_of_track, track_over}

-- of the track t, the words before the position j have no fault; `slot` is where the next one is dealt to
pub record Inside (p : Plan) (g : List ℕ) (t j slot : ℕ) (s : Sum) : Type 0 where
  pub track : t < p.tracks
  pub past : 1 ≤ j
  pub within : j ≤ rows p + 1
  pub slot_is : slot ≡ slot_of p t (j - 1)
  pub small : Small s
  pub check : check_of_sum s ≡ check_so_far p.crc g (t * p.words) j
  pub fault : group_fault p g 0 ≡ rest_of_track p g 0 t j

-- ---- a word's number by whether it is dealt

earlier_none : (odd : Bool) → earlier_number (number_unless odd 10) 0 ≡ number_unless odd 10
earlier_none true = refl
earlier_none false = refl

not_due : (parity due : Bool) (label r w : ℕ) → due ≡ false → word_number parity due label r w ≡ number_unless (not parity || is_odd w) 10
unfolding word_number
not_due parity due label r w e = rw e (earlier_none (not parity || is_odd w))

no_check_word : (crc : Bool) (p : Plan) (j : ℕ) → p.crc ≡ crc → Shape p → j ≤ rows p → (p.crc && eqb (j + 1) p.words) ≡ false
no_check_word true p j e h l = rw (e, ne_eqb (j + 1) p.words (λ z. omega (arith, rows_checked p h e)))
no_check_word false p j e h l = rw e

-- "10 for any other": a dealt word's number
dealt_number : (p : Plan) (j r w : ℕ) {number : ℕ} → Shape p → j ≤ rows p → number ≡ number_unless (not p.parity || is_odd w) 10
    → number ≡ word_number p.parity (p.crc && eqb (j + 1) p.words) p.crc_label r w
dealt_number p j r w h l e = e ∙ sym (not_due p.parity (p.crc && eqb (j + 1) p.words) p.crc_label r w (no_check_word p.crc p j refl h l))

second_even : (parity a b : Bool) → (not parity || a && b) ≡ false → (not parity || a) ≡ true → (not parity || b) ≡ false
second_even true true b e o = e
second_even true false b e o = absurd (not_both o refl)
second_even false a b e o = absurd (not_both refl e)

-- ---- the search of a group that stands at 0

module _ (p : Plan) (g : List ℕ) (t : ℕ) (h : Shape p) (l : t < p.tracks) where
  from_0 : 0 + t * p.words ≡ t * p.words
  from_0 = omega arith

  some_words : 0 < p.words
  some_words = omega (arith, h.words_least)

  module _ {w y : ℕ} (e : w ≡ word_at g (t * p.words)) (z : y ≡ sync) where
    here : w ≡ word_at g (0 + t * p.words)
    here = e ∙ ap (word_at g) (sym from_0)

    pub sync_bad : (w ≡ y → ⊥) → rest_of_tracks p g 0 t ≡ found 9 (t * p.words)
    sync_bad n = search.sync_bad p g 0 t l some_words here z n ∙ ap (found 9) from_0

    sync_good : w ≡ y → rest_of_tracks p g 0 t ≡ rest_of_track p g 0 t 1
    sync_good n = search.sync_good p g 0 t l some_words here z n

    -- the sync word is right
    pub inside_sync : {o s : Sum} → group_fault p g 0 ≡ rest_of_tracks p g 0 t → w ≡ y → Sums [] o → Summed p.crc o (w ∷ []) s → Inside p g t 1 t s
    inside_sync {o} {s} f n a b = record {
      track = l;
      past = omega arith;
      within = omega arith;
      slot_is = omega arith;
      small = b.small;
      check = check_of_sync p.crc g (t * p.words) e (summed_one p.crc b ∙ ap (λ (r : ℕ). cond p.crc (next_check r w) r) (check_none a));
      fault = f ∙ sync_good n;
    }

  module _ (j check word number : ℕ) (low : 1 ≤ j) (i : j < p.words) (e : check ≡ check_so_far p.crc g (t * p.words) j)
      (z : word ≡ word_at g (t * p.words + j)) (s : number ≡ word_number p.parity (p.crc && eqb (j + 1) p.words) p.crc_label check word) where
    check_here : check ≡ check_so_far p.crc g (0 + t * p.words) j
    check_here = e ∙ ap (λ (n : ℕ). check_so_far p.crc g n j) (sym from_0)

    word_here : word ≡ word_at g (0 + t * p.words + j)
    word_here = z ∙ ap (λ (n : ℕ). word_at g (n + j)) (sym from_0)

    word_bad : (number ≡ 0 → ⊥) → rest_of_track p g 0 t j ≡ found number (t * p.words + j)
    word_bad n = search.word_bad p g 0 t j check word number low i check_here word_here s n ∙ ap (λ (x : ℕ). found number (x + j)) from_0

    word_good : number ≡ 0 → rest_of_track p g 0 t j ≡ rest_of_track p g 0 t (j + 1)
    word_good n = search.word_good p g 0 t j check word number low i check_here word_here s n

  -- a dealt word, by its parity
  module _ (j w : ℕ) (low : 1 ≤ j) (i : j ≤ rows p) (z : w ≡ word_at g (t * p.words + j)) where
    abbrev so_far : ℕ
    so_far = check_so_far p.crc g (t * p.words) j

    odd_at : {number : ℕ} → number ≡ number_unless (not p.parity || is_odd w) 10 → number ≡ 0 → rest_of_track p g 0 t j ≡ rest_of_track p g 0 t (j + 1)
    odd_at {number} o n = word_good j so_far w number low (omega (arith, rows_under p h)) refl z (dealt_number p j so_far w h i o) n

    even_at : {number : ℕ} → number ≡ number_unless (not p.parity || is_odd w) 10 → (number ≡ 0 → ⊥) → rest_of_track p g 0 t j ≡ found number (t * p.words + j)
    even_at {number} o n = word_bad j so_far w number low (omega (arith, rows_under p h)) refl z (dealt_number p j so_far w h i o) n

    odd_word : (not p.parity || is_odd w) ≡ true → rest_of_track p g 0 t j ≡ rest_of_track p g 0 t (j + 1)
    odd_word o = odd_at {number = 0} (sym (ap (λ (x : Bool). number_unless x 10) o)) refl

    even_word : (not p.parity || is_odd w) ≡ false → rest_of_track p g 0 t j ≡ found 10 (t * p.words + j)
    even_word o = even_at {number = 10} (sym (ap (λ (x : Bool). number_unless x 10) o)) (λ x. absurd (omega arith))

-- ---- from position to position

module _ (p : Plan) (g : List ℕ) (h : Shape p) {t j slot : ℕ} {s : Sum} (a : Inside p g t j slot s) where
  abbrev first : ℕ
  first = t * p.words

  -- two dealt words
  module _ (one two : ℕ) (l : j < rows p) (e : one ≡ word_at g (first + j)) (f : two ≡ word_at g (first + j + 1)) where
    behind : two ≡ word_at g (first + (j + 1))
    behind = let z : first + j + 1 ≡ first + (j + 1) = omega arith in f ∙ ap (word_at g) z

    two_good : (not p.parity || is_odd one && is_odd two) ≡ true → rest_of_track p g 0 t j ≡ rest_of_track p g 0 t (j + 2)
    two_good o =
        let b = both_odd p.parity (is_odd one) (is_odd two) o in
        let z : j + 1 + 1 ≡ j + 2 = omega arith in
        odd_word p g t h a.track j one a.past (omega arith) e b.0
        ∙ odd_word p g t h a.track (j + 1) two (omega arith) (omega arith) behind b.1
        ∙ ap (rest_of_track p g 0 t) z

    pub inside_two : {r : Sum} → (not p.parity || is_odd one && is_odd two) ≡ true → Summed p.crc s (one ∷ two ∷ []) r
        → Inside p g t (j + 2) (slot + 2 * p.tracks) r
    inside_two {r} o b = record {
      track = a.track;
      past = omega arith;
      within = omega arith;
      slot_is = two_further p.tracks t j slot a.past a.slot_is;
      small = b.small;
      check = check_of_two p.crc g first j e behind a.check (summed_two p.crc b);
      fault = a.fault ∙ two_good o;
    }
      where
        two_further : (T t j slot : ℕ) → 1 ≤ j → slot ≡ (j - 1) * T + t → slot + 2 * T ≡ (j + 2 - 1) * T + t
        two_further T t j slot l e =
            let z : j + 2 - 1 ≡ j - 1 + 2 = omega arith in
            let y : slot + 2 * T ≡ (j - 1 + 2) * T + t = omega arith in
            y ∙ ap (λ (r : ℕ). r * T + t) (sym z)

    -- the first of them that is even
    pub inside_even : {q : ℕ} → (not p.parity || is_odd one && is_odd two) ≡ false → q ≡ even_place p.parity one (first + j) → group_fault p g 0 ≡ found 10 q
    inside_even o z = a.fault ∙ go (not p.parity || is_odd one) refl ∙ ap (found 10) (sym z)
      where
        go : (b : Bool) → (not p.parity || is_odd one) ≡ b → rest_of_track p g 0 t j ≡ found 10 (even_place p.parity one (first + j))
        go false x = even_word p g t h a.track j one a.past (omega arith) e x ∙ ap (λ (b : Bool). found 10 (cond b (first + j + 1) (first + j))) (sym x)
        go true x =
            let y : first + (j + 1) ≡ first + j + 1 = omega arith in
            odd_word p g t h a.track j one a.past (omega arith) e x
            ∙ even_word p g t h a.track (j + 1) two (omega arith) (omega arith) behind (second_even p.parity (is_odd one) (is_odd two) o x)
            ∙ ap (found 10) y ∙ ap (λ (b : Bool). found 10 (cond b (first + j + 1) (first + j))) (sym x)

  -- one dealt word
  module _ (w : ℕ) {number : ℕ} (l : j ≤ rows p) (e : w ≡ word_at g (first + j)) (o : number ≡ number_unless (not p.parity || is_odd w) 10) where
    pub inside_one : {r : Sum} → number ≡ 0 → Summed p.crc s (w ∷ []) r → Inside p g t (j + 1) (slot + p.tracks) r
    inside_one {r} n b = record {
      track = a.track;
      past = omega arith;
      within = omega arith;
      slot_is = further p.tracks t j slot a.past a.slot_is;
      small = b.small;
      check = check_of_more p.crc g first j e a.check (summed_one p.crc b);
      fault = a.fault ∙ odd_at p g t h a.track j w a.past l e o n;
    }
      where
        further : (T t j slot : ℕ) → 1 ≤ j → slot ≡ (j - 1) * T + t → slot + T ≡ (j + 1 - 1) * T + t
        further T t j slot l e =
            let z : j + 1 - 1 ≡ j - 1 + 1 = omega arith in
            let y : slot + T ≡ (j - 1 + 1) * T + t = omega arith in
            y ∙ ap (λ (r : ℕ). r * T + t) (sym z)

    pub inside_bad : (number ≡ 0 → ⊥) → group_fault p g 0 ≡ found number (first + j)
    inside_bad n = a.fault ∙ even_at p g t h a.track j w a.past l e o n

-- ---- the frame's last word

last_with : (parity crc : Bool) (label r w : ℕ) → crc ≡ true → last_number parity crc label r w ≡ word_number parity (true && true) label r w
unfolding last_number
last_with parity crc label r w e = rw e

last_without : (parity crc : Bool) (label r w : ℕ) → crc ≡ false → last_number parity crc label r w ≡ 0
unfolding last_number
last_without parity crc label r w e = rw e

module _ (p : Plan) (g : List ℕ) (h : Shape p) {t j slot : ℕ} {s : Sum} (a : Inside p g t j slot s) (z : j ≡ rows p + 1)
    {number : ℕ} (e : number ≡ last_number p.parity p.crc p.crc_label (check_of_sum s) (word_at g (t * p.words + (p.words - 1)))) where
  abbrev last : ℕ
  last = t * p.words + (p.words - 1)

  module _ (c : p.crc ≡ true) where
    at_end : j + 1 ≡ p.words
    at_end = omega (arith, rows_checked p h c)

    place_is : last ≡ t * p.words + j
    place_is = let y : p.words - 1 ≡ j = omega (arith, at_end) in ap (λ (n : ℕ). t * p.words + n) y

    number_is : number ≡ word_number p.parity (p.crc && eqb (j + 1) p.words) p.crc_label (check_of_sum s) (word_at g last)
    number_is = e ∙ last_with p.parity p.crc p.crc_label (check_of_sum s) (word_at g last) c ∙ rw (c, eq-eqb (j + 1) p.words at_end) refl

    last_good : number ≡ 0 → rest_of_track p g 0 t j ≡ rest_of_tracks p g 0 (t + 1)
    last_good n =
        word_good p g t h a.track j (check_of_sum s) (word_at g last) number a.past (omega (arith, at_end)) a.check (ap (word_at g) place_is) number_is n
        ∙ track_over p g 0 t (j + 1) (omega (arith, at_end))

    last_bad : (number ≡ 0 → ⊥) → rest_of_track p g 0 t j ≡ found number last
    last_bad n =
        word_bad p g t h a.track j (check_of_sum s) (word_at g last) number a.past (omega (arith, at_end)) a.check (ap (word_at g) place_is) number_is n
        ∙ ap (found number) (sym place_is)

  pub frame_good : number ≡ 0 → group_fault p g 0 ≡ rest_of_tracks p g 0 (t + 1)
  frame_good n = a.fault ∙ go p.crc refl
    where
      go : (crc : Bool) → p.crc ≡ crc → rest_of_track p g 0 t j ≡ rest_of_tracks p g 0 (t + 1)
      go true c = last_good c n
      go false c = track_over p g 0 t j (omega (arith, rows_plain p h c, z))

  pub frame_bad : (number ≡ 0 → ⊥) → group_fault p g 0 ≡ found number last
  frame_bad n = a.fault ∙ go p.crc refl
    where
      go : (crc : Bool) → p.crc ≡ crc → rest_of_track p g 0 t j ≡ found number last
      go true c = last_bad c n
      go false c = absurd (n (e ∙ last_without p.parity p.crc p.crc_label (check_of_sum s) (word_at g last) c))

-- ---- the track's dealt words are over: they have no fault, and stand in the row

pub record Over (p : Plan) (g old : List ℕ) (t : ℕ) (row : List ℕ) (s : Sum) : Type 0 where
  pub slot : ℕ
  pub inside : Inside p g t (rows p + 1) slot s
  pub dealt : Dealing p g old row t (rows p + 1)

pub over_at : (p : Plan) (g old : List ℕ) {t j slot : ℕ} {row row' : List ℕ} {s s' : Sum} → j ≡ rows p + 1 → Inside p g t j slot s → Dealing p g old row t j
    → row' ≡ row → s' ≡ s → Over p g old t row' s'
over_at p g old {t} {j} {slot} {row} {row'} {s} {s'} e a d x y = record {
  slot = slot;
  inside = subst (λ (z : Sum). Inside p g t (rows p + 1) slot z) (sym y) (subst (λ (n : ℕ). Inside p g t n slot s) e a);
  dealt = subst (λ (z : List ℕ). Dealing p g old z t (rows p + 1)) (sym x) (subst (λ (n : ℕ). Dealing p g old row t n) e d);
}

-- ---- which of two is even, and a test of `!b`

pub is_odd_lem : (parity : Bool) (one place : ℕ) → number_unless (not parity || is_odd one) 10 ≡ 0 → place + 1 ≡ even_place parity one place
is_odd_lem parity one place e = go (not parity || is_odd one) e
  where
    go : (b : Bool) → number_unless b 10 ≡ 0 → place + 1 ≡ cond b (place + 1) place
    go true z = refl
    go false z = absurd (omega arith)

pub is_even : (parity : Bool) (one place : ℕ) → (number_unless (not parity || is_odd one) 10 ≡ 0 → ⊥) → place ≡ even_place parity one place
is_even parity one place e = go (not parity || is_odd one) e
  where
    go : (b : Bool) → (number_unless b 10 ≡ 0 → ⊥) → place ≡ cond b (place + 1) place
    go true z = absurd (z refl)
    go false z = refl

pub not_left : (b : Bool) → not b ≡ false → b ≡ true
not_left true e = refl
not_left false e = absurd (not_both refl e)

pub not_taken : (b : Bool) → not b ≡ true → b ≡ false
not_taken true e = absurd (not_both e refl)
not_taken false e = refl
