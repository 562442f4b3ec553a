-- What is quiet leaves a table in which nothing waits as it is, and shows nothing.
use Prim.Native.Nat.{ℕ, zero, suc, ◌+◌, ◌*◌, ◌/◌, ◌%◌, ◌^◌, ◌-◌, ◌<◌, ◌≤◌}
use native.Mathlib.Omega.{arith}
use Rattle.std.specs.Prelude.{Bool, ◌&&◌, ◌||◌, ◌≡◌, take, eqb}
use Rattle.std.proofs.Math.Bool.{true, false, cond}
use Rattle.std.proofs.Math.Path.{refl, ap, sym}
use Rattle.std.proofs.Common.{◌∙◌, drop-drop, set-set, eq-eqb, ne_eqb, eqb-true}
use mathlib.Core.List.{List, [], ◌∷◌}
use Rattle.std.proofs.Math.ListN.{length, get_or, set, drop, replicate, length-drop}
use Rattle.format.specs.Plan.{kind_on}
use Rattle.format.specs.Word.{part_of, bus_of, label_of, info_of}
use Rattle.format.specs.Item.{high_label}
use Rattle.format.specs.Reader.{counted}
use Rattle.format.specs.Laws.Tests.{clash, and_true, or_false}
use Rattle.format.specs.Laws.Reader.Counted.{drop_next, drop_none}
use Rattle.format.specs.declared.Kind.{Kind}
use Rattle.format.specs.declared.Kind.TheVariants.{Unused, Mil1553, Arinc429}
use Rattle.notices.specs.Roles.{Role, Words, neither, notice, open_row, role_in, role_on, roles_in, word}
use Rattle.notices.specs.Table.{Notes, RowNoted, RowWatched, all_zero, any_notice, earlier, earliest_of, is_arinc, noted, notes_of, watched_of}
use Rattle.notices.specs.Quiet.{answer_in, awaited, further, if_answered, is_notice, quiet_part, quiet_words}
use Rattle.notices.specs.Laws.Rows.{NoNotice, clear_earliest, earlier_none, notes_end, notes_split, other_label, set_zero, table_open}
use Rattle.notices.specs.Laws.Watch.{watched_same, watched_split}
use Rattle.notices.specs.Laws.Words.{high_role}

-- ---- a word by the look

arinc_is : (k : Kind) → is_arinc k ≡ true → k ≡ Arinc429
arinc_is Unused e = clash e
arinc_is Mil1553 e = clash e
arinc_is Arinc429 e = refl

no_notice : (ks : List Kind) (parity : Bool) (w : ℕ) → is_notice ks parity w ≡ false → NoNotice (role_in ks (part_of parity w))
no_notice ks parity w e = go (kind_on ks (bus_of parity w)) e
  where
    whole : (b : Bool) → (b && true) ≡ b
    whole true = refl
    whole false = refl

    go : (k : Kind) → (eqb (label_of w) 4 && is_arinc k) ≡ false → NoNotice (role_on k (part_of parity w))
    go Unused e = tt
    go Mil1553 e = tt
    go Arinc429 e = other_label Arinc429 parity w (sym (whole (eqb (label_of w) 4)) ∙ e)

-- the look, by what is told of the word
module _ (ks : List Kind) (parity : Bool) (w label : ℕ) (is : label ≡ label_of w) where
  pub notice_told : (bus : ℕ) (a : Bool) → bus ≡ bus_of parity w → a ≡ is_arinc (kind_on ks bus) → label ≡ 4 → is_notice ks parity w ≡ a
  notice_told bus a on e f = rw (← is, ← on, f) (sym e)

  pub other_told : (label ≡ 4 → ⊥) → is_notice ks parity w ≡ false
  other_told f = rw (← is, ne_eqb label 4 f)

pub label_low : (w : ℕ) → label_of w < 16
unfolding label_of
label_low w = omega arith

-- the word that a notice waits for
answers : (ks : List Kind) (parity : Bool) (w b c : ℕ) → kind_on ks b ≡ Arinc429 → c < 4 → eqb (bus_of parity w * 16 + label_of w) (b * 16 + high_label c) ≡ true
    → role_in ks (part_of parity w) ≡ word (b * 4 + c)
answers ks parity w b c k l e =
    let m : label_of w < 16 = label_low w in
    let s : bus_of parity w * 16 + label_of w ≡ b * 16 + (9 + 2 * c) = eqb-true (bus_of parity w * 16 + label_of w) (b * 16 + high_label c) e in
    let x : bus_of parity w ≡ b = omega arith in
    let y : label_of w ≡ high_label c = omega arith in
    rw (x, y) (high_role (kind_on ks b) b c (info_of w) k l)

-- ---- the table

clear_at : (t : List ℕ) (j : ℕ) → all_zero t ≡ true → get_or t j 0 ≡ 0
unfolding all_zero
clear_at [] j z = refl
clear_at (x ∷ t) j z = go (eqb x 0) refl z j (clear_at t)
  where
    go : (b : Bool) → eqb x 0 ≡ b → cond b (all_zero t) false ≡ true → (j : ℕ) → ((j : ℕ) → all_zero t ≡ true → get_or t j 0 ≡ 0) → get_or (x ∷ t) j 0 ≡ 0
    go true e z zero ih = eqb-true x 0 e
    go true e z (suc j) ih = ih j z
    go false e z j ih = clash z

set_zeros : (s : List ℕ) (i j : ℕ) → set (set s i 0) j 0 ≡ set (set s j 0) i 0
set_zeros [] i j = refl
set_zeros (x ∷ s) zero zero = refl
set_zeros (x ∷ s) zero (suc j) = refl
set_zeros (x ∷ s) (suc i) zero = refl
set_zeros (x ∷ s) (suc i) (suc j) = ap (λ (l : List ℕ). x ∷ l) (set_zeros s i j)

module _ (ks : List Kind) (parity : Bool) (f : ℕ) (t : List ℕ) (clear : all_zero t ≡ true) where
  clear_word : (n : ℕ) (x : Role) → NoNotice x → noted n x (f, t) ≡ (f, t)
  clear_word n neither h = refl
  clear_word n (notice j) h = absurd h
  clear_word n (word j) h = ap (λ (l : List ℕ). (f, l)) (set_zero t j clear)

  clear_notice : (n j : ℕ) → noted n (notice j) (f, t) ≡ (f, set t j (n + 1))
  clear_notice n j = rw (clear_at t j clear, earlier_none f)

  -- up to the word of the one notice that waits
  answer_passes : (b c : ℕ) → kind_on ks b ≡ Arinc429 → c < 4 → (m : ℕ) (ws : List ℕ) (n : ℕ) (s : List ℕ) (d : ℕ) → set s (b * 4 + c) 0 ≡ t
      → answer_in parity (b * 16 + high_label c) m ws ≡ suc d → notes_of (roles_in ks parity (counted n (take (suc d) ws))) (f, s) ≡ (f, t)
  unfolding roles_in notes_of counted answer_in
  answer_passes b c k l zero ws n s d e h = absurd (omega arith)
  answer_passes b c k l (suc m) [] n s d e h = absurd (omega arith)
  answer_passes b c k l (suc m) (w ∷ ws) n s d e h =
      go (eqb (label_of w) 4) refl (eqb (bus_of parity w * 16 + label_of w) (b * 16 + high_label c)) refl (answer_in parity (b * 16 + high_label c) m ws) refl h (answer_passes b c k l m ws (n + 1))
    where
      Rest : Type 0
      Rest = (s : List ℕ) (d : ℕ) → set s (b * 4 + c) 0 ≡ t → answer_in parity (b * 16 + high_label c) m ws ≡ suc d
          → notes_of (roles_in ks parity (counted (n + 1) (take (suc d) ws))) (f, s) ≡ (f, t)

      by_role : (x : Role) → NoNotice x → (r : ℕ) → answer_in parity (b * 16 + high_label c) m ws ≡ suc r → Rest
          → notes_of (roles_in ks parity (counted (n + 1) (take (suc r) ws))) (noted n x (f, s)) ≡ (f, t)
      by_role neither o r g ih = ih s r e g
      by_role (notice j) o r g ih = absurd o
      by_role (word j) o r g ih = ih (set s j 0) r (set_zeros s j (b * 4 + c) ∙ ap (λ (x : List ℕ). set x j 0) e ∙ set_zero t j clear) g

      go : (x : Bool) → eqb (label_of w) 4 ≡ x → (y : Bool) → eqb (bus_of parity w * 16 + label_of w) (b * 16 + high_label c) ≡ y → (r : ℕ)
          → answer_in parity (b * 16 + high_label c) m ws ≡ r → cond x 0 (cond y 1 (further 1 r)) ≡ suc d → Rest
          → notes_of (roles_in ks parity (counted n (take (suc d) (w ∷ ws)))) (f, s) ≡ (f, t)
      go true p y q r g h ih = absurd (omega arith)
      go false p true q r g h ih =
          let z : d ≡ 0 = omega arith in
          rw (z, answers ks parity w b c k l q) (ap (λ (x : List ℕ). (f, x)) e)
      go false p false q zero g h ih = absurd (omega arith)
      go false p false q (suc r) g h ih =
          let z : d ≡ suc r = omega arith in
          rw z (by_role (role_in ks (part_of parity w)) (other_label (kind_on ks (bus_of parity w)) parity w p) r g ih)

  -- what is quiet
  quiet_passes : (k : ℕ) (ws : List ℕ) (n : ℕ) (s : Notes) → notes_of (roles_in ks parity (counted n (take k ws))) s ≡ (f, t)
      → notes_of (roles_in ks parity (counted n (take (quiet_part ks parity k ws) ws))) s ≡ (f, t)
  unfolding roles_in notes_of counted quiet_part awaited
  quiet_passes zero [] n s e = e
  quiet_passes (suc k) [] n s e = e
  quiet_passes (suc k) (w ∷ ws) n s e = quiet_passes k ws (n + 1) (noted n (role_in ks (part_of parity w)) s) e
  quiet_passes zero (w ∷ ws) n s e =
      go (is_notice ks parity w) refl (answer_in parity (awaited parity w) 8 ws) refl (λ k. quiet_passes k ws (n + 1) (noted n (role_in ks (part_of parity w)) s))
    where
      waits : is_notice ks parity w ≡ true → (d : ℕ) → answer_in parity (awaited parity w) 8 ws ≡ suc d
          → notes_of (roles_in ks parity (counted (n + 1) (take (suc d) ws))) (noted n (role_in ks (part_of parity w)) s) ≡ (f, t)
      waits y d h =
          let b = bus_of parity w in
          let c = info_of w / 2 ^ 13 % 4 in
          let a = and_true (eqb (label_of w) 4) (is_arinc (kind_on ks b)) y in
          let k : kind_on ks b ≡ Arinc429 = arinc_is (kind_on ks b) a.1 in
          let o : noted n (notice (b * 4 + c)) (f, t) ≡ (f, set t (b * 4 + c) (n + 1)) = clear_notice n (b * 4 + c) in
          let v : role_in ks (part_of parity w) ≡ notice (b * 4 + c) = rw (k, a.0) in
          rw (e, v, o)
          (answer_passes b c k (omega arith) 8 ws (n + 1) (set t (b * 4 + c) (n + 1)) d (set-set t (b * 4 + c) (n + 1) 0 ∙ set_zero t (b * 4 + c) clear) h)

      go : (x : Bool) → is_notice ks parity w ≡ x → (d : ℕ) → answer_in parity (awaited parity w) 8 ws ≡ d
          → ((k : ℕ) → notes_of (roles_in ks parity (counted (n + 1) (take k ws))) (noted n (role_in ks (part_of parity w)) s) ≡ (f, t)
          → notes_of (roles_in ks parity (counted (n + 1) (take (quiet_part ks parity k ws) ws))) (noted n (role_in ks (part_of parity w)) s) ≡ (f, t))
          → notes_of (roles_in ks parity (counted n (take (cond x (if_answered d (quiet_part ks parity d ws)) (suc (quiet_part ks parity 0 ws))) (w ∷ ws)))) s ≡ (f, t)
      go true y zero h ih = e
      go true y (suc d) h ih = ih (suc d) (waits y d h)
      go false y d h ih = ih 0 (ap (noted n (role_in ks (part_of parity w))) e ∙ clear_word n (role_in ks (part_of parity w)) (no_notice ks parity w y))

-- ---- how much it is

answer_low : (parity : Bool) (a n : ℕ) (ws : List ℕ) → answer_in parity a n ws ≤ length ws
unfolding answer_in
answer_low parity a zero ws = omega arith
answer_low parity a (suc n) [] = omega arith
answer_low parity a (suc n) (w ∷ ws) = go (eqb (label_of w) 4) (eqb (bus_of parity w * 16 + label_of w) a) (answer_in parity a n ws) (answer_low parity a n ws)
  where
    go : (x y : Bool) (r : ℕ) → r ≤ length ws → cond x 0 (cond y 1 (further 1 r)) ≤ suc (length ws)
    go true y r l = omega arith
    go false true r l = omega arith
    go false false zero l = omega arith
    go false false (suc r) l = omega arith

module _ (ks : List Kind) (parity : Bool) where
  pub quiet_low : (k : ℕ) (ws : List ℕ) → quiet_part ks parity k ws ≤ length ws
  unfolding quiet_part
  quiet_low zero [] = omega arith
  quiet_low (suc k) [] = omega arith
  quiet_low (suc k) (w ∷ ws) = omega (arith, quiet_low k ws)
  quiet_low zero (w ∷ ws) = go (is_notice ks parity w) (answer_in parity (awaited parity w) 8 ws) (λ k. quiet_low k ws)
    where
      go : (x : Bool) (d : ℕ) → ((k : ℕ) → quiet_part ks parity k ws ≤ length ws)
          → cond x (if_answered d (quiet_part ks parity d ws)) (suc (quiet_part ks parity 0 ws)) ≤ suc (length ws)
      go true zero ih = omega arith
      go true (suc d) ih = omega (arith, ih (suc d))
      go false d ih = omega (arith, ih 0)

  pub quiet_most : (row : List ℕ) (clear : Bool) → quiet_words ks parity row clear ≤ length row
  quiet_most row true = quiet_low 0 row
  quiet_most row false = omega arith

  -- all, where no word has the label of a notice
  pub quiet_all : (ws : List ℕ) → any_notice ws ≡ false → quiet_part ks parity 0 ws ≡ length ws
  unfolding quiet_part any_notice
  quiet_all [] e = refl
  quiet_all (w ∷ ws) e =
      let o = or_false (eqb (label_of w) 4) (any_notice ws) e in
      rw (o.0, quiet_all ws o.1)

  quiet_known : (k : ℕ) (ws : List ℕ) → k ≤ length ws → quiet_part ks parity k ws ≡ k + quiet_part ks parity 0 (drop k ws)
  unfolding quiet_part
  quiet_known zero ws l = omega arith
  quiet_known (suc k) [] l = absurd (omega arith)
  quiet_known (suc k) (w ∷ ws) l = omega (arith, quiet_known k ws (omega arith))

-- ---- a row that begins with what is quiet

module _ (ks : List Kind) (parity : Bool) (n : ℕ) (row : List ℕ) (t : List ℕ) (q : ℕ) (is : q ≡ quiet_words ks parity row (all_zero t)) where
  passed : (f : ℕ) → notes_of (roles_in ks parity (counted n (take q row))) (f, t) ≡ (f, t)
  unfolding roles_in notes_of counted
  passed f = rw is (go (all_zero t) refl)
    where
      go : (b : Bool) → all_zero t ≡ b → notes_of (roles_in ks parity (counted n (take (cond b (quiet_part ks parity 0 row) 0) row))) (f, t) ≡ (f, t)
      go true e = quiet_passes ks parity f t e 0 row n (f, t) refl
      go false e = refl

  pub quiet_noted : (f r : ℕ) (t' : List ℕ) → RowNoted ks parity (n + q) (drop q row) f t r t' → RowNoted ks parity n row f t r t'
  quiet_noted f r t' e = e ∙ sym (notes_split ks parity n q row (f, t) ∙ ap (notes_of (roles_in ks parity (counted (n + q) (drop q row)))) (passed f))

  -- and nothing stands behind it
  pub all_quiet_noted : (f : ℕ) → length row ≤ q → RowNoted ks parity n row f t f t
  all_quiet_noted f l = quiet_noted f f t (sym (notes_end ks parity row (n + q) q l (f, t)))

  pub quiet_watched : (r : ℕ) (t' : List ℕ) → RowWatched ks parity (n + q) (drop q row) t r t' → RowWatched ks parity n row t r t'
  quiet_watched r t' e =
      e ∙ sym (watched_split ks parity n q row (0, t) ∙ ap (watched_of (roles_in ks parity (counted (n + q) (drop q row)))) (watched_same _ t t (passed 0)))

-- ---- a whole row

module _ (ks : List Kind) (parity : Bool) (ws : List ℕ) (low : Words ws) (q : ℕ) (is : q ≡ quiet_part ks parity 0 ws) where
  pub rest_open : (r : ℕ) (t : List ℕ) → RowNoted ks parity q (drop q ws) 0 (replicate 64 0) r t → earliest_of r t ≡ open_row (roles_in ks parity (counted 0 ws))
  unfolding all_zero
  rest_open r t e =
      let z : q ≡ 0 + q = omega arith in
      table_open ks parity ws low r t (quiet_noted ks parity 0 ws (replicate 64 0) q is 0 r t (e ∙ ap (λ (n : ℕ). notes_of (roles_in ks parity (counted n (drop q ws))) (0, replicate 64 0)) z))

  pub all_quiet_open : q ≡ length ws → open_row (roles_in ks parity (counted 0 ws)) ≡ 0
  unfolding all_zero
  all_quiet_open e =
      sym (rest_open 0 (replicate 64 0) (sym (notes_end ks parity ws q q (omega arith) (0, replicate 64 0)))) ∙ clear_earliest 0 (replicate 64 0) refl

-- ---- one element further

-- which of the eight words behind the word i answers, if the first d - 1 do not
abbrev pub answer_from : Bool → ℕ → List ℕ → ℕ → ℕ → ℕ
answer_from parity a row i d = further (d - 1) (answer_in parity a (9 - d) (drop (i + d) row))

pub answer_start : (parity : Bool) (a : ℕ) (row : List ℕ) (i : ℕ) → answer_in parity a 8 (drop (i + 1) row) ≡ answer_from parity a row i 1
answer_start parity a row i = go (answer_in parity a 8 (drop (i + 1) row))
  where
    go : (r : ℕ) → r ≡ further 0 r
    go zero = refl
    go (suc r) = omega arith

module _ (parity : Bool) (a : ℕ) (row : List ℕ) (i d : ℕ) where
  pub answer_end : length row ≤ i + d → answer_from parity a row i d ≡ 0
  unfolding answer_in
  answer_end l = rw (drop_none (i + d) row l) (go (9 - d))
    where
      go : (n : ℕ) → further (d - 1) (answer_in parity a n []) ≡ 0
      go zero = refl
      go (suc n) = refl

  pub answer_far : d ≡ 9 → answer_from parity a row i d ≡ 0
  unfolding answer_in
  answer_far e = rw e

  module _ (low : 1 ≤ d) (near : d < 9) (l : i + d < length row) (label : ℕ) (is : label ≡ label_of (get_or row (i + d) 0)) where
    answer_next : answer_from parity a row i d
        ≡ cond (eqb label 4) 0 (cond (eqb (bus_of parity (get_or row (i + d) 0) * 16 + label) a) d (answer_from parity a row i (d + 1)))
    unfolding answer_in
    answer_next =
        let e : 9 - d ≡ suc (9 - (d + 1)) = omega arith in
        let k : i + d + 1 ≡ i + (d + 1) = omega arith in
        let w = get_or row (i + d) 0 in
        rw (e, drop_next (i + d) row l, k, ← is) (go (eqb label 4) (eqb (bus_of parity w * 16 + label) a) (answer_in parity a (9 - (d + 1)) (drop (i + (d + 1)) row)))
      where
        go : (x y : Bool) (r : ℕ) → further (d - 1) (cond x 0 (cond y 1 (further 1 r))) ≡ cond x 0 (cond y d (further (d + 1 - 1) r))
        go true y r = refl
        go false true r = omega arith
        go false false zero = refl
        go false false (suc r) = omega arith

    pub answer_notice : label ≡ 4 → answer_from parity a row i d ≡ 0
    answer_notice e = answer_next ∙ rw (eq-eqb label 4 e)

    module _ (bus : ℕ) (on : bus ≡ bus_of parity (get_or row (i + d) 0)) (other : label ≡ 4 → ⊥) where
      pub answer_here : bus * 16 + label ≡ a → answer_from parity a row i d ≡ d
      answer_here e = answer_next ∙ rw (← on, ne_eqb label 4 other, eq-eqb (bus * 16 + label) a e)

      pub answer_past : (bus * 16 + label ≡ a → ⊥) → answer_from parity a row i d ≡ answer_from parity a row i (d + 1)
      answer_past e = answer_next ∙ rw (← on, ne_eqb label 4 other, ne_eqb (bus * 16 + label) a e)

module _ (ks : List Kind) (parity : Bool) (row : List ℕ) (i : ℕ) where
  pub quiet_end : length row ≤ i → i + quiet_part ks parity 0 (drop i row) ≡ i
  unfolding quiet_part
  quiet_end l = rw (drop_none i row l) (omega arith)

  pub quiet_next : i < length row → is_notice ks parity (get_or row i 0) ≡ false → i + quiet_part ks parity 0 (drop i row) ≡ i + 1 + quiet_part ks parity 0 (drop (i + 1) row)
  unfolding quiet_part
  quiet_next l e = rw (drop_next i row l, e) (omega arith)

  module _ (d : ℕ) (l : i < length row) (y : is_notice ks parity (get_or row i 0) ≡ true) (is : d ≡ answer_in parity (awaited parity (get_or row i 0)) 8 (drop (i + 1) row)) where
    pub quiet_stop : d ≡ 0 → i + quiet_part ks parity 0 (drop i row) ≡ i
    unfolding quiet_part
    quiet_stop z = rw (drop_next i row l, y, ← is, z) (omega arith)

    pub quiet_fits : i + d < length row
    quiet_fits = omega (arith, length-drop (i + 1) row, answer_low parity (awaited parity (get_or row i 0)) 8 (drop (i + 1) row), is, l)

    pub quiet_answered : (d ≡ 0 → ⊥) → i + quiet_part ks parity 0 (drop i row) ≡ i + d + 1 + quiet_part ks parity 0 (drop (i + d + 1) row)
    unfolding quiet_part
    quiet_answered z = rw (drop_next i row l, y, ← is) (go d z refl)
      where
        go : (e : ℕ) → (e ≡ 0 → ⊥) → d ≡ e → i + if_answered e (quiet_part ks parity e (drop (i + 1) row)) ≡ i + d + 1 + quiet_part ks parity 0 (drop (i + d + 1) row)
        go zero z s = absurd (z refl)
        go (suc e) z s =
            let k : d ≤ length (drop (i + 1) row) = omega (arith, length-drop (i + 1) row, quiet_fits) in
            let b : i + 1 + d ≡ i + d + 1 = omega arith in
            let p : quiet_part ks parity d (drop (i + 1) row) ≡ d + quiet_part ks parity 0 (drop (i + d + 1) row) =
            quiet_known ks parity d (drop (i + 1) row) k ∙ ap (λ (l : List ℕ). d + quiet_part ks parity 0 l) (drop-drop d (i + 1) row ∙ ap (λ (m : ℕ). drop m row) b) in
            rw (← s, p) (omega arith)
