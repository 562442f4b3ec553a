-- Rows word by word, and rows that change nothing.
use Rattle.std.specs.Prelude.{ℕ, zero, suc, ◌+◌, ◌*◌, ◌/◌, ◌%◌, ◌^◌, ◌-◌, ◌<◌, ◌≤◌, Bool, true, false, cond, ◌&&◌, ◌||◌, not, ◌≡◌, refl, List, [], ◌∷◌, ◌++◌, map, length, get_or, set, take, drop, replicate, eqb}
use Rattle.std.proofs.Common.{arith, ap, sym, ◌∙◌, length-drop, drop-cons, get_or-drop, take_all, eqb-true, ne_eqb}
use Rattle.std.proofs.Math.Seq.{drop-length}
use Rattle.std.specs.Int.Bits.{bit_or, bit_and, or_add_and, or_zero_l}
use Rattle.std.proofs.lemmas.Nat.{and_le_r}
use Rattle.format.specs.Lists.{All, nil, cons}
use Rattle.format.specs.Plan.{kind_on}
use Rattle.format.specs.Word.{part, part_of, bus_of, label_of, info_of}
use Rattle.format.specs.Reader.{Slot, counted}
use Rattle.format.specs.Laws.Tests.{clash, or_false}
use Rattle.format.specs.Laws.Reader.Counted.{drop_next, drop_none, counted_next, counted_none}
use Rattle.format.specs.declared.Kind.{Kind}
use Rattle.format.specs.declared.Kind.TheVariants.{Unused, Mil1553, Arinc429}
use Rattle.notices.specs.Roles.{Role, neither, notice, word, Row, Words, is_syllable, role_on, role_in, roles_in, lacked, open_row}
use Rattle.notices.specs.Table.{Notes, noted, notes_of, earlier, earliest_of, all_zero, any_notice, is_arinc, has_arinc, RowNoted}
use Rattle.notices.specs.Laws.Table.{Rising, InTable, Tabled, notes_open}

-- ---- one element further

module _ (ks : List Kind) (parity : Bool) (ws : List ℕ) where
  pub notes_next : (n i : ℕ) → i < length ws → (s : Notes)
      → notes_of (roles_in ks parity (counted (n + i) (drop i ws))) s
      ≡ notes_of (roles_in ks parity (counted (n + (i + 1)) (drop (i + 1) ws))) (noted (n + i) (role_in ks (part_of parity (get_or ws i 0))) s)
  unfolding roles_in notes_of
  notes_next n i l s = rw (counted_next n i ws l)

  pub notes_end : (n i : ℕ) → length ws ≤ i → (s : Notes) → notes_of (roles_in ks parity (counted n (drop i ws))) s ≡ s
  unfolding roles_in notes_of
  notes_end n i l s = rw (counted_none n i ws l)

-- the words up to the word q, and then the others
pub notes_split : (ks : List Kind) (parity : Bool) (n q : ℕ) (ws : List ℕ) (s : Notes)
    → notes_of (roles_in ks parity (counted n ws)) s ≡ notes_of (roles_in ks parity (counted (n + q) (drop q ws))) (notes_of (roles_in ks parity (counted n (take q ws))) s)
unfolding roles_in notes_of counted
notes_split ks parity n zero ws s = let z : n + 0 ≡ n = omega arith in rw z
notes_split ks parity n (suc q) [] s = refl
notes_split ks parity n (suc q) (w ∷ ws) s =
    let z : n + 1 + q ≡ n + suc q = omega arith in
    rw z at (notes_split ks parity (n + 1) q ws (noted n (role_in ks (part_of parity w)) s))

pub earliest_next : (f : ℕ) (t : List ℕ) (i : ℕ) → i < length t → earliest_of f (drop i t) ≡ earliest_of (earlier f (get_or t i 0)) (drop (i + 1) t)
unfolding earliest_of
earliest_next f t i l = rw (drop_next i t l)

pub earliest_end : (f : ℕ) (t : List ℕ) (i : ℕ) → length t ≤ i → earliest_of f (drop i t) ≡ f
unfolding earliest_of
earliest_end f t i l = rw (drop_none i t l)

pub notice_next : (ws : List ℕ) (i : ℕ) → i < length ws → any_notice (drop i ws) ≡ (eqb (label_of (get_or ws i 0)) 4 || any_notice (drop (i + 1) ws))
unfolding any_notice
notice_next ws i l = rw (drop_next i ws l)

pub notice_end : (ws : List ℕ) (i : ℕ) → length ws ≤ i → any_notice (drop i ws) ≡ false
unfolding any_notice
notice_end ws i l = rw (drop_none i ws l)

pub zero_next : (t : List ℕ) (i : ℕ) → i < length t → all_zero (drop i t) ≡ cond (eqb (get_or t i 0) 0) (all_zero (drop (i + 1) t)) false
unfolding all_zero
zero_next t i l = rw (drop_next i t l)

pub zero_end : (t : List ℕ) (i : ℕ) → length t ≤ i → all_zero (drop i t) ≡ true
unfolding all_zero
zero_end t i l = rw (drop_none i t l)

-- two numbers looked at as one
pub or_zero : (a b : ℕ) → eqb (bit_or a b) 0 ≡ (eqb a 0 && eqb b 0)
or_zero zero b = rw (or_zero_l b) refl
or_zero (suc a) b =
    ne_eqb (bit_or (suc a) b) 0 (λ e. absurd (omega (arith, e, or_add_and (suc a) b, and_le_r (suc a) b)))
    ∙ rw (ne_eqb (suc a) 0 (λ e. absurd (omega (arith, e)))) refl

pub kinds_next : (i : ℕ) (ks : List Kind) → i < length ks → drop i ks ≡ get_or ks i Unused ∷ drop (i + 1) ks
kinds_next i ks h =
    let e : suc i ≡ i + 1 = omega arith in
    drop-cons ks i Unused h ∙ ap (λ (k : ℕ). get_or ks i Unused ∷ drop k ks) e

pub arinc_next : (ks : List Kind) (i : ℕ) → i < length ks → has_arinc (drop i ks) ≡ (is_arinc (get_or ks i Unused) || has_arinc (drop (i + 1) ks))
unfolding has_arinc
arinc_next ks i l = rw (kinds_next i ks l)

pub arinc_end : (ks : List Kind) → length ks ≡ 16 → has_arinc (drop 16 ks) ≡ false
unfolding has_arinc
arinc_end ks e = ap has_arinc (ap (λ (n : ℕ). drop n ks) (sym e) ∙ drop-length ks)

-- ---- rows that change nothing

-- without an ARINC bus there are neither notices nor their words
not_arinc : (ks : List Kind) → has_arinc ks ≡ false → (bus : ℕ) → is_arinc (kind_on ks bus) ≡ false
unfolding has_arinc
not_arinc [] e bus = refl
not_arinc (k ∷ ks) e zero = (or_false (is_arinc k) (has_arinc ks) e).0
not_arinc (k ∷ ks) e (suc bus) = not_arinc ks (or_false (is_arinc k) (has_arinc ks) e).1 bus

role_none : (k : Kind) (parity : Bool) (w : ℕ) → is_arinc k ≡ false → role_on k (part_of parity w) ≡ neither
role_none Unused parity w e = refl
role_none Mil1553 parity w e = refl
role_none Arinc429 parity w e = clash (sym e)

pub no_arinc : (ks : List Kind) (parity : Bool) → has_arinc ks ≡ false → (ss : List Slot) (s : Notes) → notes_of (roles_in ks parity ss) s ≡ s
unfolding roles_in notes_of
no_arinc ks parity e [] s = refl
no_arinc ks parity e (x ∷ ss) s = rw (role_none (kind_on ks (bus_of parity x.1)) parity x.1 (not_arinc ks e (bus_of parity x.1))) (no_arinc ks parity e ss s)

pub no_arinc_open : (ks : List Kind) (parity : Bool) → has_arinc ks ≡ false → (ss : List Slot) → open_row (roles_in ks parity ss) ≡ 0
unfolding roles_in open_row
no_arinc_open ks parity e [] = refl
no_arinc_open ks parity e (x ∷ ss) = rw (role_none (kind_on ks (bus_of parity x.1)) parity x.1 (not_arinc ks e (bus_of parity x.1))) (no_arinc_open ks parity e ss)

-- a word without the label of a notice is none
abbrev pub NoNotice : Role → Type 0
NoNotice neither = Unit {0}
NoNotice (notice j) = ⊥
NoNotice (word j) = Unit {0}

pub other_label : (k : Kind) (parity : Bool) (w : ℕ) → eqb (label_of w) 4 ≡ false → NoNotice (role_on k (part_of parity w))
other_label Unused parity w e = tt
other_label Mil1553 parity w e = tt
other_label Arinc429 parity w e = rw e (go (is_syllable (label_of w)))
  where
    go : (t : Bool) → NoNotice (cond t (word (bus_of parity w * 4 + label_of w / 2 % 4)) neither)
    go true = tt
    go false = tt

pub no_notice_open : (ks : List Kind) (parity : Bool) (n : ℕ) (ws : List ℕ) → any_notice ws ≡ false → open_row (roles_in ks parity (counted n ws)) ≡ 0
unfolding roles_in open_row counted any_notice
no_notice_open ks parity n [] e = refl
no_notice_open ks parity n (w ∷ ws) e =
    go (role_in ks (part_of parity w)) (other_label (kind_on ks (bus_of parity w)) parity w (or_false (eqb (label_of w) 4) (any_notice ws) e).0) (no_notice_open ks parity (n + 1) ws (or_false (eqb (label_of w) 4) (any_notice ws) e).1)
  where
    go : (x : Role) → NoNotice x → open_row (roles_in ks parity (counted (n + 1) ws)) ≡ 0 → open_row ((n, x) ∷ roles_in ks parity (counted (n + 1) ws)) ≡ 0
    go neither h ih = ih
    go (notice j) h ih = absurd h
    go (word j) h ih = ih

-- nothing waits
pub set_zero : (t : List ℕ) (j : ℕ) → all_zero t ≡ true → set t j 0 ≡ t
unfolding all_zero
set_zero [] j z = refl
set_zero (x ∷ t) j z = go (eqb x 0) refl z j (set_zero t)
  where
    go : (b : Bool) → eqb x 0 ≡ b → cond b (all_zero t) false ≡ true → (j : ℕ) → ((j : ℕ) → all_zero t ≡ true → set t j 0 ≡ t) → set (x ∷ t) j 0 ≡ x ∷ t
    go true e z zero ih = let y : x ≡ 0 = eqb-true x 0 e in ap (λ (v : ℕ). v ∷ t) (sym y)
    go true e z (suc j) ih = ap (λ (l : List ℕ). x ∷ l) (ih j z)
    go false e z j ih = clash z

pub earlier_none : (f : ℕ) → earlier f 0 ≡ f
unfolding earlier
earlier_none f = go (eqb f 0) refl
  where
    go : (b : Bool) → eqb f 0 ≡ b → cond b 0 f ≡ f
    go true e = sym (eqb-true f 0 e)
    go false e = refl

pub clear_earliest : (f : ℕ) (t : List ℕ) → all_zero t ≡ true → earliest_of f t ≡ f
unfolding earliest_of all_zero
clear_earliest f [] z = refl
clear_earliest f (x ∷ t) z = go (eqb x 0) refl z (clear_earliest f t)
  where
    go : (b : Bool) → eqb x 0 ≡ b → cond b (all_zero t) false ≡ true → (all_zero t ≡ true → earliest_of f t ≡ f) → earliest_of (earlier f x) t ≡ f
    go true e z ih = let y : x ≡ 0 = eqb-true x 0 e in rw (y, earlier_none f) (ih z)
    go false e z ih = clash z

-- ---- the channels of words are in the table, and numbers rise

pub role_low : (k : Kind) (parity : Bool) (w : ℕ) → bus_of parity w < 16 → InTable (role_on k (part_of parity w))
role_low Unused parity w h = tt
role_low Mil1553 parity w h = tt
role_low Arinc429 parity w h = go (eqb (label_of w) 4) (is_syllable (label_of w))
  where
    go : (s t : Bool) → InTable (cond s (notice (bus_of parity w * 4 + info_of w / 2 ^ 13 % 4)) (cond t (word (bus_of parity w * 4 + label_of w / 2 % 4)) neither))
    go true t = omega arith
    go false true = omega arith
    go false false = tt

pub bus_low : (parity : Bool) (w : ℕ) → w < 2 ^ 24 → bus_of parity w < 16
unfolding bus_of
bus_low true w h = omega arith
bus_low false w h = omega arith

pub roles_low : (ks : List Kind) (parity : Bool) (n : ℕ) (ws : List ℕ) → Words ws → Tabled (roles_in ks parity (counted n ws))
unfolding roles_in counted
roles_low ks parity n [] h = tt
roles_low ks parity n (w ∷ ws) h =
    (role_low (kind_on ks (bus_of parity w)) parity w (bus_low parity w (h 0 (omega arith))), roles_low ks parity (n + 1) ws (λ i l. h (suc i) (omega arith)))

pub roles_rise : (ks : List Kind) (parity : Bool) (n : ℕ) (ws : List ℕ) → Rising n (roles_in ks parity (counted n ws))
unfolding roles_in counted
roles_rise ks parity n [] = tt
roles_rise ks parity n (w ∷ ws) = (omega arith, roles_rise ks parity (n + 1) ws)

-- ---- a word by its parts

pub word_noted : (ks : List Kind) (parity : Bool) (w bus label info n : ℕ) (s s' : Notes) → bus ≡ bus_of parity w → label ≡ label_of w → info ≡ info_of w
    → s' ≡ noted n (role_on (kind_on ks bus) (part bus label info)) s → noted n (role_in ks (part_of parity w)) s ≡ s'
word_noted ks parity w bus label info n s s' a b d e = rw (← a, ← b, ← d) (sym e)

-- ---- a whole row

pub table_open : (ks : List Kind) (parity : Bool) (ws : List ℕ) → Words ws → (r : ℕ) (t : List ℕ) → RowNoted ks parity 0 ws 0 (replicate 64 0) r t
    → earliest_of r t ≡ open_row (roles_in ks parity (counted 0 ws))
table_open ks parity ws low r t e =
    ap (λ (s : Notes). earliest_of s.0 s.1) e
    ∙ notes_open (roles_in ks parity (counted 0 ws)) (roles_low ks parity 0 ws low) (roles_rise ks parity 0 ws)

-- words as a row has them
pub all_words : (ws : List ℕ) → All (λ w. w < 2 ^ 24) ws → Words ws
all_words [] nil i l = absurd (omega arith)
all_words (w ∷ ws) (cons h t) zero l = h
all_words (w ∷ ws) (cons h t) (suc i) l = all_words ws t i (omega arith)

-- the words from the word q on, as a part of the row
module _ (q : ℕ) (ws : List ℕ) where
  pub part_rest : take (length ws - q) (drop q ws) ≡ drop q ws
  part_rest = take_all (length ws - q) (drop q ws) (omega (arith, length-drop q ws))

  pub part_words : Words ws → Words (take (length ws - q) (drop q ws))
  part_words h = rw part_rest from
    where
      from : Words (drop q ws)
      from i l = let n : q + i < length ws = omega (arith, length-drop q ws, l) in rw (get_or-drop q ws i 0) (h (q + i) n)

  pub part_length : q ≤ length ws → q + length (take (length ws - q) (drop q ws)) ≡ length ws
  part_length l = rw part_rest (omega (arith, length-drop q ws))

-- its number is one of the words'
pub open_most : (ks : List Kind) (parity : Bool) (n : ℕ) (ws : List ℕ) → open_row (roles_in ks parity (counted n ws)) ≤ n + length ws
unfolding roles_in open_row counted
open_most ks parity n [] = omega arith
open_most ks parity n (w ∷ ws) = go (role_in ks (part_of parity w)) (open_most ks parity (n + 1) ws)
  where
    go : (x : Role) → open_row (roles_in ks parity (counted (n + 1) ws)) ≤ n + 1 + length ws → open_row ((n, x) ∷ roles_in ks parity (counted (n + 1) ws)) ≤ n + suc (length ws)
    go neither h = omega arith
    go (notice j) h = either (lacked (roles_in ks parity (counted (n + 1) ws)) j)
      where
        either : (t : Bool) → cond t (n + 1) (open_row (roles_in ks parity (counted (n + 1) ws))) ≤ n + suc (length ws)
        either true = omega arith
        either false = omega arith
    go (word j) h = omega arith
