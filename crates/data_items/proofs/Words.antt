-- A word's fields.
use Prim.Native.Nat.{ℕ, ◌+◌, ◌*◌, ◌/◌, ◌%◌, ◌^◌, ◌<◌}
use native.Mathlib.Omega.{arith}
use lib.Bits.{bit_and, and_mask}
use mathlib.Core.Bool.{Bool, true, false}
use mathlib.Core.List.{List}
use mathlib.Core.Path.{◌≡◌, refl, ap, sym, subst, ◌∙◌}
use lib.Dec.{eqb, ltb}
use lib.ListN.{get_or}
use borrow.Author.Tests.{eq-eqb, eqb-true, ne_eqb}
use Rattle.format.specs.Word.{bus_of, label_of, info_of, is_fill}
use Rattle.format.specs.Laws.Tests.{and_true}
pub use Rattle.format.specs.Laws.Word.Parts.{info_low}
use Rattle.data_items.specs.Row.{top_of, tops_of, parity_of, tag_at, tag_of}

-- a yes or a no
pub yes_or_no : {A : Type 0} (b : Bool) → (b ≡ true → A) → (b ≡ false → A) → A
yes_or_no true f g = f refl
yes_or_no false f g = g refl

pub bus_low : (parity : Bool) (w : ℕ) → w < 2 ^ 24 → bus_of parity w < 16
unfolding bus_of
bus_low true w h = omega arith
bus_low false w h = omega arith

pub label_low : (w : ℕ) → label_of w < 16
unfolding label_of
label_low w = omega arith

pub info_is : (w : ℕ) → w % 65536 ≡ info_of w
unfolding info_of
info_is w = refl

-- bus and label by themselves
module _ (parity : Bool) (w top : ℕ) (e : top ≡ top_of parity w) where
  pub bus_is : top / 16 ≡ bus_of parity w
  bus_is = omega (arith, label_low w)

  pub label_is : top % 16 ≡ label_of w
  label_is = omega (arith, label_low w)

-- by the number of both
pub says_bus : (parity : Bool) (w b l : ℕ) → top_of parity w ≡ b * 16 + l → l < 16 → bus_of parity w ≡ b
says_bus parity w b l e h = omega (arith, label_low w)

pub says_label : (parity : Bool) (w b l : ℕ) → top_of parity w ≡ b * 16 + l → l < 16 → label_of w ≡ l
says_label parity w b l e h = omega (arith, label_low w)

-- by a mask
pub masked_top : (parity : Bool) (w : ℕ) → w < 2 ^ 24 → bit_and (w / 65536) (tops_of parity) ≡ top_of parity w
unfolding bus_of label_of
masked_top true w h = and_mask (w / 65536) 7 ∙ omega arith
masked_top false w h = and_mask (w / 65536) 8 ∙ omega arith

pub top_masked : (tops w : ℕ) → tops ≡ tops_of (parity_of tops) → w < 2 ^ 24 → (bit_and (w / 65536) tops ≡ top_of (parity_of tops) w) × (bit_and (w / 65536) tops < 256)
top_masked tops w e h =
    let i : bit_and (w / 65536) tops ≡ top_of (parity_of tops) w = ap (bit_and (w / 65536)) e ∙ masked_top (parity_of tops) w h in
    (i, subst (λ (n : ℕ). n < 256) (sym i) (omega (arith, bus_low (parity_of tops) w h, label_low w)))

pub tops_back : (parity : Bool) → parity_of (tops_of parity) ≡ parity
tops_back true = refl
tops_back false = refl

pub parity_back : {tops : ℕ} (parity : Bool) → tops ≡ tops_of parity → parity_of tops ≡ parity
parity_back parity e = ap parity_of e ∙ tops_back parity

pub tops_all : {tops : ℕ} (parity : Bool) → tops ≡ tops_of parity → tops ≡ tops_of (parity_of tops)
tops_all parity e = e ∙ ap tops_of (sym (parity_back parity e))

-- fill is no word that is awaited
pub fill_label : (w : ℕ) → is_fill w ≡ true → label_of w ≡ 1
unfolding is_fill
fill_label w e = eqb-true (label_of w) 1 (and_true (eqb (label_of w) 1) (eqb (info_of w) 43690) e).0

-- a word that is no fill, by its label
pub other_label : (w : ℕ) → (label_of w ≡ 1 → ⊥) → is_fill w ≡ false
other_label w n = yes_or_no (is_fill w) (λ e. absurd (n (fill_label w e))) (λ e. e)

-- ---- the two other words of a tag

module _ (parity : Bool) (row : List ℕ) (slot awaits : ℕ) {a : ℕ} (e : a ≡ top_of parity (get_or row (slot + 1) 0)) where
  pub tag_first : (a + 1 ≡ awaits → ⊥) → false ≡ tag_at parity row slot awaits
  tag_first n = rw (ne_eqb (top_of parity (get_or row (slot + 1) 0) + 1) awaits (λ z. n (rw e z))) refl

  module _ (o : a + 1 ≡ awaits) {b : ℕ} (f : b ≡ top_of parity (get_or row (slot + 2) 0)) where
    first_holds : eqb (top_of parity (get_or row (slot + 1) 0) + 1) awaits ≡ true
    first_holds = eq-eqb _ _ (rw e at o)

    pub tag_second : (b + 2 ≡ awaits → ⊥) → false ≡ tag_at parity row slot awaits
    tag_second n = rw (first_holds, ne_eqb (top_of parity (get_or row (slot + 2) 0) + 2) awaits (λ z. n (rw f z))) refl

    pub tag_third : b + 2 ≡ awaits → ltb (get_or row (slot + 2) 0 % 65536) 10000 ≡ tag_at parity row slot awaits
    tag_third q = rw (first_holds, eq-eqb (top_of parity (get_or row (slot + 2) 0) + 2) awaits (rw f at q)) refl

pub tag_fits : (a b u : ℕ) → tag_of a b u < 2 ^ 46
tag_fits a b u = omega arith
