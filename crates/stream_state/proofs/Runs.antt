-- Tests of numbers one after the other.
use Prim.Native.Nat.{ℕ, zero, suc, ◌+◌, ◌*◌, ◌-◌, ◌≤◌, ◌<◌}
use native.Mathlib.Omega.{arith}
use mathlib.Core.Bool.{Bool, true, false, ◌&&◌}
use mathlib.Core.Path.{◌≡◌, refl, sym, ap, ◌∙◌}
use mathlib.Core.List.{List, [], ◌∷◌}
use lib.Bits.{bit_or}
use lib.Dec.{eqb}
use lib.ListN.{length, take, drop, get_or}
use lib.Seq.{drop-cons, drop-drop}
use native.Mathlib.Numerals.{add-one}
use borrow.Author.Tests.{eq-eqb, ne_eqb, le-leb, lt-leb}
use Rattle.format.specs.Lists.{list}
use Rattle.from_c.specs.Numbers.{are_kinds}
use Rattle.notices.specs.Laws.Rows.{or_zero, part_rest}
use Rattle.stream_state.specs.Parts.{are_zeros}

-- what is still to be looked at
one_more : (index end : ℕ) → index < end → end - index ≡ suc (end - (index + 1))
one_more index end h = omega arith

none_left : (index end : ℕ) → end ≤ index → end - index ≡ 0
none_left index end h = omega arith

module _ (f : ℕ → ℕ) (index end : ℕ) where
  pub zeros_end : end ≤ index → are_zeros (list f index (end - index)) ≡ true
  unfolding are_zeros list
  zeros_end h = rw (none_left index end h) refl

  pub zero_good : index < end → f index ≡ 0 → are_zeros (list f index (end - index)) ≡ are_zeros (list f (index + 1) (end - (index + 1)))
  unfolding are_zeros list
  zero_good h z = rw (one_more index end h, eq-eqb (f index) 0 z) refl

  pub zero_bad : index < end → (f index ≡ 0 → ⊥) → are_zeros (list f index (end - index)) ≡ false
  unfolding are_zeros list
  zero_bad h z = rw (one_more index end h, ne_eqb (f index) 0 z) refl

-- ---- all bytes at once

pub and_assoc : (a b c : Bool) → (a && (b && c)) ≡ ((a && b) && c)
and_assoc true b c = refl
and_assoc false b c = refl

bytes_more : (s : List ℕ) (any i : ℕ) → i < length s → (eqb any 0 && are_zeros (drop i s)) ≡ (eqb (bit_or any (get_or s i 0)) 0 && are_zeros (drop (i + 1) s))
unfolding are_zeros
bytes_more s any i h =
    ap (λ (l : List ℕ). eqb any 0 && are_zeros l) (drop-cons s i 0 h) ∙ and_assoc (eqb any 0) (eqb (get_or s i 0) 0) (are_zeros (drop (suc i) s))
    ∙ rw (add-one i, or_zero any (get_or s i 0)) refl

pub and_true_right : (t : Bool) → (t && true) ≡ t
and_true_right true = refl
and_true_right false = refl

bytes_end : (s : List ℕ) (any i : ℕ) → length s ≤ i → (eqb any 0 && are_zeros (drop i s)) ≡ eqb any 0
unfolding are_zeros
bytes_end [] any zero h = and_true_right (eqb any 0)
bytes_end [] any (suc i) h = and_true_right (eqb any 0)
bytes_end (x ∷ s) any zero h = absurd (omega (arith, h))
bytes_end (x ∷ s) any (suc i) h = bytes_end s any i (omega (arith, h))

-- so many bytes were looked at, and `any` is what they are together
pub record Seen (s : List ℕ) (any i : ℕ) : Type 0 where
  pub few : i ≤ length s
  pub is : are_zeros s ≡ (eqb any 0 && are_zeros (drop i s))

pub seen_none : (s : List ℕ) → Seen s 0 0
seen_none s = record { few = omega arith; is = refl }

pub seen_more : {s : List ℕ} {any i : ℕ} → Seen s any i → i < length s → Seen s (bit_or any (get_or s i 0)) (i + 1)
seen_more {s} {any} {i} x h = record { few = omega (arith, h); is = x.is ∙ bytes_more s any i h }

pub seen_all : {s : List ℕ} {any i : ℕ} → Seen s any i → length s ≤ i → eqb any 0 ≡ are_zeros s
seen_all {s} {any} {i} x h = sym (x.is ∙ bytes_end s any i h)

pub seen_four : {s t u v : List ℕ} {a b c d i : ℕ} → Seen s a i → Seen t b i → Seen u c i → Seen v d i
    → length s ≤ i → length t ≡ length s → length u ≡ length s → length v ≡ length s
    → eqb (bit_or (bit_or a b) (bit_or c d)) 0 ≡ ((are_zeros s && are_zeros t) && (are_zeros u && are_zeros v))
seen_four {s} {t} {u} {v} {a} {b} {c} {d} {i} x y z w h k m n =
    or_zero (bit_or a b) (bit_or c d)
    ∙ rw (or_zero a b, or_zero c d, seen_all x h, seen_all y (omega (arith, h, k)), seen_all z (omega (arith, h, m)), seen_all w (omega (arith, h, n))) refl

-- ---- in parts

zeros_cut : (n : ℕ) (l : List ℕ) → are_zeros l ≡ (are_zeros (take n l) && are_zeros (drop n l))
unfolding are_zeros
zeros_cut zero l = refl
zeros_cut (suc n) [] = refl
zeros_cut (suc n) (a ∷ l) = ap (λ (t : Bool). eqb a 0 && t) (zeros_cut n l) ∙ and_assoc (eqb a 0) (are_zeros (take n l)) (are_zeros (drop n l))

-- four parts of n bytes, and the rest
pub zeros_parted : (n : ℕ) (l : List ℕ)
    → are_zeros l
    ≡ (((are_zeros (take n l) && are_zeros (take n (drop n l))) && (are_zeros (take n (drop (2 * n) l)) && are_zeros (take n (drop (3 * n) l)))) && are_zeros (drop (4 * n) l))
zeros_parted n l =
    let third : are_zeros (drop (2 * n) l) ≡ (are_zeros (take n (drop (2 * n) l)) && (are_zeros (take n (drop (3 * n) l)) && are_zeros (drop (4 * n) l))) =
    next (2 * n) (3 * n) (omega arith) ∙ ap (λ (t : Bool). are_zeros (take n (drop (2 * n) l)) && t) (next (3 * n) (4 * n) (omega arith)) in
    zeros_cut n l ∙ ap (λ (t : Bool). are_zeros (take n l) && t) (next n (2 * n) (omega arith) ∙ ap (λ (t : Bool). are_zeros (take n (drop n l)) && t) third)
    ∙ joined (are_zeros (take n l)) (are_zeros (take n (drop n l))) (are_zeros (take n (drop (2 * n) l))) (are_zeros (take n (drop (3 * n) l))) (are_zeros (drop (4 * n) l))
  where
    next : (i j : ℕ) → i + n ≡ j → are_zeros (drop i l) ≡ (are_zeros (take n (drop i l)) && are_zeros (drop j l))
    next i j e = zeros_cut n (drop i l) ∙ ap (λ (m : List ℕ). are_zeros (take n (drop i l)) && are_zeros m) (drop-drop n i l ∙ ap (λ (k : ℕ). drop k l) e)

    joined : (a b c d e : Bool) → (a && (b && (c && (d && e)))) ≡ (((a && b) && (c && d)) && e)
    joined false b c d e = refl
    joined true false c d e = refl
    joined true true c d e = and_assoc c d e

and_none : (t : Bool) → (t && false) ≡ false
and_none true = refl
and_none false = refl

-- as they are lent
module _ (n : ℕ) (l : List ℕ) where
  abbrev lent : ℕ → ℕ → Bool
  lent a e = are_zeros (take (e - a) (drop a l))

  abbrev four : Bool
  four = (lent 0 n && lent n (2 * n)) && (lent (2 * n) (3 * n) && lent (3 * n) (4 * n))

  lent_parts : are_zeros l ≡ (four && are_zeros (take (length l - 4 * n) (drop (4 * n) l)))
  lent_parts =
      let a : n - 0 ≡ n = omega arith in
      let b : 2 * n - n ≡ n = omega arith in
      let c : 3 * n - 2 * n ≡ n = omega arith in
      let d : 4 * n - 3 * n ≡ n = omega arith in
      rw (a, b, c, d, part_rest (4 * n) l) (zeros_parted n l)

  pub rest_not : are_zeros (take (length l - 4 * n) (drop (4 * n) l)) ≡ false → false ≡ are_zeros l
  rest_not e = sym (lent_parts ∙ rw e (and_none four))

  pub rest_zero : are_zeros (take (length l - 4 * n) (drop (4 * n) l)) ≡ true → four ≡ are_zeros l
  rest_zero e = sym (lent_parts ∙ rw e (and_true_right four))

-- in front, and from there on
pub front_not : (n : ℕ) (l : List ℕ) → are_zeros (take (n - 0) l) ≡ false → false ≡ are_zeros l
front_not n l e = let a : n - 0 ≡ n = omega arith in sym (zeros_cut n l ∙ rw (rw a at e) refl)

pub front_zero : (n : ℕ) (l : List ℕ) → are_zeros (take (n - 0) l) ≡ true → are_zeros (take (length l - n) (drop n l)) ≡ are_zeros l
front_zero n l e = let a : n - 0 ≡ n = omega arith in ap are_zeros (part_rest n l) ∙ sym (zeros_cut n l ∙ rw (rw a at e) refl)
