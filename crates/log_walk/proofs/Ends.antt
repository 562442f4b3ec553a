-- What stands at a place by its first four bits: nothing, the end mark, an item, or an unknown kind.
use Prim.Native.Nat.{ℕ, zero, suc, ◌+◌, ◌*◌, ◌-◌, ◌/◌, ◌%◌, ◌^◌, ◌≤◌, ◌<◌}
use native.Mathlib.Nat.{mod-eq_of_lt}
use native.Mathlib.Omega.{arith}
use mathlib.Core.Bool.{true}
use mathlib.Core.Path.{◌≡◌, refl, ap, sym, ◌∙◌}
use mathlib.Core.List.{List}
use lib.ListN.{length, drop, length-drop}
use lib.Seq.{take_all}
use lib.Pow.{shr_lt}
use lib.Dec.{leb, ltb}
use borrow.Author.Tests.{ne_eqb, le-leb, lt-leb, lt-ltb, le-ltb}
use Rattle.format.specs.Bits.{bytes_bits, num_of}
use Rattle.format.specs.Log.{field, end_at, item_at, next_at, ends, wrong}
use Rattle.format.specs.Laws.Bits.{length_bytes}
use Rattle.log_walk.specs.Piece.{Window}
use Rattle.log_walk.proofs.Fields.{window_top}

-- a number that is not zero
pub pos_of : (n : ℕ) → (n ≡ 0 → ⊥) → 0 < n
pos_of zero h = absurd (h refl)
pos_of (suc n) h = omega arith

pub next_past : (log : List ℕ) (p : ℕ) → length log * 8 < p + 4 → next_at (bytes_bits log) p ≡ wrong
unfolding next_at
next_past log p h = rw (lt-leb (p + 4) (length (bytes_bits log)) (omega (arith, length_bytes log)))

-- l bits are left from p on, four or more, and w is the window there
module _ (log : List ℕ) (p l w : ℕ) (win : Window (bytes_bits log) p w) (e : p + l ≡ length log * 8) (hl : 4 ≤ l) (hw : w < 2 ^ 64) where
  four : leb (p + 4) (length (bytes_bits log)) ≡ true
  four = le-leb (p + 4) (length (bytes_bits log)) (omega (arith, length_bytes log))

  kind_top : field (bytes_bits log) p 4 ≡ w / 2 ^ 60
  kind_top = window_top (bytes_bits log) p w 4 win hw (omega arith) (omega (arith, length_bytes log))

  pub next_end : w / 2 ^ 60 ≡ 0 → next_at (bytes_bits log) p ≡ end_at (bytes_bits log) p
  unfolding next_at
  next_end z = simp (four, kind_top, z)

  pub next_item : (w / 2 ^ 60 ≡ 0 → ⊥) → next_at (bytes_bits log) p ≡ item_at (bytes_bits log) p (w / 2 ^ 60)
  unfolding next_at
  next_item z = rw (four, kind_top, ne_eqb (w / 2 ^ 60) 0 z) refl

  pub next_unknown : 8 < w / 2 ^ 60 → next_at (bytes_bits log) p ≡ wrong
  unfolding item_at
  next_unknown h = next_item (λ z. omega arith) ∙ rw (
    ne_eqb (w / 2 ^ 60) 1 (λ z. omega arith),
    ne_eqb (w / 2 ^ 60) 2 (λ z. omega arith),
    ne_eqb (w / 2 ^ 60) 3 (λ z. omega arith),
    ne_eqb (w / 2 ^ 60) 4 (λ z. omega arith),
    ne_eqb (w / 2 ^ 60) 5 (λ z. omega arith),
    ne_eqb (w / 2 ^ 60) 6 (λ z. omega arith),
    ne_eqb (w / 2 ^ 60) 7 (λ z. omega arith),
    ne_eqb (w / 2 ^ 60) 8 (λ z. omega arith),
  ) refl

  -- "zero bits fill its last byte and nothing follows"
  pub end_far : 12 ≤ l → end_at (bytes_bits log) p ≡ wrong
  end_far h = rw (le-ltb (length (bytes_bits log)) (p + 12) (omega (arith, length_bytes log)))

  module _ (hi : l < 12) (z : w / 2 ^ 60 ≡ 0) where
    rest_num : num_of (drop (p + 4) (bytes_bits log)) ≡ w / 2 ^ (64 - l)
    unfolding field
    rest_num =
        let s = bytes_bits log in
        let r : 64 - 4 - (l - 4) ≡ 64 - l = omega arith in
        let q : l - 4 + (64 - l) ≡ 60 = omega arith in
        let small : w < 2 ^ (l - 4 + (64 - l)) = rw q (omega arith) in
        let all : length (drop (p + 4) s) ≤ l - 4 = simp length-drop (omega (arith, length_bytes log)) in
        ap num_of (sym (take_all (l - 4) (drop (p + 4) s) all))
        ∙ win 4 (l - 4) (omega arith) (omega (arith, length_bytes log))
        ∙ ap (λ (n : ℕ). w / 2 ^ n % 2 ^ (l - 4)) r
        ∙ mod-eq_of_lt (shr_lt (l - 4) (64 - l) small)

    near : ltb (length (bytes_bits log)) (p + 12) ≡ true
    near = lt-ltb (length (bytes_bits log)) (p + 12) (omega (arith, length_bytes log))

    pub end_clean : w / 2 ^ (64 - l) ≡ 0 → end_at (bytes_bits log) p ≡ ends
    end_clean h = simp (near, rest_num, h)

    pub end_dirty : (w / 2 ^ (64 - l) ≡ 0 → ⊥) → end_at (bytes_bits log) p ≡ wrong
    end_dirty h = simp (near, rest_num, ne_eqb _ _ h)
