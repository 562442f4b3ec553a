-- The end mark: all bits that are left, its own among them, are zero, and they are fewer than twelve.
use Prim.Native.Nat.{ℕ, ◌+◌, ◌-◌, ◌/◌, ◌%◌, ◌^◌, ◌≤◌, ◌<◌}
use native.Mathlib.Nat.{add-zero, mod-eq_of_lt, zero-div}
use native.Mathlib.Omega.{arith}
use native.Mathlib.Decide.{dec_lt}
use mathlib.Core.Bool.{Bool, true, false, cond, ◌&&◌}
use mathlib.Core.Path.{◌≡◌, refl, ap, sym, ◌∙◌}
use mathlib.Core.List.{List}
use lib.ListN.{length, drop, length-drop}
use lib.Seq.{take_all}
use lib.Dec.{eqb, leb, ltb}
use lib.Pow.{shr_lt, shr-shr}
use borrow.Author.Tests.{eq-eqb, eqb-true, eqb-false, le-leb, lt-leb, leb-true, ltb-true, lt-ltb, le-ltb, ne_eqb}
use Rattle.format.specs.Bits.{num_of}
use Rattle.format.specs.Laws.Tests.{and_true}
use Rattle.format.specs.Log.{field, end_at, next_at, ends, wrong}
use Rattle.log_read.specs.declared.Cursor.{Cursor}
use Rattle.log_read.specs.Cursor.{Ahead, took_of}
use Rattle.log_read.specs.Fields.{ends_of, head_of}
use Rattle.log_read.proofs.Items.{next_past}
use Rattle.log_read.proofs.Taken.{took_field}

-- l bits are left from p on
module _ {s : List ℕ} {p : ℕ} {c : Cursor} (a : Ahead s p 57 0 c) (l : ℕ) (e : p + l ≡ length s) (lo : 4 ≤ l) where
  -- the kind among them
  kind_zero : (took_of c l).field ≡ 0 → l ≤ 57 → (took_of c 4).field ≡ 0
  unfolding took_of
  kind_zero z few =
      let q : 60 ≡ (64 - l) + (l - 4) = omega arith in
      ap (λ (k : ℕ). c.ahead / 2 ^ k) q ∙ sym (shr-shr c.ahead (64 - l) (l - 4)) ∙ ap (λ (k : ℕ). k / 2 ^ (l - 4)) z ∙ zero-div (2 ^ (l - 4))

  module _ (z : (took_of c 4).field ≡ 0) where
    mark_next : next_at s p ≡ end_at s p
    unfolding next_at
    mark_next = rw (le-leb (p + 4) (length s) (omega arith), ap (λ (q : ℕ). field s q 4) (sym (add-zero p)), took_field a (omega arith) 4 (omega arith) (omega arith), eq-eqb (took_of c 4).field 0 z)

    mark_far : 12 ≤ l → next_at s p ≡ wrong
    mark_far h = mark_next ∙ rw (le-ltb (length s) (p + 12) (omega arith))

    module _ (hi : l < 12) where
      rest_num : num_of (drop (p + 4) s) ≡ (took_of c l).field
      unfolding field took_of
      rest_num =
          let r : 64 - 4 - (l - 4) ≡ 64 - l = omega arith in
          let q : l - 4 + (64 - l) ≡ 60 = omega arith in
          let small : c.ahead < 2 ^ (l - 4 + (64 - l)) = rw q (omega (arith, a.small, z)) in
          let all : length (drop (p + 4) s) ≤ l - 4 = simp length-drop (omega arith) in
          ap num_of (sym (take_all (l - 4) (drop (p + 4) s) all))
          ∙ a.bits 4 (l - 4) (omega arith) (omega arith)
          ∙ ap (λ (n : ℕ). c.ahead / 2 ^ n % 2 ^ (l - 4)) r
          ∙ mod-eq_of_lt (shr_lt (l - 4) (64 - l) small)

      near : ltb (length s) (p + 12) ≡ true
      near = lt-ltb (length s) (p + 12) (omega arith)

      mark_good : (took_of c l).field ≡ 0 → next_at s p ≡ ends
      mark_good h = mark_next ∙ rw (near, rest_num, eq-eqb (took_of c l).field 0 h)

      mark_bad : ((took_of c l).field ≡ 0 → ⊥) → next_at s p ≡ wrong
      mark_bad h = mark_next ∙ rw (near, rest_num, ne_eqb (took_of c l).field 0 h)

module _ {s : List ℕ} {p : ℕ} {c : Cursor} (a : Ahead s p 57 0 c) (total : ℕ) (size : length s ≡ total) (within : p ≤ total) where
  pub ends_good : ends_of c total ≡ true → next_at s p ≡ ends
  unfolding ends_of
  ends_good h =
      let l : ℕ = total - c.at in
      let e : p + l ≡ length s = omega (arith, a.place, size, within) in
      let b = and_true (leb 4 l) (ltb l 12 && eqb (took_of c l).field 0) h in
      let d = and_true (ltb l 12) (eqb (took_of c l).field 0) b.1 in
      let lo : 4 ≤ l = leb-true 4 l b.0 in
      let hi : l < 12 = ltb-true l 12 d.0 in
      let z : (took_of c l).field ≡ 0 = eqb-true (took_of c l).field 0 d.1 in
      mark_good a l e lo (kind_zero a l e lo z (omega arith)) hi z

  -- the kind of an end mark is 0
  pub ends_kind : ends_of c total ≡ true → (head_of c).kind ≡ 0
  unfolding ends_of head_of
  ends_kind h =
      let l : ℕ = total - c.at in
      let e : p + l ≡ length s = omega (arith, a.place, size, within) in
      let b = and_true (leb 4 l) (ltb l 12 && eqb (took_of c l).field 0) h in
      let d = and_true (ltb l 12) (eqb (took_of c l).field 0) b.1 in
      kind_zero a l e (leb-true 4 l b.0) (eqb-true (took_of c l).field 0 d.1) (omega (arith, ltb-true l 12 d.0))

  pub ends_bad : ends_of c total ≡ false → (head_of c).kind ≡ 0 → next_at s p ≡ wrong
  unfolding ends_of head_of
  ends_bad h z = go (dec_lt (total - c.at) 4) (dec_lt (total - c.at) 12)
    where
      e : p + (total - c.at) ≡ length s
      e = omega (arith, a.place, size, within)

      go : Dec (total - c.at < 4) → Dec (total - c.at < 12) → next_at s p ≡ wrong
      go (yes lo) b = next_past s p (omega (arith, e))
      go (no lo) (no hi) = mark_far a (total - c.at) e (omega arith) z (omega arith)
      go (no lo) (yes hi) =
          let l : ℕ = total - c.at in
          let f : eqb (took_of c l).field 0 ≡ false = rw (le-leb 4 l (omega arith), lt-ltb l 12 hi) at h in
          mark_bad a l e (omega arith) z hi (eqb-false (took_of c l).field 0 f)

  pub ends_here : (head_of c).kind ≡ 0 → next_at s p ≡ cond (ends_of c total) ends wrong
  ends_here z = go (ends_of c total) refl
    where
      go : (b : Bool) → ends_of c total ≡ b → next_at s p ≡ cond b ends wrong
      go true e = ends_good e
      go false e = ends_bad e z
