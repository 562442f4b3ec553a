-- Which faults a state may keep.
use Prim.Native.Nat.{ℕ, zero, suc, ◌+◌, ◌*◌, ◌^◌, ◌≤◌, ◌<◌}
use native.Mathlib.Decide.{dec_lt}
use native.Mathlib.Omega.{arith}
use mathlib.Core.Bool.{Bool, true, false, cond, ◌&&◌, ◌||◌}
use mathlib.Core.Path.{◌≡◌, refl, ◌∙◌}
use lib.Dec.{eqb, leb, ltb}
use borrow.Author.Tests.{eq-eqb, le-leb, le-ltb, lt-leb, lt-ltb, ne_eqb}
use Rattle.stream_rules.specs.Stream.{failed, fits, most_bytes, second_fits}

pub same_fault : {k k' q q' s s' : ℕ} → k ≡ k' → q ≡ q' → s ≡ s' → fits (failed k q s) ≡ fits (failed k' q' s')
same_fault a b c = rw (a, b, c) refl

abbrev is_fault : ℕ → Bool
is_fault k = leb 9 k && leb k 13 || eqb k 15

module _ (k place second : ℕ) where
  not_number : is_fault k ≡ false → fits (failed k place second) ≡ false
  unfolding fits
  not_number e = rw e refl

  pub too_low : k < 9 → fits (failed k place second) ≡ false
  too_low h = not_number (rw (lt-leb 9 k h, ne_eqb k 15 (λ e. absurd (omega (arith, e, h)))) refl)

  pub too_high : 15 < k → fits (failed k place second) ≡ false
  too_high h = not_number (rw (le-leb 9 k (omega (arith, h)), lt-leb k 13 (omega (arith, h)), ne_eqb k 15 (λ e. absurd (omega (arith, e, h)))) refl)

  pub fourteen : k ≡ 14 → fits (failed k place second) ≡ false
  fourteen e = not_number (rw e refl)

  is_number : 9 ≤ k → k ≤ 15 → (k ≡ 14 → ⊥) → is_fault k ≡ true
  is_number low high not = go (dec_lt k 14)
    where
      go : Dec (k < 14) → is_fault k ≡ true
      go (yes h) = rw (le-leb 9 k low, le-leb k 13 (omega (arith, h))) refl
      go (no h) =
          let e : k ≡ 15 = omega (arith, h, not, high) in
          rw e refl

  module _ (low : 9 ≤ k) (high : k ≤ 15) (not : k ≡ 14 → ⊥) where
    pub far : 366503875925 < place → fits (failed k place second) ≡ false
    unfolding fits
    far h = rw (is_number low high not, le-ltb (3 * place) most_bytes (omega (arith, h))) refl

    near : place ≤ 366503875925 → fits (failed k place second) ≡ second_fits k second
    unfolding fits
    near h = rw (is_number low high not, lt-ltb (3 * place) most_bytes (omega (arith, h))) refl

    pub two_places : place ≤ 366503875925 → k ≡ 13 → fits (failed k place second) ≡ leb second 366503875925
    two_places h e = near h ∙ rw (eq-eqb k 13 e) (go (dec_lt second 366503875926))
      where
        go : Dec (second < 366503875926) → ltb (3 * second) most_bytes ≡ leb second 366503875925
        go (yes l) = rw (lt-ltb (3 * second) most_bytes (omega (arith, l)), le-leb second 366503875925 (omega (arith, l))) refl
        go (no l) = rw (le-ltb (3 * second) most_bytes (omega (arith, l)), lt-leb second 366503875925 (omega (arith, l))) refl

    pub one_place : place ≤ 366503875925 → (k ≡ 13 → ⊥) → fits (failed k place second) ≡ eqb second 0
    one_place h e = near h ∙ rw (ne_eqb k 13 e) refl
