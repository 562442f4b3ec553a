-- The row of events, looked at one by one.
use Prim.Native.Nat.{ℕ, zero, suc, ◌+◌, ◌≤◌, ◌<◌}
use native.Mathlib.Numerals.{add-one}
use native.Mathlib.Omega.{arith}
use mathlib.Core.Bool.{Bool, true, false, cond, ◌&&◌, ◌||◌}
use mathlib.Core.Path.{◌≡◌, refl}
use mathlib.Core.List.{List}
use lib.ListN.{length, drop, get_or, drop_of_length-le}
use lib.Seq.{drop-cons}
use lib.Dec.{eqb}
use borrow.Author.Tests.{ne_eqb}
use Rattle.log_rules.specs.Replay.{arrivals, events_known}

-- of one of the two kinds
of_a_kind : (e : ℕ) → e ≤ 1 → (eqb e 0 || eqb e 1) ≡ true
of_a_kind zero h = refl
of_a_kind (suc zero) h = refl
of_a_kind (suc (suc e)) h = absurd (omega arith)

of_none : (e : ℕ) → 1 < e → (eqb e 0 || eqb e 1) ≡ false
of_none e h = rw (ne_eqb e 0 (λ z. omega (arith, z)), ne_eqb e 1 (λ z. omega (arith, z))) refl

module _ (es : List ℕ) (i : ℕ) where
  pub known_end : length es ≤ i → events_known (drop i es) ≡ true
  unfolding events_known
  known_end h = rw (drop_of_length-le es h) refl

  pub known_bad : i < length es → 1 < get_or es i 0 → events_known (drop i es) ≡ false
  unfolding events_known
  known_bad h b = rw (drop-cons es i 0 h, of_none (get_or es i 0) b) refl

  pub known_good : i < length es → get_or es i 0 ≤ 1 → events_known (drop i es) ≡ events_known (drop (i + 1) es)
  unfolding events_known
  known_good h b = rw (drop-cons es i 0 h, of_a_kind (get_or es i 0) b, add-one i) refl

  pub arrivals_end : length es ≤ i → arrivals (drop i es) ≡ 0
  unfolding arrivals
  arrivals_end h = rw (drop_of_length-le es h) refl

  pub arrivals_more : i < length es → arrivals (drop i es) ≡ cond (eqb (get_or es i 0) 0) 1 0 + arrivals (drop (i + 1) es)
  unfolding arrivals
  arrivals_more h = rw (drop-cons es i 0 h, add-one i) (go (eqb (get_or es i 0) 0))
    where
      go : (b : Bool) → cond b (arrivals (drop (suc i) es) + 1) (arrivals (drop (suc i) es)) ≡ cond b 1 0 + arrivals (drop (suc i) es)
      go true = omega arith
      go false = omega arith
