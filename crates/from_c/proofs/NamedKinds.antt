-- Whether numbers name kinds, one after the other.
use Prim.Native.Nat.{ℕ, zero, suc, ◌+◌, ◌<◌, ◌≤◌}
use native.Mathlib.Numerals.{add-one}
use native.Mathlib.Omega.{arith}
use mathlib.Core.Bool.{Bool, true, false, ◌&&◌}
use mathlib.Core.Path.{◌≡◌, refl, sym, ap, ◌∙◌}
use mathlib.Core.List.{List, [], ◌∷◌}
use lib.ListN.{length, drop, get_or}
use lib.Dec.{leb}
use Rattle.from_c.specs.Numbers.{are_kinds}

kinds_end : (s : List ℕ) (i : ℕ) → length s ≤ i → are_kinds (drop i s) ≡ true
unfolding are_kinds
kinds_end [] zero h = refl
kinds_end [] (suc i) h = refl
kinds_end (n ∷ s) zero h = absurd (omega arith)
kinds_end (n ∷ s) (suc i) h = kinds_end s i (omega arith)

kind_next : (s : List ℕ) (i : ℕ) → i < length s → are_kinds (drop i s) ≡ (leb (get_or s i 0) 2 && are_kinds (drop (i + 1) s))
unfolding are_kinds
kind_next [] i h = absurd (omega arith)
kind_next (n ∷ s) zero h = refl
kind_next (n ∷ s) (suc i) h =
    kind_next s i (omega arith) ∙ ap (λ (m : ℕ). leb (get_or s i 0) 2 && are_kinds (drop m s)) (add-one i)
    ∙ sym (ap (λ (m : ℕ). leb (get_or s i 0) 2 && are_kinds (drop m (n ∷ s))) (add-one (suc i)))

and_and : (a b d : Bool) → (a && (b && d)) ≡ ((a && b) && d)
and_and true b d = refl
and_and false b d = refl

-- the kinds so far, and then those to come
pub kinds_so_far : (s : List ℕ) (i : ℕ) (good : Bool) {now : Bool} → i < length s → are_kinds s ≡ (good && are_kinds (drop i s)) → now ≡ (good && leb (get_or s i 0) 2)
    → are_kinds s ≡ (now && are_kinds (drop (i + 1) s))
kinds_so_far s i good h e n = e ∙ ap (λ (b : Bool). good && b) (kind_next s i h) ∙ and_and good (leb (get_or s i 0) 2) (are_kinds (drop (i + 1) s)) ∙ sym (ap (λ (b : Bool). b && are_kinds (drop (i + 1) s)) n)

pub kinds_all : (s : List ℕ) (i : ℕ) (good : Bool) → length s ≤ i → are_kinds s ≡ (good && are_kinds (drop i s)) → good ≡ are_kinds s
kinds_all s i good h e = sym (e ∙ ap (λ (b : Bool). good && b) (kinds_end s i h) ∙ and_true' good)
  where
    and_true' : (b : Bool) → (b && true) ≡ b
    and_true' true = refl
    and_true' false = refl
