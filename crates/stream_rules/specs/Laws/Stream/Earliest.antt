-- "at the close the earliest" (document 02, K4): of the unanswered notices' numbers the smallest; numbers rise in dealt order.
use Rattle.std.specs.Prelude.{ℕ, zero, suc, ◌≤◌, Bool, true, false, cond, ◌≡◌, refl, ◌⊎◌, List, [], ◌∷◌, get_or, ltb, eqb}
use Rattle.std.proofs.Common.{arith, sym, ◌∙◌, inl, inr, eqb-true, ltb-true, ltb-false}
use Rattle.std.proofs.lemmas.Bool.{eqb-false}
use Rattle.stream_rules.specs.Stream.{lesser, earliest}

-- the smaller of two, where 0 is none
record Least (a b c : ℕ) : Type 0 where
  below_first : 1 ≤ a → (1 ≤ c) × (c ≤ a)
  below_second : 1 ≤ b → (1 ≤ c) × (c ≤ b)
  one : (c ≡ a) ⊎ (c ≡ b)

lesser_least : (a b : ℕ) → Least a b (lesser a b)
lesser_least a b = go (eqb a 0) refl (eqb b 0) refl (ltb a b) refl
  where
    go : (x : Bool) → eqb a 0 ≡ x → (y : Bool) → eqb b 0 ≡ y → (z : Bool) → ltb a b ≡ z → Least a b (cond x b (cond y a (cond z a b)))
    go true e y f z g = record { below_first = λ h. absurd (omega (arith, eqb-true a 0 e, h)); below_second = λ h. (h, omega arith); one = inr refl }
    go false e true f z g = record { below_first = λ h. (h, omega arith); below_second = λ h. absurd (omega (arith, eqb-true b 0 f, h)); one = inl refl }
    go false e false f true g =
        record { below_first = λ h. (h, omega arith); below_second = λ h. (omega (arith, eqb-false a 0 e), omega (arith, ltb-true a b g)); one = inl refl }
    go false e false f false g =
        record { below_first = λ h. (omega (arith, eqb-false b 0 f), omega (arith, ltb-false a b g)); below_second = λ h. (h, omega arith); one = inr refl }

-- none that waits is earlier
pub earliest_least : (l : List ℕ) (k : ℕ) → 1 ≤ get_or l k 0 → (1 ≤ earliest l) × (earliest l ≤ get_or l k 0)
unfolding earliest
earliest_least [] k h = absurd (omega (arith, h))
earliest_least (x ∷ l) zero h = (lesser_least x (earliest l)).below_first h
earliest_least (x ∷ l) (suc k) h =
    let r = earliest_least l k h in
    let s = (lesser_least x (earliest l)).below_second r.0 in
    (s.0, omega (arith, s.1, r.1))

-- and it is one that waits
pub earliest_one : (l : List ℕ) → 1 ≤ earliest l → (k : ℕ) × (get_or l k 0 ≡ earliest l)
unfolding earliest
earliest_one [] h = absurd (omega (arith, h))
earliest_one (x ∷ l) h = go (lesser_least x (earliest l)).one (earliest_one l)
  where
    go : (lesser x (earliest l) ≡ x) ⊎ (lesser x (earliest l) ≡ earliest l) → (1 ≤ earliest l → (k : ℕ) × (get_or l k 0 ≡ earliest l))
        → (k : ℕ) × (get_or (x ∷ l) k 0 ≡ lesser x (earliest l))
    go (inl e) ih = (0, sym e)
    go (inr e) ih =
        let r = ih (omega (arith, e, h)) in
        (suc r.0, r.1 ∙ sym e)
