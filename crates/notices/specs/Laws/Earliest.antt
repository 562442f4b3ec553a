-- The earliest of numbers that are one up, 0 for none: it is told by what it is not below.
use Rattle.std.specs.Prelude.{ℕ, zero, suc, ◌+◌, ◌≤◌, ◌<◌, Bool, true, false, cond, ◌≡◌, refl, List, [], ◌∷◌, length, get_or, eqb, leb}
use Rattle.std.proofs.Common.{arith, sym, ◌∙◌, eqb-true, leb-true, leb-false}
use Rattle.std.proofs.lemmas.Bool.{eqb-false}
use Rattle.notices.specs.Table.{earlier, earliest_of}

-- none, or b at the least
abbrev pub Above : ℕ → ℕ → Type 0
Above b m = (m ≡ 0 → ⊥) → b ≤ m

-- two numbers that are above the same are the same
pub above_same : (m n : ℕ) → ((b : ℕ) → Above b m → Above b n) → ((b : ℕ) → Above b n → Above b m) → m ≡ n
above_same zero zero f g = refl
above_same zero (suc n) f g =
    let h : suc (suc n) ≤ suc n = f (suc (suc n)) (λ z. absurd (z refl)) (λ (z : suc n ≡ 0). omega arith) in
    absurd (omega arith)
above_same (suc m) zero f g =
    let h : suc (suc m) ≤ suc m = g (suc (suc m)) (λ z. absurd (z refl)) (λ (z : suc m ≡ 0). omega arith) in
    absurd (omega arith)
above_same (suc m) (suc n) f g =
    let h : suc m ≤ suc n = f (suc m) (λ z. omega arith) (λ (z : suc n ≡ 0). omega arith) in
    let k : suc n ≤ suc m = g (suc n) (λ z. omega arith) (λ (z : suc m ≡ 0). omega arith) in
    omega arith

-- the earlier of two is above what both are above
pub earlier_above : (b m n : ℕ) → Above b (earlier m n) → Above b m × Above b n
unfolding earlier
earlier_above b m n h = go (eqb m 0) (eqb n 0) (leb m n) refl refl refl h
  where
    go : (s t u : Bool) → eqb m 0 ≡ s → eqb n 0 ≡ t → leb m n ≡ u → Above b (cond s n (cond t m (cond u m n))) → Above b m × Above b n
    go true t u e f l h = (λ z. absurd (z (eqb-true m 0 e)), h)
    go false true u e f l h = (h, λ z. absurd (z (eqb-true n 0 f)))
    go false false true e f l h =
        let k : b ≤ m = h (eqb-false m 0 e) in
        let o : m ≤ n = leb-true m n l in
        (λ z. k, λ z. omega arith)
    go false false false e f l h =
        let k : b ≤ n = h (eqb-false n 0 f) in
        let o : n < m = leb-false m n l in
        (λ z. omega arith, λ z. k)

pub above_earlier : (b m n : ℕ) → Above b m → Above b n → Above b (earlier m n)
unfolding earlier
above_earlier b m n h k = go (eqb m 0) (eqb n 0) (leb m n)
  where
    go : (s t u : Bool) → Above b (cond s n (cond t m (cond u m n)))
    go true t u = k
    go false true u = h
    go false false true = h
    go false false false = k

-- the earliest of a table is above what each is above
pub earliest_above : (b f : ℕ) (t : List ℕ) → Above b (earliest_of f t) → Above b f × ((k : ℕ) → k < length t → Above b (get_or t k 0))
unfolding earliest_of
earliest_above b f [] h = (h, λ k l. absurd (omega arith))
earliest_above b f (x ∷ t) h =
    let i = earliest_above b (earlier f x) t h in
    let e = earlier_above b f x i.0 in
    (e.0, λ k l. each e.1 i.1 k l)
  where
    each : Above b x → ((k : ℕ) → k < length t → Above b (get_or t k 0)) → (k : ℕ) → k < suc (length t) → Above b (get_or (x ∷ t) k 0)
    each own rest zero l = own
    each own rest (suc k) l = rest k (omega arith)

pub above_earliest : (b f : ℕ) (t : List ℕ) → Above b f → ((k : ℕ) → k < length t → Above b (get_or t k 0)) → Above b (earliest_of f t)
unfolding earliest_of
above_earliest b f [] h each = h
above_earliest b f (x ∷ t) h each = above_earliest b (earlier f x) t (above_earlier b f x h (each 0 (omega arith))) (λ k l. each (suc k) (omega arith))
