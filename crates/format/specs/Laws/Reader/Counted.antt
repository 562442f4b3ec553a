-- Words that are told by their numbers.
use Rattle.std.specs.Prelude.{ℕ, zero, suc, ◌+◌, ◌≤◌, ◌<◌, ◌≡◌, refl, List, [], ◌∷◌, ◌++◌, length, drop, get_or}
use Rattle.std.proofs.Common.{arith, ap, ◌∙◌, drop-cons}
use Rattle.format.specs.Reader.{Slot, counted}

pub counted_length : (n : ℕ) (ws : List ℕ) → length (counted n ws) ≡ length ws
unfolding counted
counted_length n [] = refl
counted_length n (w ∷ ws) = ap suc (counted_length (n + 1) ws)

pub counted_append : (n : ℕ) (xs ys : List ℕ) → counted n (xs ++ ys) ≡ counted n xs ++ counted (n + length xs) ys
unfolding counted
counted_append n [] ys =
    let e : n ≡ n + 0 = omega arith in
    ap (λ (k : ℕ). counted k ys) e
counted_append n (x ∷ xs) ys =
    let e : n + 1 + length xs ≡ n + suc (length xs) = omega arith in
    ap (λ (l : List Slot). (n, x) ∷ l) (counted_append (n + 1) xs ys ∙ ap (λ (k : ℕ). counted (n + 1) xs ++ counted k ys) e)

-- the words from the word i on
pub drop_next : (i : ℕ) (ws : List ℕ) → i < length ws → drop i ws ≡ get_or ws i 0 ∷ drop (i + 1) ws
drop_next i ws h =
    let e : suc i ≡ i + 1 = omega arith in
    drop-cons ws i 0 h ∙ ap (λ (k : ℕ). get_or ws i 0 ∷ drop k ws) e

pub drop_none : (i : ℕ) (ws : List ℕ) → length ws ≤ i → drop i ws ≡ []
drop_none zero [] h = refl
drop_none (suc i) [] h = refl
drop_none zero (w ∷ ws) h = absurd (omega arith)
drop_none (suc i) (w ∷ ws) h = drop_none i ws (omega arith)

pub counted_one : (n w : ℕ) (ws : List ℕ) → counted n (w ∷ ws) ≡ (n, w) ∷ counted (n + 1) ws
unfolding counted
counted_one n w ws = refl

pub counted_next : (n i : ℕ) (ws : List ℕ) → i < length ws → counted (n + i) (drop i ws) ≡ (n + i, get_or ws i 0) ∷ counted (n + (i + 1)) (drop (i + 1) ws)
counted_next n i ws h =
    let e : n + i + 1 ≡ n + (i + 1) = omega arith in
    ap (counted (n + i)) (drop_next i ws h) ∙ counted_one (n + i) (get_or ws i 0) (drop (i + 1) ws)
    ∙ ap (λ (k : ℕ). (n + i, get_or ws i 0) ∷ counted k (drop (i + 1) ws)) e

pub counted_none : (n i : ℕ) (ws : List ℕ) → length ws ≤ i → counted n (drop i ws) ≡ []
unfolding counted
counted_none n i ws h = ap (counted n) (drop_none i ws h)

pub counted_all : (n : ℕ) (ws : List ℕ) → counted n ws ≡ counted (n + 0) (drop 0 ws)
counted_all n ws = let e : n ≡ n + 0 = omega arith in ap (λ (k : ℕ). counted k ws) e
