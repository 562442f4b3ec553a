-- The same word many times, from the front.
use Prim.Native.Nat.{ℕ, suc, ◌-◌, ◌≤◌, ◌<◌}
use native.Mathlib.Omega.{arith}
use mathlib.Core.Path.{◌≡◌, refl, ap, ◌∙◌}
use Rattle.format.specs.Lists.{list}
use Rattle.format.specs.Laws.Lists.{list_same}
use Rattle.crc.specs.Running.{next_check, next_five, check_from, same}

pub same_none : (r w n : ℕ) → n ≡ 0 → check_from r (same w n) ≡ r
unfolding list check_from
same_none r w n e = ap (λ (i : ℕ). check_from r (same w i)) e

same_next : (r w n : ℕ) → check_from r (same w (suc n)) ≡ check_from (next_check r w) (same w n)
unfolding list check_from
same_next r w n = ap (check_from (next_check r w)) (list_same (λ i. w) (λ i. w) n 1 0 (λ i h. refl))

pub same_one : (r w n : ℕ) → 0 < n → check_from r (same w n) ≡ check_from (next_check r w) (same w (n - 1))
same_one r w n h =
    let e : n ≡ suc (n - 1) = omega arith in
    ap (λ (i : ℕ). check_from r (same w i)) e ∙ same_next r w (n - 1)

pub same_five : (r w n : ℕ) → 5 ≤ n → check_from r (same w n) ≡ check_from (next_five r w) (same w (n - 5))
same_five r w n h =
    let m : ℕ = n - 5 in
    let e : n ≡ suc (suc (suc (suc (suc (n - 5))))) = omega arith in
    let one : ℕ → ℕ = λ c. next_check c w in
    ap (λ (i : ℕ). check_from r (same w i)) e ∙ same_next r w (suc (suc (suc (suc m)))) ∙ same_next (one r) w (suc (suc (suc m)))
    ∙ same_next (one (one r)) w (suc (suc m)) ∙ same_next (one (one (one r))) w (suc m) ∙ same_next (one (one (one (one r)))) w m
