-- A closed state is all zeros.
use Prim.Native.Nat.{ℕ, zero, suc, ◌+◌, ◌*◌, ◌≤◌}
use native.Mathlib.Omega.{arith}
use native.Mathlib.Numerals.{add-one}
use mathlib.Core.Path.{◌≡◌, refl, ap, ap₂, sym, ◌∙◌}
use mathlib.Core.List.{List, [], ◌∷◌, ◌++◌, append-nil, flat_map}
use lib.ListN.{length, drop, replicate, set}
use lib.Seq.{drop-length}
use Rattle.format.specs.Laws.Front.{Front, front_more}
use Rattle.from_c.specs.Numbers.{time_bytes}
use Rattle.stream_rules.specs.Stream.{closed}
use Rattle.stream_state.specs.Layout.{row_bytes, state_bytes}

abbrev noughts : ℕ → List ℕ
noughts n = replicate n 0

pub zeros_add : (a b : ℕ) → noughts a ++ noughts b ≡ noughts (a + b)
zeros_add zero b = let e : zero + b ≡ b = omega arith in ap (λ (n : ℕ). replicate n 0) (sym e)
zeros_add (suc a) b = let e : suc a + b ≡ suc (a + b) = omega arith in ap (λ (l : List ℕ). 0 ∷ l) (zeros_add a b) ∙ ap (λ (n : ℕ). replicate n 0) (sym e)

pub zero_times : (n : ℕ) → flat_map time_bytes (replicate n 0) ≡ replicate (8 * n) 0
unfolding flat_map time_bytes
zero_times zero = refl
zero_times (suc n) =
    let m : 8 * suc n ≡ suc (suc (suc (suc (suc (suc (suc (suc (8 * n)))))))) = omega arith in
    rw (m, zero_times n) refl

pub closed_bytes : replicate 7168 0 ≡ state_bytes closed
unfolding row_bytes
closed_bytes =
    sym (ap₂ (λ (l m : List ℕ). l ++ m) (zero_times 101) (zeros_add 216 6144) ∙ zeros_add 808 6360)

-- one zero more, and all
pub zero_more : {d xs : List ℕ} (i : ℕ) → Front (replicate i 0) d xs i → suc i ≤ length d → Front (replicate (i + 1) 0) d (set xs i 0) (i + 1)
zero_more {d} {xs} i f h = let e : noughts i ++ 0 ∷ [] ≡ noughts (i + 1) = zeros_add i 1 in rw e at (front_more 0 f h)

pub zeros_all : {d xs : List ℕ} (i : ℕ) → Front (replicate i 0) d xs i → i ≡ length d → xs ≡ replicate (length d) 0
zeros_all {d} {xs} i f e =
    f.is ∙ ap₂ (λ (l m : List ℕ). l ++ m) (ap (λ (n : ℕ). replicate n 0) e) (ap (λ (n : ℕ). drop n d) e ∙ drop-length d) ∙ append-nil (replicate (length d) 0)
