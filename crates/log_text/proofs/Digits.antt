-- Hexadecimal and decimal digits.
use Prim.Native.Nat.{ℕ, zero, suc, ◌+◌, ◌*◌, ◌-◌, ◌/◌, ◌%◌, ◌^◌, ◌≤◌, ◌<◌}
use native.Mathlib.Nat.{zero-add, suc-add, add_comm, div-div-eq-div-mul, div-one, pow-succ', mod-lt}
use native.Mathlib.Omega.{arith}
use native.Mathlib.Decide.{dec_lt}
use mathlib.Core.Path.{◌≡◌, refl, sym, ap, ap₂, ◌∙◌}
use mathlib.Core.List.{List, [], ◌∷◌, ◌++◌}
use lib.ListN.{length, length-append}
use lib.Pow.{pow-add}
use lib.Dec.{ltb}
use mathlib.Core.Bool.{Bool, true, false, cond}
use borrow.Author.Tests.{lt-ltb, le-ltb}
use Rattle.format.specs.Listing.{hex, hex_digit, decimal, decimal_in}

-- the digits of the higher part, and those of the lower
pub hex_cat : (a b n : ℕ) → hex (a + b) n ≡ hex a (n / 16 ^ b) ++ hex b n
unfolding hex
hex_cat zero b n = rw (zero-add b)
hex_cat (suc a) b n =
    let e : n / 16 ^ (a + b) ≡ n / 16 ^ b / 16 ^ a = ap (λ (m : ℕ). n / m) (ap (λ (k : ℕ). 16 ^ k) (add_comm a b) ∙ pow-add 16 b a) ∙ sym (div-div-eq-div-mul n (16 ^ b) (16 ^ a)) in
    rw (suc-add a b) (ap₂ (λ (u : ℕ) (t : List ℕ). hex_digit (u % 16) ∷ t) e (hex_cat a b n))

pub hex_two : (n : ℕ) → hex 2 n ≡ hex_digit (n / 16 % 16) ∷ hex_digit (n % 16) ∷ []
unfolding hex
hex_two n = rw (div-one n)

-- more digits than there are change nothing
fuel : (k n : ℕ) → n < 10 ^ suc k → decimal_in (suc k) n ≡ decimal_in (suc (suc k)) n
unfolding decimal_in
fuel zero n h = rw (lt-ltb n 10 h)
fuel (suc k) n h = go (dec_lt n 10) (fuel k (n / 10))
  where
    go : Dec (n < 10) → (n / 10 < 10 ^ suc k → decimal_in (suc k) (n / 10) ≡ decimal_in (suc (suc k)) (n / 10)) → decimal_in (suc (suc k)) n ≡ decimal_in (suc (suc (suc k))) n
    go (yes g) f = rw (lt-ltb n 10 g)
    go (no g) f =
        let g' : 10 ≤ n = omega arith in
        let l : n / 10 < 10 ^ suc k = omega (arith, pow-succ' 10 (suc k)) in
        rw (le-ltb n 10 g') (ap (λ (t : List ℕ). t ++ (48 + n % 10) ∷ []) (f l))

pub decimal_one : (n : ℕ) → n < 10 → decimal n ≡ (48 + n) ∷ []
unfolding decimal decimal_in
decimal_one n h = rw (lt-ltb n 10 h)

pub decimal_more : (n : ℕ) → 10 ≤ n → n < 2 ^ 64 → decimal n ≡ decimal (n / 10) ++ (48 + n % 10) ∷ []
unfolding decimal decimal_in
decimal_more n h g = rw (le-ltb n 10 h) (ap (λ (t : List ℕ). t ++ (48 + n % 10) ∷ []) (fuel 18 (n / 10) (omega arith)))

pub decimal_long : (n : ℕ) → 10 ≤ n → n < 2 ^ 64 → length (decimal n) ≡ length (decimal (n / 10)) + 1
decimal_long n h g = ap length (decimal_more n h g) ∙ length-append (decimal (n / 10)) ((48 + n % 10) ∷ [])

in_few : (k n : ℕ) → length (decimal_in k n) ≤ k
unfolding decimal_in
in_few zero n = omega arith
in_few (suc zero) n = go (ltb n 10)
  where
    go : (b : Bool) → length (cond b ((48 + n) ∷ []) (decimal_in zero (n / 10) ++ (48 + n % 10) ∷ [])) ≤ 1
    go true = omega arith
    go false = omega arith
in_few (suc (suc k)) n = go (ltb n 10) (in_few (suc k) (n / 10))
  where
    go : (b : Bool) → length (decimal_in (suc k) (n / 10)) ≤ suc k → length (cond b ((48 + n) ∷ []) (decimal_in (suc k) (n / 10) ++ (48 + n % 10) ∷ [])) ≤ suc (suc k)
    go true f = omega arith
    go false f = rw (length-append (decimal_in (suc k) (n / 10)) ((48 + n % 10) ∷ [])) (omega arith)

-- a decimal number has at most twenty digits
pub decimal_few : (n : ℕ) → length (decimal n) ≤ 20
unfolding decimal
decimal_few n = in_few 20 n

pub hex_long : (k n : ℕ) → length (hex k n) ≡ k
unfolding hex
hex_long zero n = refl
hex_long (suc k) n = ap suc (hex_long k n)

pub decimal_two : (n : ℕ) → n < 100 → length (decimal n) ≤ 2
decimal_two n h = go (dec_lt n 10)
  where
    go : Dec (n < 10) → length (decimal n) ≤ 2
    go (yes g) = rw (decimal_one n g) (omega arith)
    go (no g) =
        let g' : 10 ≤ n = omega arith in
        let l : n / 10 < 10 = omega arith in
        omega (arith, decimal_long n g' (omega arith), ap length (decimal_one (n / 10) l))
