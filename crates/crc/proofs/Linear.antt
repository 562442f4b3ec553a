-- Two rules that are linear over xor and agree on the powers of two below 2 ^ k agree below 2 ^ k.
use Prim.Native.Nat.{ℕ, zero, suc, ◌+◌, ◌-◌, ◌*◌, ◌/◌, ◌%◌, ◌^◌, ◌<◌}
use native.Mathlib.Nat.{add-zero, pow-succ'}
use native.Mathlib.Omega.{arith}
use native.Mathlib.Decide.{dec_lt}
use mathlib.Core.Bool.{Bool, true, false, ◌&&◌}
use mathlib.Core.Path.{◌≡◌, sym, ap, ap₂, ◌∙◌}
use lib.Pow.{pow_pos}
use lib.Dec.{T, eqb, eqb→eq}
use lib.Bits.{bit_xor, xor_self, xor_shr, xor_mod, xor_shifted, xor_block}
use Rattle.crc.proofs.Xor.{xor_swap}

abbrev pub Linear : (ℕ → ℕ) → Type 0
Linear f = (x y : ℕ) → f (bit_xor x y) ≡ bit_xor (f x) (f y)

pub raised : (k : ℕ) → Linear (λ x. x * 2 ^ k)
raised k x y =
    sym (ap₂ bit_xor (sym (add-zero (x * 2 ^ k))) (sym (add-zero (y * 2 ^ k))) ∙ xor_block k x y 0 0 (pow_pos k) (pow_pos k) ∙ add-zero (bit_xor x y * 2 ^ k))

pub lowered : (k : ℕ) → Linear (λ x. x / 2 ^ k)
lowered k x y = xor_shr x y k

pub kept : (k : ℕ) → Linear (λ x. x % 2 ^ k)
kept k x y = xor_mod x y k

pub after : (f g : ℕ → ℕ) → Linear f → Linear g → Linear (λ x. f (g x))
after f g lf lg x y = ap f (lg x y) ∙ lf (g x) (g y)

pub added : (f g : ℕ → ℕ) → Linear f → Linear g → Linear (λ x. bit_xor (f x) (g x))
added f g lf lg x y = ap₂ bit_xor (lf x y) (lg x y) ∙ xor_swap (f x) (f y) (g x) (g y)

pub none : (f : ℕ → ℕ) → Linear f → f 0 ≡ 0
none f lf = lf 0 0 ∙ xor_self (f 0)

-- computed at the powers of two
abbrev pub agree : (ℕ → ℕ) → (ℕ → ℕ) → ℕ → Bool
agree f g zero = true
agree f g (suc k) = eqb (f (2 ^ k)) (g (2 ^ k)) && agree f g k

both : (a b : Bool) → T (a && b) → T a × T b
both true b t = (tt, t)
both false b t = absurd t

-- a number of k + 1 bits that has the highest of them
topped : (k x : ℕ) → 2 ^ k + (x - 2 ^ k) ≡ x → x - 2 ^ k < 2 ^ k → bit_xor (2 ^ k) (x - 2 ^ k) ≡ x
topped k x e h =
    let o : 2 ^ k ≡ 1 * 2 ^ k = omega arith in
    ap (λ (m : ℕ). bit_xor m (x - 2 ^ k)) o ∙ xor_shifted 1 k (x - 2 ^ k) h ∙ ap (λ (m : ℕ). m + (x - 2 ^ k)) (sym o) ∙ e

-- one bit more
more : (f g : ℕ → ℕ) → Linear f → Linear g → (k : ℕ) → f (2 ^ k) ≡ g (2 ^ k) → ((x : ℕ) → x < 2 ^ k → f x ≡ g x) → (x : ℕ) → x < 2 ^ suc k → f x ≡ g x
more f g lf lg k top low x h = go (dec_lt x (2 ^ k))
  where
    go : Dec (x < 2 ^ k) → f x ≡ g x
    go (yes l) = low x l
    go (no l) =
        let d : 2 ^ suc k ≡ 2 ^ k + 2 ^ k = rw (pow-succ' 2 k) (omega arith) in
        let r : ℕ = x - 2 ^ k in
        let hr : r < 2 ^ k = omega arith in
        let e : bit_xor (2 ^ k) r ≡ x = topped k x (omega arith) hr in
        ap f (sym e) ∙ lf (2 ^ k) r ∙ ap₂ bit_xor top (low r hr) ∙ sym (lg (2 ^ k) r) ∙ ap g e

pub agreed : (f g : ℕ → ℕ) → Linear f → Linear g → (k : ℕ) → T (agree f g k) → (x : ℕ) → x < 2 ^ k → f x ≡ g x
agreed f g lf lg zero t x h =
    let z : x ≡ 0 = omega arith in
    ap f z ∙ none f lf ∙ sym (ap g z ∙ none g lg)
agreed f g lf lg (suc k) t x h =
    let p = both (eqb (f (2 ^ k)) (g (2 ^ k))) (agree f g k) t in
    more f g lf lg k (eqb→eq (f (2 ^ k)) (g (2 ^ k)) p.0) (agreed f g lf lg k p.1) x h
