-- The check of a frame is the check of each word after those before it.
use Prim.Native.Nat.{ℕ, ◌*◌, ◌/◌, ◌%◌, ◌^◌, ◌<◌}
use native.Mathlib.Nat.{le_refl, add-zero}
use native.Mathlib.Omega.{arith}
use mathlib.Core.Path.{◌≡◌, refl, sym, ap, ap₂, ◌∙◌}
use mathlib.Core.List.{List, [], ◌∷◌, ◌++◌, append_assoc, append-nil, flat_map}
use lib.Pow.{pow_pos, shl-shr, low}
use lib.Dec.{lit<}
use lib.Bits.{bit_xor, xor_zero_r}
use Rattle.format.specs.Bits.{bits_of}
use Rattle.format.specs.Check.{remainder, check_of}
use Rattle.format.specs.Laws.Bits.{bits_mod, bits_split}
use Rattle.format.specs.Laws.Word.Check.{check_low}
use Rattle.crc.specs.Running.{next_check, check_from}
use Rattle.crc.proofs.Division.{bits_remainder_low, remainder_append, remainder_xor, remainder_small}

-- 16 zeros are brought down after the last word
ended : ℕ → ℕ
ended r = remainder r (bits_of 16 0)

check_one : (x : ℕ) → check_of (x ∷ []) ≡ remainder (remainder 0 (bits_of 24 x)) (bits_of 16 0)
unfolding check_of flat_map
check_one x = ap (λ (l : List ℕ). remainder 0 (l ++ bits_of 16 0)) (append-nil (bits_of 24 x)) ∙ remainder_append 0 (bits_of 24 x) (bits_of 16 0)

-- the check of a word is linear in the word
pub check_xor : (x y : ℕ) → check_of (bit_xor x y ∷ []) ≡ bit_xor (check_of (x ∷ [])) (check_of (y ∷ []))
check_xor x y =
    let z : 0 < 2 ^ 16 = lit< tt in
    check_one (bit_xor x y)
    ∙ ap (λ (n : ℕ). remainder n (bits_of 16 0)) (remainder_xor 24 0 0 x y z z)
    ∙ remainder_xor 16 (remainder 0 (bits_of 24 x)) (remainder 0 (bits_of 24 y)) 0 0 (bits_remainder_low 24 0 x z) (bits_remainder_low 24 0 y z)
    ∙ sym (ap₂ bit_xor (check_one x) (check_one y))

pub next_low : (r w : ℕ) → next_check r w < 2 ^ 16
unfolding next_check
next_low r w = check_low (bit_xor (r * 2 ^ 8) w ∷ [])

-- 16 bits are their own remainder
loaded : (c : ℕ) → c < 2 ^ 16 → remainder 0 (bits_of 16 c) ≡ c
loaded c h = remainder_small 16 0 c (omega arith) ∙ omega arith

-- what stands above k bits is not seen in them
bits_shifted : (k x : ℕ) → bits_of k (x * 2 ^ k) ≡ bits_of k 0
bits_shifted k x = sym (bits_mod k k (x * 2 ^ k) (le_refl k)) ∙ ap (bits_of k) (ap (λ (n : ℕ). n % 2 ^ k) (sym (add-zero (x * 2 ^ k))) ∙ low x k (pow_pos k))

-- a remainder that is brought down to 24 zeros stands at the top of the word
at_top : (a : ℕ) → a < 2 ^ 16 → remainder a (bits_of 24 0) ≡ remainder 0 (bits_of 24 (ended a * 2 ^ 8))
unfolding ended
at_top a h =
    let c : ℕ = remainder a (bits_of 16 0) in
    ap (remainder a) (bits_split 16 8 0) ∙ remainder_append a (bits_of 16 0) (bits_of 8 0)
    ∙ sym (ap (remainder 0) (bits_split 16 8 (c * 2 ^ 8)) ∙ remainder_append 0 (bits_of 16 (c * 2 ^ 8 / 2 ^ 8)) (bits_of 8 (c * 2 ^ 8))
    ∙ ap₂ (λ (n : ℕ) (t : List ℕ). remainder (remainder 0 (bits_of 16 n)) t) (shl-shr c 8) (bits_shifted 8 c) ∙ ap (λ (n : ℕ). remainder n (bits_of 8 0)) (loaded c (bits_remainder_low 16 a 0 h)))

next_is : (a w : ℕ) → a < 2 ^ 16 → ended (remainder a (bits_of 24 w)) ≡ next_check (ended a) w
unfolding next_check ended
next_is a w h =
    let z : 0 < 2 ^ 16 = lit< tt in
    sym (check_one (bit_xor (ended a * 2 ^ 8) w) ∙ ap ended
    (remainder_xor 24 0 0 (ended a * 2 ^ 8) w z z
    ∙ ap (λ (n : ℕ). bit_xor n (remainder 0 (bits_of 24 w))) (sym (at_top a h))
    ∙ sym (remainder_xor 24 a 0 0 w h z) ∙ ap (λ (n : ℕ). remainder n (bits_of 24 w)) (xor_zero_r a)))

from_ended : (ws : List ℕ) (a : ℕ) → a < 2 ^ 16 → remainder a (flat_map (bits_of 24) ws ++ bits_of 16 0) ≡ check_from (ended a) ws
unfolding check_from flat_map ended
from_ended [] a h = refl
from_ended (w ∷ ws) a h =
    ap (remainder a) (append_assoc (bits_of 24 w) (flat_map (bits_of 24) ws) (bits_of 16 0))
    ∙ remainder_append a (bits_of 24 w) (flat_map (bits_of 24) ws ++ bits_of 16 0)
    ∙ from_ended ws (remainder a (bits_of 24 w)) (bits_remainder_low 24 a w h)
    ∙ ap (λ (n : ℕ). check_from n ws) (next_is a w h)

-- the check of a frame, a word at a time
pub check_is_from : (ws : List ℕ) → check_of ws ≡ check_from 0 ws
unfolding check_of ended
check_is_from ws = from_ended ws 0 (lit< tt) ∙ ap (λ (n : ℕ). check_from n ws) (remainder_small 16 0 0 (lit< tt))

-- of words and then others
pub from_append : (r : ℕ) (ws vs : List ℕ) → check_from r (ws ++ vs) ≡ check_from (check_from r ws) vs
unfolding check_from
from_append r [] vs = refl
from_append r (w ∷ ws) vs = from_append (next_check r w) ws vs

pub from_more : (r : ℕ) (ws : List ℕ) (w : ℕ) → check_from r (ws ++ (w ∷ [])) ≡ next_check (check_from r ws) w
unfolding check_from
from_more r ws w = from_append r ws (w ∷ [])

-- and of one word more
pub check_more : (ws : List ℕ) (w : ℕ) → check_of (ws ++ (w ∷ [])) ≡ next_check (check_of ws) w
check_more ws w = check_is_from (ws ++ (w ∷ [])) ∙ from_more 0 ws w ∙ ap (λ (r : ℕ). next_check r w) (sym (check_is_from ws))
