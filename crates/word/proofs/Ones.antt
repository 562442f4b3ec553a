-- The count of ones is the sum over bits.
use Prim.Native.Nat.{ℕ, zero, suc, ◌+◌, ◌/◌, ◌%◌, ◌^◌, ◌<◌}
use native.Mathlib.Nat.{mod-one, mod-eq_of_lt}
use native.Mathlib.Numerals.{add-one}
use mathlib.Core.Path.{◌≡◌, refl, sym, ap, ◌∙◌}
use lib.Pow.{field, mod-mod-pow}
use lib.Count.{ones as count, ones_in, ones_step}
use Rattle.format.specs.Word.{ones}

-- `count` is what the code counts by, `ones k` the sum over the k lowest bits
count_none : count 0 ≡ 0
unfolding count ones_in
count_none = refl

pub count_is_ones : (k w : ℕ) → count (w % 2 ^ k) ≡ ones k w
unfolding ones
count_is_ones zero w = rw (mod-one w) count_none
count_is_ones (suc k) w =
    let e : w % 2 ^ suc k ≡ w % 2 ^ (k + 1) = ap (λ (n : ℕ). w % 2 ^ n) (sym (add-one k)) in
    ap count e ∙ ones_step (w % 2 ^ (k + 1)) ∙ rw (mod-mod-pow w k 1, field w k 1, count_is_ones k (w / 2))

pub count_of_word : (w : ℕ) → w < 2 ^ 24 → count w ≡ ones 24 w
count_of_word w h = ap count (sym (mod-eq_of_lt h)) ∙ count_is_ones 24 w
