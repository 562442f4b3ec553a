-- Three bytes at any place.
use Prim.Native.Nat.{ℕ, suc, ◌+◌, ◌*◌, ◌≤◌}
use native.Mathlib.Numerals.{add-one}
use native.Mathlib.Omega.{arith}
use mathlib.Core.Path.{◌≡◌, refl, ap₂, ◌∙◌}
use mathlib.Core.List.{List, [], ◌∷◌, ◌++◌, append_assoc}
use lib.ListN.{length, take, drop, set, length-append, length-take, length-drop}
use lib.Seq.{sets-eq}
use Rattle.format.specs.Word.{word_at, bytes_of}
use Rattle.word.specs.Stored.{three_at}

-- a capture's word i is its three bytes from 3 * i on
pub word_at_is_three : (c : List ℕ) (i : ℕ) → word_at c i ≡ three_at c (3 * i)
unfolding word_at three_at
word_at_is_three c i = refl

pub three_put : (s : List ℕ) (at a b c : ℕ) → at + 3 ≤ length s
    → set (set (set s at a) (at + 1) b) (at + 2) c ≡ take at s ++ (a ∷ b ∷ c ∷ drop (at + 3) s)
three_put s at a b c h =
    let e : at + 2 ≡ suc (suc at) = omega arith in
    ap₂ (λ (i j : ℕ). set (set (set s at a) i b) j c) (add-one at) e ∙ sets-eq (a ∷ b ∷ c ∷ []) s at h
    ∙ append_assoc (take at s) (a ∷ b ∷ c ∷ []) (drop (at + 3) s)

-- a word put changes no length
pub put_length : (s : List ℕ) (at w : ℕ) → at + 3 ≤ length s → length (take at s ++ (bytes_of w ++ drop (at + 3) s)) ≡ length s
unfolding bytes_of
put_length s at w h = simp (length-append, length-take, length-drop) (omega arith)
