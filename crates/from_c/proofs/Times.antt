-- Times as eight bytes each, put one behind the other.
use Prim.Native.Nat.{ℕ, ◌+◌, ◌*◌, ◌/◌, ◌≤◌, ◌<◌}
use native.Mathlib.Omega.{arith}
use mathlib.Core.Path.{◌≡◌, refl, sym, ap, ◌∙◌}
use mathlib.Core.List.{List, [], ◌∷◌, ◌++◌, append_assoc, flat_map}
use lib.ListN.{length, take, drop, set, get_or, length-append}
use lib.Seq.{take_at, drop_at, drop-drop}
use borrow.Rule.Slice.PartMut.{put_mid}
use Rattle.format.specs.Answer.{over}
use Rattle.from_c.specs.Numbers.{time_bytes, times_from}
use Rattle.format.specs.Laws.Front.{Front, front_part, take_more}
use Rattle.format.specs.Laws.Lists.{flat_map_append}
use Rattle.from_c.specs.Laws.{length_time, times_number}

pub eight_set : (a b c d e f g h : ℕ) (s : List ℕ) → length s ≡ 8 → set (set (set (set (set (set (set (set s 0 a) 1 b) 2 c) 3 d) 4 e) 5 f) 6 g) 7 h ≡ a ∷ b ∷ c ∷ d ∷ e ∷ f ∷ g ∷ h ∷ []
eight_set a b c d e f g h (x0 ∷ x1 ∷ x2 ∷ x3 ∷ x4 ∷ x5 ∷ x6 ∷ x7 ∷ []) z = refl
eight_set a b c d e f g h (x0 ∷ x1 ∷ x2 ∷ x3 ∷ x4 ∷ x5 ∷ x6 ∷ x7 ∷ x8 ∷ s) z = absurd (omega arith)
eight_set a b c d e f g h (x0 ∷ x1 ∷ x2 ∷ x3 ∷ x4 ∷ x5 ∷ x6 ∷ []) z = absurd (omega arith)
eight_set a b c d e f g h (x0 ∷ x1 ∷ x2 ∷ x3 ∷ x4 ∷ x5 ∷ []) z = absurd (omega arith)
eight_set a b c d e f g h (x0 ∷ x1 ∷ x2 ∷ x3 ∷ x4 ∷ []) z = absurd (omega arith)
eight_set a b c d e f g h (x0 ∷ x1 ∷ x2 ∷ x3 ∷ []) z = absurd (omega arith)
eight_set a b c d e f g h (x0 ∷ x1 ∷ x2 ∷ []) z = absurd (omega arith)
eight_set a b c d e f g h (x0 ∷ x1 ∷ []) z = absurd (omega arith)
eight_set a b c d e f g h (x0 ∷ []) z = absurd (omega arith)
eight_set a b c d e f g h [] z = absurd (omega arith)

-- one time more of a row
pub times_more : {d xs ys : List ℕ} (row : List ℕ) (i k : ℕ) → Front (flat_map time_bytes (take i row)) d xs (8 * i) → i < length row → k ≡ 8 → 8 * i + 8 ≤ length d → ys ≡ time_bytes (get_or row i 0)
    → Front (flat_map time_bytes (take (i + 1) row)) d (put_mid (8 * i) k xs ys) (8 * (i + 1))
unfolding flat_map
times_more {d} {xs} {ys} row i k p h e r y =
    let more : flat_map time_bytes (take (i + 1) row) ≡ flat_map time_bytes (take i row) ++ time_bytes (get_or row i 0) =
    ap (flat_map time_bytes) (take_more row i h) ∙ flat_map_append time_bytes (take i row) (get_or row i 0 ∷ []) ∙ ap (λ (l : List ℕ). flat_map time_bytes (take i row) ++ l) (one (time_bytes (get_or row i 0))) in
    rw more (front_part k (time_bytes (get_or row i 0)) p (length_time (get_or row i 0) ∙ sym e) (omega arith) (omega arith) y)
  where
    one : (l : List ℕ) → l ++ [] ≡ l
    one [] = refl
    one (x ∷ l) = ap (λ (m : List ℕ). x ∷ m) (one l)

-- the front is written, and nothing else
pub front_over : {P d xs : List ℕ} {n : ℕ} → Front P d xs n → xs ≡ over P d
front_over {P} {d} {xs} {n} f = f.is ∙ ap (λ (k : ℕ). P ++ drop k d) (sym f.size)

pub row_taken : (s d : List ℕ) → take (length s / 8) (over (times_from s) d) ≡ times_from s
row_taken s d = take_at (times_from s) (drop (length (times_from s)) d) (length s / 8) (times_number s)
