-- The table of unanswered notices is read from its 512 bytes.
use Prim.Native.Nat.{ℕ, ◌+◌, ◌*◌, ◌-◌, ◌/◌, ◌≤◌, ◌<◌}
use native.Mathlib.Omega.{arith}
use mathlib.Core.Bool.{true}
use mathlib.Core.Path.{◌≡◌, refl, sym, ap, ◌∙◌}
use mathlib.Core.List.{List, [], ◌++◌, append-nil, flat_map}
use lib.ListN.{length, get_or, take, drop, replicate, length-drop}
use lib.Seq.{drop-length, get_or-drop, get_or-take, length-take-le}
use Rattle.format.specs.Answer.{over}
use Rattle.format.specs.Lists.{list}
use Rattle.format.specs.Laws.Lists.{length_list, list_same}
use Rattle.from_c.specs.Numbers.{half_at, time_at, time_bytes, times_from}
use Rattle.from_c.specs.Laws.{times_back}
use Rattle.stream_state.specs.Layout.{number_at}
use Rattle.stream_state.specs.Parts.{are_zeros}
use Rattle.stream_state.specs.Laws.Row.{are_zeros_lem, zeros_are}
use Rattle.stream_state.specs.Laws.Small.{zeros_small}
use Rattle.stream_state.proofs.Zeros.{zero_times}

-- a number in a part of the bytes
part_number : (b : List ℕ) (k n at : ℕ) → at + 8 ≤ n → time_at (take n (drop k b)) at ≡ time_at b (k + at)
unfolding time_at half_at
part_number b k n at h =
    rw (one (at) (omega arith), one (at + 1) (omega arith), one (at + 2) (omega arith), one (at + 3) (omega arith))
    (rw (one (at + 4) (omega arith), one (at + 4 + 1) (omega arith), one (at + 4 + 2) (omega arith), one (at + 4 + 3) (omega arith))
    (rw (far 1, far 2, far 3, far 4, farther 1, farther 2, farther 3) refl))
  where
    one : (i : ℕ) → i < n → get_or (take n (drop k b)) i 0 ≡ get_or b (k + i) 0
    one i l = get_or-take n (drop k b) i 0 l ∙ get_or-drop k b i 0

    far : (i : ℕ) → k + (at + i) ≡ k + at + i
    far i = omega arith

    farther : (i : ℕ) → k + (at + 4 + i) ≡ k + at + 4 + i
    farther i = omega arith

-- the numbers of a part of the bytes
part_numbers : (b : List ℕ) (k n : ℕ) → length (take (8 * n) (drop (8 * k) b)) ≡ 8 * n → times_from (take (8 * n) (drop (8 * k) b)) ≡ list (number_at b) k n
part_numbers b k n l =
    let m : length (take (8 * n) (drop (8 * k) b)) / 8 ≡ n = rw l (omega arith) in
    ap (list (λ i. time_at (take (8 * n) (drop (8 * k) b)) (8 * i)) 0) m
    ∙ list_same (λ i. time_at (take (8 * n) (drop (8 * k) b)) (8 * i)) (number_at b) n 0 k
    (λ i h. let e : 8 * k + 8 * (0 + i) ≡ 8 * (k + i) = omega arith in part_number b (8 * k) (8 * n) (8 * (0 + i)) (omega (arith, h)) ∙ ap (time_at b) e)

numbers_read : (b : List ℕ) → length b ≡ 7168 → times_from (take 512 (drop 288 b)) ≡ list (number_at b) 36 64
numbers_read b long =
    let d : length (drop 288 b) ≡ 6880 = length-drop 288 b ∙ rw long refl in
    part_numbers b 36 64 (length-take-le 512 (drop 288 b) (rw d (omega arith)))

pub table_read : (b table : List ℕ) → length b ≡ 7168 → length table ≡ 64 → over (times_from (take 512 (drop 288 b))) table ≡ list (number_at b) 36 64
table_read b table long size =
    let n : length (list (number_at b) 36 64) ≡ length table = length_list (number_at b) 36 64 ∙ sym size in
    let e : drop (length (list (number_at b) 36 64)) table ≡ [] = ap (λ (k : ℕ). drop k table) n ∙ drop-length table in
    ap (λ (l : List ℕ). over l table) (numbers_read b long) ∙ ap (λ (l : List ℕ). list (number_at b) 36 64 ++ l) e ∙ append-nil (list (number_at b) 36 64)

-- 512 zeros are a table of zeros
pub zero_table : (b table : List ℕ) → length b ≡ 512 → length table ≡ 64 → are_zeros b ≡ true → replicate (length table) 0 ≡ over (times_from b) table
zero_table b table long size z =
    let e : b ≡ flat_map time_bytes (replicate 64 0) = zeros_are b z ∙ ap (λ (n : ℕ). replicate n 0) long ∙ sym (zero_times 64) in
    let t : times_from b ≡ replicate 64 0 = ap times_from e ∙ times_back (replicate 64 0) (zeros_small 64) in
    let d : drop 64 table ≡ [] = ap (λ (n : ℕ). drop n table) (sym size) ∙ drop-length table in
    ap (λ (n : ℕ). replicate n 0) size
    ∙ sym (ap (λ (l : List ℕ). over l table) t ∙ ap (λ (l : List ℕ). replicate 64 0 ++ l) d ∙ append-nil (replicate 64 0))

-- bytes that are 0 say numbers that are 0
pub zero_numbers : (b : List ℕ) (k n : ℕ) → length b ≡ 7168 → 8 * (k + n) ≤ 7168 → are_zeros (take (8 * n) (drop (8 * k) b)) ≡ true → are_zeros (list (number_at b) k n) ≡ true
zero_numbers b k n long h z =
    let d : length (drop (8 * k) b) ≡ 7168 - 8 * k = length-drop (8 * k) b ∙ rw long refl in
    let l : length (take (8 * n) (drop (8 * k) b)) ≡ 8 * n = length-take-le (8 * n) (drop (8 * k) b) (rw d (omega (arith, h))) in
    let e : take (8 * n) (drop (8 * k) b) ≡ flat_map time_bytes (replicate n 0) =
    zeros_are (take (8 * n) (drop (8 * k) b)) z ∙ ap (λ (m : ℕ). replicate m 0) l ∙ sym (zero_times n) in
    let t : times_from (take (8 * n) (drop (8 * k) b)) ≡ replicate n 0 = ap times_from e ∙ times_back (replicate n 0) (zeros_small n) in
    ap are_zeros (sym (part_numbers b k n l) ∙ t) ∙ are_zeros_lem n

-- and a table of zeros is stored as zeros
pub zeros_stored : (table old : List ℕ) → length table ≡ 64 → length old ≡ 512 → are_zeros table ≡ true → replicate (length old) 0 ≡ over (flat_map time_bytes (take 64 table)) old
zeros_stored table old size long z =
    let t : table ≡ replicate 64 0 = zeros_are table z ∙ ap (λ (n : ℕ). replicate n 0) size in
    let d : drop 512 old ≡ [] = ap (λ (n : ℕ). drop n old) (sym long) ∙ drop-length old in
    ap (λ (n : ℕ). replicate n 0) long
    ∙ sym (ap (λ (l : List ℕ). over (flat_map time_bytes (take 64 l)) old) t ∙ ap (λ (l : List ℕ). over l old) (zero_times 64)
    ∙ ap (λ (l : List ℕ). replicate 512 0 ++ l) d ∙ append-nil (replicate 512 0))
