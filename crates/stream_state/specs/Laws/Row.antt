-- A row of numbers as bytes, and back.
use Prim.Native.Nat.{ℕ, zero, suc, ◌+◌, ◌*◌, ◌-◌, ◌^◌, ◌≤◌, ◌<◌}
use Rattle.std.proofs.Common.{arith, ◌∙◌, take_at, drop-drop, eq-eqb, eqb-true}
use Rattle.std.specs.Prelude.{true, false, ◌&&◌, ◌≡◌, get_or, eqb}
use Rattle.std.proofs.Math.Path.{refl, ap, ap₂, sym}
use mathlib.Core.List.{List, [], ◌∷◌, ◌++◌, append_assoc, flat_map}
use Rattle.std.proofs.Math.ListN.{length, take, drop, replicate, length-append, length-drop, length-replicate, get_or-append}
use Rattle.std.proofs.Math.Seq.{drop_at, length-take-le, take-append_seam}
use Rattle.std.proofs.lemmas.List.{get_or_at}
use Rattle.format.specs.Lists.{All, nil, cons, Bytes, list}
use Rattle.format.specs.Laws.Lists.{all_append, length_list, list_is, list_more_at, take_drop}
use Rattle.format.specs.Laws.Tests.{and_true}
use Rattle.from_c.specs.Numbers.{time_at, time_bytes}
use Rattle.from_c.specs.Laws.{at_index, eights_back, length_times}
use Rattle.stream_state.specs.Layout.{stamped, stage_of, front_of, zeros_behind, row_bytes, number_at, row_at}
use Rattle.stream_state.specs.Parts.{are_zeros}

stage_back : (n : ℕ) → n ≤ 2 → stage_of (stamped n) ≡ n
stage_back zero h = refl
stage_back (suc zero) h = refl
stage_back (suc (suc zero)) h = refl
stage_back (suc (suc (suc n))) h = absurd (omega arith)

stamped_low : (n : ℕ) → n ≤ 2 → stamped n < 2 ^ 64
stamped_low zero h = omega arith
stamped_low (suc zero) h = omega arith
stamped_low (suc (suc zero)) h = omega arith
stamped_low (suc (suc (suc n))) h = absurd (omega arith)

-- a row: its stage, 99 numbers, and what waits
module _ (x : ℕ) (l : List ℕ) (stage : x ≤ 2) (long : 99 ≤ length l) (small : All (λ n. n < 2 ^ 64) (take 99 l)) (few : length (drop 99 l) ≤ 6144) where
  front_long : length (front_of (x ∷ l)) ≡ 101
  front_long = ap suc (length-append (take 99 l) (length (drop 99 l) ∷ []) ∙ rw (length-take-le 99 l long) refl)

  front_small : All (λ n. n < 2 ^ 64) (front_of (x ∷ l))
  front_small = cons (stamped_low x stage) (all_append small (cons {a = length (drop 99 l)} (omega (arith, few)) nil))

  number_in : (i : ℕ) → i < 101 → number_at (row_bytes (x ∷ l)) i ≡ get_or (front_of (x ∷ l)) i 0
  unfolding row_bytes
  number_in i h = at_index (front_of (x ∷ l)) (replicate 216 0 ++ zeros_behind 6144 (drop 99 l)) front_small i (rw front_long h)

  pub stage_said : number_at (row_bytes (x ∷ l)) 0 ≡ stamped x
  stage_said = number_in 0 (omega arith)

  -- how many bytes wait
  pub count_back : number_at (row_bytes (x ∷ l)) 100 ≡ length (drop 99 l)
  count_back =
      number_in 100 (omega arith) ∙ get_or_at (take 99 l) (length (drop 99 l)) [] 0 99 (length-take-le 99 l long)

  -- what stands behind the numbers
  pub behind : drop 808 (row_bytes (x ∷ l)) ≡ replicate 216 0 ++ zeros_behind 6144 (drop 99 l)
  unfolding row_bytes
  behind =
      let e : length (flat_map time_bytes (front_of (x ∷ l))) ≡ 808 = length_times (front_of (x ∷ l)) ∙ rw front_long refl in
      drop_at (flat_map time_bytes (front_of (x ∷ l))) (replicate 216 0 ++ zeros_behind 6144 (drop 99 l)) 808 e

  pub behind_gap : drop 1024 (row_bytes (x ∷ l)) ≡ zeros_behind 6144 (drop 99 l)
  behind_gap =
      sym (drop-drop 216 808 (row_bytes (x ∷ l))) ∙ ap (drop 216) behind ∙ drop_at (replicate 216 0) (zeros_behind 6144 (drop 99 l)) 216 (length-replicate {A = ℕ} 216 0)

  numbers_back : list (number_at (row_bytes (x ∷ l))) 1 99 ≡ take 99 l
  numbers_back =
      let e : length (take 99 l) ≡ 99 = length-take-le 99 l long in
      ap (list (number_at (row_bytes (x ∷ l))) 1) (sym e)
      ∙ list_is (number_at (row_bytes (x ∷ l))) (take 99 l) 1
      (λ i h. let k : i < 99 = rw e at h in let z : 1 + i ≡ suc i = omega arith in rw z (number_in (suc i) (omega arith) ∙ get_or-append (take 99 l) (length (drop 99 l) ∷ []) 0 i h))

  pub row_back : row_at (row_bytes (x ∷ l)) ≡ x ∷ l
  unfolding row_at
  row_back =
      ap₂ (λ (a : ℕ) (m : List ℕ). a ∷ m) (ap stage_of stage_said ∙ stage_back x stage)
      (ap₂ (λ (a b : List ℕ). a ++ b) numbers_back
      (ap₂ (λ (n : ℕ) (m : List ℕ). take n m) count_back behind_gap ∙ take-append_seam (drop 99 l) (replicate (6144 - length (drop 99 l)) 0))
      ∙ take_drop 99 l)

  pub row_long : length (row_bytes (x ∷ l)) ≡ 7168
  unfolding row_bytes
  row_long =
      let v : List ℕ = drop 99 l in
      length-append (flat_map time_bytes (front_of (x ∷ l))) (replicate 216 0 ++ zeros_behind 6144 v)
      ∙ rw (length_times (front_of (x ∷ l)), front_long, length-append (replicate 216 0) (zeros_behind 6144 v), length-replicate {A = ℕ} 216 0)
      (rw (length-append v (replicate (6144 - length v) 0), length-replicate {A = ℕ} (6144 - length v) 0) (omega (arith, few)))

-- ---- zeros

pub zeros_are : (l : List ℕ) → are_zeros l ≡ true → l ≡ replicate (length l) 0
unfolding are_zeros
zeros_are [] e = refl
zeros_are (a ∷ l) e =
    let t = and_true (eqb a 0) (are_zeros l) e in
    ap₂ (λ (x : ℕ) (m : List ℕ). x ∷ m) (eqb-true a 0 t.0) (zeros_are l t.1)

pub are_zeros_lem : (n : ℕ) → are_zeros (replicate n 0) ≡ true
unfolding are_zeros
are_zeros_lem zero = refl
are_zeros_lem (suc n) = are_zeros_lem n

-- ---- bytes whose row is written back

pub waits_are : (b : List ℕ) → drop 100 (row_at b) ≡ take (number_at b 100) (drop 1024 b)
unfolding row_at
waits_are b = drop_at (list (number_at b) 1 99) (take (number_at b 100) (drop 1024 b)) 99 (length_list (number_at b) 1 99)

module _ (b : List ℕ) (bytes : Bytes b) (long : length b ≡ 7168) where
  room : length (drop 1024 b) ≡ 6144
  room = length-drop 1024 b ∙ rw long refl

  front_is : stamped (stage_of (number_at b 0)) ≡ number_at b 0 → number_at b 100 ≤ 6144 → front_of (row_at b) ≡ list (number_at b) 0 101
  unfolding row_at list
  front_is stage few =
      let e : length (list (number_at b) 1 99) ≡ 99 = length_list (number_at b) 1 99 in
      let v : List ℕ = take (number_at b 100) (drop 1024 b) in
      let n : length v ≡ number_at b 100 = length-take-le (number_at b 100) (drop 1024 b) (rw room few) in
      ap₂ (λ (a : ℕ) (m : List ℕ). a ∷ m) stage
      (ap₂ (λ (m m' : List ℕ). m ++ length m' ∷ []) (take_at (list (number_at b) 1 99) v 99 e) (drop_at (list (number_at b) 1 99) v 99 e)
      ∙ ap (λ (k : ℕ). list (number_at b) 1 99 ++ k ∷ []) n ∙ sym (list_more_at (number_at b) 1 99))

  pub row_bytes_lem : stamped (stage_of (number_at b 0)) ≡ number_at b 0 → number_at b 100 ≤ 6144 → are_zeros (take 216 (drop 808 b)) ≡ true
      → are_zeros (drop (1024 + number_at b 100) b) ≡ true → row_bytes (row_at b) ≡ b
  unfolding row_bytes
  row_bytes_lem stage few gap tail =
      let k : ℕ = number_at b 100 in
      let v : List ℕ = take k (drop 1024 b) in
      let n : length v ≡ k = length-take-le k (drop 1024 b) (rw room few) in
      let d : length (drop 808 b) ≡ 6360 = length-drop 808 b ∙ rw long refl in
      let f : length (take 216 (drop 808 b)) ≡ 216 = length-take-le 216 (drop 808 b) (rw d (omega arith)) in
      let g : replicate 216 0 ≡ take 216 (drop 808 b) = ap (λ (m : ℕ). replicate m 0) (sym f) ∙ sym (zeros_are (take 216 (drop 808 b)) gap) in
      let s : length (drop (1024 + k) b) ≡ 6144 - length v = length-drop (1024 + k) b ∙ rw (long, n) (omega arith) in
      let t : drop (1024 + k) b ≡ replicate (6144 - length v) 0 = zeros_are (drop (1024 + k) b) tail ∙ ap (λ (m : ℕ). replicate m 0) s in
      let u : replicate (6144 - length v) 0 ≡ drop k (drop 1024 b) = sym t ∙ sym (drop-drop k 1024 b) in
      let z : zeros_behind 6144 (drop 100 (row_at b)) ≡ drop 1024 b = ap (zeros_behind 6144) (waits_are b) ∙ ap (λ (m : List ℕ). v ++ m) u ∙ take_drop k (drop 1024 b) in
      ap₂ (λ (f m : List ℕ). f ++ m) (ap (flat_map time_bytes) (front_is stage few) ∙ eights_back 101 b bytes (rw long (omega arith)))
      (ap₂ (λ (f m : List ℕ). f ++ m) g (z ∙ sym (drop-drop 216 808 b)) ∙ take_drop 216 (drop 808 b))
      ∙ take_drop 808 b
