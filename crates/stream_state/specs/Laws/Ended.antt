-- The written test of the bytes of a state with a fault, or of a closed one, is its parts.
use Rattle.std.specs.Prelude.{ℕ, zero, suc, ◌+◌, ◌*◌, ◌-◌, ◌≤◌, ◌<◌, Bool, true, false, cond, ◌&&◌, ◌≡◌, refl, List, [], ◌∷◌, ◌++◌, length, get_or, take, drop, replicate, eqb}
use Rattle.std.proofs.Common.{arith, ap, ap₂, sym, ◌∙◌, append-nil, drop-drop, eqb-true, ne_eqb}
use Rattle.std.proofs.lemmas.List.{length-replicate}
use Rattle.format.specs.Lists.{Bytes, list}
use Rattle.format.specs.Laws.Lists.{length_list}
use Rattle.format.specs.Laws.Tests.{and_true}
use Rattle.stream_rules.specs.Stream.{State, closed, failed, fits}
use Rattle.stream_rules.specs.StateNumbers.{numbers_of, state_of}
use Rattle.stream_rules.specs.Laws.Stream.Fits.{both}
use Rattle.stream_state.specs.Layout.{is_state, number_at, row_at, row_bytes, stage_of, stamped, state_at, state_bytes, zeros_behind}
use Rattle.stream_state.specs.Parts.{are_zeros}
use Rattle.stream_state.specs.Laws.Bytes.{passed, passes}
use Rattle.stream_state.specs.Laws.Row.{are_zeros_lem, row_bytes_lem, waits_are, zeros_are}
use Rattle.stream_state.specs.Laws.Small.{Said, fits_said}

-- ---- zeros of a part

zeros_drop : (n : ℕ) (l : List ℕ) → are_zeros l ≡ true → are_zeros (drop n l) ≡ true
unfolding are_zeros
zeros_drop zero l e = e
zeros_drop (suc n) [] e = e
zeros_drop (suc n) (a ∷ l) e = zeros_drop n l (and_true (eqb a 0) (are_zeros l) e).1

zeros_take : (n : ℕ) (l : List ℕ) → are_zeros l ≡ true → are_zeros (take n l) ≡ true
unfolding are_zeros
zeros_take zero l e = refl
zeros_take (suc n) [] e = refl
zeros_take (suc n) (a ∷ l) e = let t = and_true (eqb a 0) (are_zeros l) e in both t.0 (zeros_take n l t.1)

zeros_parts : (l m : List ℕ) → are_zeros (l ++ m) ≡ true → (are_zeros l ≡ true) × (are_zeros m ≡ true)
unfolding are_zeros
zeros_parts [] m e = (refl, e)
zeros_parts (a ∷ l) m e =
    let t = and_true (eqb a 0) (are_zeros (l ++ m)) e in
    (both t.0 (zeros_parts l m t.1).0, (zeros_parts l m t.1).1)

zeros_join : (l m : List ℕ) → are_zeros l ≡ true → are_zeros m ≡ true → are_zeros (l ++ m) ≡ true
unfolding are_zeros
zeros_join [] m e f = f
zeros_join (a ∷ l) m e f = let t = and_true (eqb a 0) (are_zeros l) e in both t.0 (zeros_join l m t.1 f)

zero_one : (n : ℕ) → are_zeros (n ∷ []) ≡ true → n ≡ 0
unfolding are_zeros
zero_one n e = eqb-true n 0 (and_true (eqb n 0) true e).0

one_zero : (n : ℕ) → n ≡ 0 → are_zeros (n ∷ []) ≡ true
unfolding are_zeros
one_zero n e = rw e refl

-- numbers that are 0
numbers_zero : (f : ℕ → ℕ) (a n : ℕ) → are_zeros (list f a n) ≡ true → list f a n ≡ replicate n 0
numbers_zero f a n e = zeros_are (list f a n) e ∙ ap (λ (k : ℕ). replicate k 0) (length_list f a n)

zero_numbers : (f : ℕ → ℕ) (a n : ℕ) → list f a n ≡ replicate n 0 → are_zeros (list f a n) ≡ true
zero_numbers f a n e = ap are_zeros e ∙ are_zeros_lem n

-- ---- nothing waits

module _ (b : List ℕ) (bytes : Bytes b) (long : length b ≡ 7168) where
  -- the row of bytes where nothing waits is written back
  ended_row : stamped (stage_of (number_at b 0)) ≡ number_at b 0 → number_at b 100 ≡ 0 → are_zeros (drop 808 b) ≡ true → row_bytes (row_at b) ≡ b
  ended_row stage none e =
      let few : number_at b 100 ≤ 6144 = omega (arith, none) in
      let at : 808 + (216 + number_at b 100) ≡ 1024 + number_at b 100 = omega arith in
      let tail : are_zeros (drop (1024 + number_at b 100) b) ≡ true =
      ap (λ (n : ℕ). are_zeros (drop n b)) (sym at) ∙ ap are_zeros (sym (drop-drop (216 + number_at b 100) 808 b)) ∙ zeros_drop (216 + number_at b 100) (drop 808 b) e in
      row_bytes_lem b bytes long stage few (zeros_take 216 (drop 808 b) e) tail

module _ (b : List ℕ) (s : State) (says : state_at b ≡ s) (none : drop 100 (numbers_of s) ≡ []) (e : is_state b ≡ true) where
  s_fits : fits s ≡ true
  s_fits = ap fits (sym says) ∙ (passed b e).fit

  is : state_bytes s ≡ b
  is = ap state_bytes (sym says) ∙ (passed b e).is

  ended_numbers : row_at b ≡ numbers_of s
  ended_numbers = ap row_at (sym is) ∙ (fits_said s s_fits).row

  ended_stage : number_at b 0 ≡ stamped (get_or (numbers_of s) 0 0)
  ended_stage = ap (λ (c : List ℕ). number_at c 0) (sym is) ∙ (fits_said s s_fits).stage

  ended_count : number_at b 100 ≡ 0
  ended_count = ap (λ (c : List ℕ). number_at c 100) (sym is) ∙ (fits_said s s_fits).count ∙ ap length none

  ended_zeros : are_zeros (drop 808 b) ≡ true
  ended_zeros =
      ap (λ (c : List ℕ). are_zeros (drop 808 c)) (sym is) ∙ ap are_zeros ((fits_said s s_fits).behind ∙ ap (λ (l : List ℕ). replicate 216 0 ++ zeros_behind 6144 l) none)
      ∙ zeros_join (replicate 216 0) (replicate 6144 0) (are_zeros_lem 216) (are_zeros_lem 6144)

-- parts of the row
parts : (b : List ℕ) → (take 11 (drop 1 (row_at b)) ≡ list (number_at b) 1 11) × (take 85 (drop 15 (row_at b)) ≡ list (number_at b) 15 85) × (take 99 (drop 1 (row_at b)) ≡ list (number_at b) 1 99)
unfolding row_at list
parts b = (refl, refl, refl)

-- ---- a state with a fault

pub record Faulty (b : List ℕ) : Type 0 where
  pub fit : fits (failed (number_at b 12) (number_at b 13) (number_at b 14)) ≡ true
  pub before : are_zeros (list (number_at b) 1 11) ≡ true
  pub after : are_zeros (list (number_at b) 15 86) ≡ true
  pub rest : are_zeros (drop 808 b) ≡ true

pub state_failed : (b : List ℕ) → number_at b 0 ≡ 1026 → state_at b ≡ failed (number_at b 12) (number_at b 13) (number_at b 14)
unfolding state_of row_at list
state_failed b stage = rw stage refl

failed_row : (b : List ℕ)
    → row_at b
    ≡ stage_of (number_at b 0) ∷ (list (number_at b) 1 11 ++ number_at b 12 ∷ number_at b 13 ∷ number_at b 14 ∷ (list (number_at b) 15 85 ++ take (number_at b 100) (drop 1024 b)))
unfolding row_at list
failed_row b = refl

last_of : (b : List ℕ) → list (number_at b) 15 86 ≡ list (number_at b) 15 85 ++ number_at b 100 ∷ []
unfolding list
last_of b = refl

pub faulty_is : (b : List ℕ) → Bytes b → length b ≡ 7168 → number_at b 0 ≡ 1026 → Faulty b → is_state b ≡ true
faulty_is b bytes long stage f =
    let st : stamped (stage_of (number_at b 0)) ≡ number_at b 0 = rw stage refl in
    let t = zeros_parts (list (number_at b) 15 85) (number_at b 100 ∷ []) (ap are_zeros (sym (last_of b)) ∙ f.after) in
    let none : number_at b 100 ≡ 0 = zero_one (number_at b 100) t.1 in
    let row : numbers_of (failed (number_at b 12) (number_at b 13) (number_at b 14)) ≡ row_at b =
    sym (failed_row b ∙ rw (stage, none, numbers_zero (number_at b) 1 11 f.before, numbers_zero (number_at b) 15 85 t.0) refl) in
    passes b (failed (number_at b 12) (number_at b 13) (number_at b 14)) (state_failed b stage) f.fit (ap row_bytes row ∙ ended_row b bytes long st none f.rest)

pub is_faulty : (b : List ℕ) → number_at b 0 ≡ 1026 → is_state b ≡ true → Faulty b
is_faulty b stage e =
    let s : State = failed (number_at b 12) (number_at b 13) (number_at b 14) in
    let says : state_at b ≡ s = state_failed b stage in
    let row : row_at b ≡ numbers_of s = ended_numbers b s says refl e in
    let front : list (number_at b) 1 11 ≡ replicate 11 0 = sym (parts b).0 ∙ ap (λ (l : List ℕ). take 11 (drop 1 l)) row in
    let back : list (number_at b) 15 85 ≡ replicate 85 0 = sym (parts b).1 ∙ ap (λ (l : List ℕ). take 85 (drop 15 l)) row in
    record {
      fit = s_fits b s says refl e;
      before = zero_numbers (number_at b) 1 11 front;
      after = ap are_zeros (last_of b) ∙ zeros_join (list (number_at b) 15 85) (number_at b 100 ∷ []) (zero_numbers (number_at b) 15 85 back) (one_zero (number_at b 100) (ended_count b s says refl e));
      rest = ended_zeros b s says refl e;
    }

-- ---- a closed state

pub record Bare (b : List ℕ) : Type 0 where
  pub front : are_zeros (list (number_at b) 0 101) ≡ true
  pub rest : are_zeros (drop 808 b) ≡ true

pub state_closed : (b : List ℕ) → (number_at b 0 ≡ 1025 → ⊥) → (number_at b 0 ≡ 1026 → ⊥) → state_at b ≡ closed
unfolding state_of row_at
state_closed b x y = rw (ne_eqb (number_at b 0) 1025 x, ne_eqb (number_at b 0) 1026 y) refl

all_of_them : (b : List ℕ) → list (number_at b) 0 101 ≡ number_at b 0 ∷ (list (number_at b) 1 99 ++ number_at b 100 ∷ [])
unfolding list
all_of_them b = refl

closed_row : (b : List ℕ) → row_at b ≡ stage_of (number_at b 0) ∷ (list (number_at b) 1 99 ++ take (number_at b 100) (drop 1024 b))
unfolding row_at
closed_row b = refl

pub bare_is : (b : List ℕ) → Bytes b → length b ≡ 7168 → (number_at b 0 ≡ 1025 → ⊥) → (number_at b 0 ≡ 1026 → ⊥) → Bare b → is_state b ≡ true
unfolding fits
bare_is b bytes long x y z =
    let t = zeros_parts (number_at b 0 ∷ []) (list (number_at b) 1 99 ++ number_at b 100 ∷ []) (ap are_zeros (sym (all_of_them b)) ∙ z.front) in
    let u = zeros_parts (list (number_at b) 1 99) (number_at b 100 ∷ []) t.1 in
    let stage : number_at b 0 ≡ 0 = zero_one (number_at b 0) t.0 in
    let none : number_at b 100 ≡ 0 = zero_one (number_at b 100) u.1 in
    let st : stamped (stage_of (number_at b 0)) ≡ number_at b 0 = rw stage refl in
    let row : numbers_of closed ≡ row_at b = sym (closed_row b ∙ rw (stage, none, numbers_zero (number_at b) 1 99 u.0) refl) in
    passes b closed (state_closed b x y) refl (ap row_bytes row ∙ ended_row b bytes long st none z.rest)

pub is_bare : (b : List ℕ) → (number_at b 0 ≡ 1025 → ⊥) → (number_at b 0 ≡ 1026 → ⊥) → is_state b ≡ true → Bare b
is_bare b x y e =
    let says : state_at b ≡ closed = state_closed b x y in
    let row : row_at b ≡ numbers_of closed = ended_numbers b closed says refl e in
    let numbers : list (number_at b) 1 99 ≡ replicate 99 0 = sym (parts b).2 ∙ ap (λ (l : List ℕ). take 99 (drop 1 l)) row in
    let last : are_zeros (number_at b 100 ∷ []) ≡ true = one_zero (number_at b 100) (ended_count b closed says refl e) in
    let behind : are_zeros (list (number_at b) 1 99 ++ number_at b 100 ∷ []) ≡ true = zeros_join (list (number_at b) 1 99) (number_at b 100 ∷ []) (zero_numbers (number_at b) 1 99 numbers) last in
    record {
      front = ap are_zeros (all_of_them b) ∙ zeros_join (number_at b 0 ∷ []) (list (number_at b) 1 99 ++ number_at b 100 ∷ []) (one_zero (number_at b 0) (ended_stage b closed says refl e)) behind;
      rest = ended_zeros b closed says refl e;
    }
