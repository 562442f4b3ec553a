-- Times as numbers and as runs of eight bytes are one thing; what names a plan has sixteen kinds.
use Rattle.std.specs.Prelude.{ℕ, zero, suc, ◌+◌, ◌*◌, ◌/◌, ◌%◌, ◌^◌, ◌<◌, ◌≤◌, true, ◌&&◌, ◌≡◌, refl, take, eqb}
use Rattle.std.proofs.Common.{mod-eq_of_lt, sym, ◌∙◌, length-append, take_all, eqb-true}
use native.Mathlib.Omega.{arith}
use Rattle.std.proofs.Math.Path.{ap}
use mathlib.Core.List.{List, [], ◌∷◌, ◌++◌, append_assoc, append-nil, flat_map}
use Rattle.std.proofs.Math.ListN.{length, get_or}
use Rattle.std.proofs.lemmas.Nat.{mod-pow-add}
use Rattle.std.proofs.Math.Seq.{get_or-append-add}
use Rattle.format.specs.Lists.{All, nil, cons, Bytes, list}
use Rattle.format.specs.Laws.Lists.{length_list, list_is, list_same}
use Rattle.format.specs.Laws.Tests.{and_true}
use Rattle.from_c.specs.Numbers.{are_kinds, half_at, is_choice, named, time_at, time_bytes, times_from}

-- eight bytes further on
module _ (xs s : List ℕ) (eight : length xs ≡ 8) where
  half_skip : (at : ℕ) → half_at (xs ++ s) (8 + at) ≡ half_at s at
  unfolding half_at
  half_skip at = rw (further (8 + at) at (omega arith), further (8 + at + 1) (at + 1) (omega arith), further (8 + at + 2) (at + 2) (omega arith), further (8 + at + 3) (at + 3) (omega arith))
    where
      further : (a b : ℕ) → length xs + b ≡ a → get_or (xs ++ s) a 0 ≡ get_or s b 0
      further a b e = ap (λ (n : ℕ). get_or (xs ++ s) n 0) (sym e) ∙ get_or-append-add xs s b 0

  time_skip : (at : ℕ) → time_at (xs ++ s) (8 + at) ≡ time_at s at
  unfolding time_at
  time_skip at =
      let e : 8 + at + 4 ≡ 8 + (at + 4) = omega arith in
      rw (e, half_skip at, half_skip (at + 4))

pub length_time : (t : ℕ) → length (time_bytes t) ≡ 8
unfolding time_bytes
length_time t = refl

pub length_times : (ts : List ℕ) → length (flat_map time_bytes ts) ≡ 8 * length ts
unfolding flat_map
length_times [] = refl
length_times (t ∷ ts) = length-append (time_bytes t) (flat_map time_bytes ts) ∙ rw (length_time t, length_times ts) (omega arith)

join : (t m6 m5 m4 m3 m2 m1 a b c d e f g h : ℕ) → t ≡ a * 2 ^ 56 + m6 → m6 ≡ b * 2 ^ 48 + m5 → m5 ≡ c * 2 ^ 40 + m4 → m4 ≡ d * 2 ^ 32 + m3
    → m3 ≡ e * 2 ^ 24 + m2 → m2 ≡ f * 2 ^ 16 + m1 → m1 ≡ g * 2 ^ 8 + h
    → (a * 2 ^ 24 + b * 2 ^ 16 + c * 2 ^ 8 + d) * 2 ^ 32 + (e * 2 ^ 24 + f * 2 ^ 16 + g * 2 ^ 8 + h) ≡ t
join t m6 m5 m4 m3 m2 m1 a b c d e f g h q7 q6 q5 q4 q3 q2 q1 = omega arith

-- a number below 2 ^ 64 is what its eight bytes say
time_back : (t : ℕ) (s : List ℕ) → t < 2 ^ 64 → time_at (time_bytes t ++ s) 0 ≡ t
unfolding time_at half_at time_bytes
time_back t s h =
    join t (t % 2 ^ 56) (t % 2 ^ 48) (t % 2 ^ 40) (t % 2 ^ 32) (t % 2 ^ 24) (t % 2 ^ 16) _ _ _ _ _ _ _ _
    (sym (mod-eq_of_lt h) ∙ mod-pow-add t 8 56) (mod-pow-add t 8 48) (mod-pow-add t 8 40) (mod-pow-add t 8 32) (mod-pow-add t 8 24) (mod-pow-add t 8 16) (mod-pow-add t 8 8)

-- the number i of those written in front
pub at_index : (ts s : List ℕ) → All (λ t. t < 2 ^ 64) ts → (i : ℕ) → i < length ts → time_at (flat_map time_bytes ts ++ s) (8 * i) ≡ get_or ts i 0
unfolding flat_map
at_index [] s nil i h = absurd (omega arith)
at_index (t ∷ ts) s (cons l a) zero h =
    let e : 8 * 0 ≡ 0 = omega arith in
    rw (e, append_assoc (time_bytes t) (flat_map time_bytes ts) s) (time_back t (flat_map time_bytes ts ++ s) l)
at_index (t ∷ ts) s (cons l a) (suc i) h =
    let e : 8 * suc i ≡ 8 + 8 * i = omega arith in
    rw (e, append_assoc (time_bytes t) (flat_map time_bytes ts) s) (time_skip (time_bytes t) (flat_map time_bytes ts ++ s) (length_time t) (8 * i) ∙ at_index ts s a i (omega arith))

-- numbers below 2 ^ 64, written as bytes, are read back
pub times_back : (ts : List ℕ) → All (λ t. t < 2 ^ 64) ts → times_from (flat_map time_bytes ts) ≡ ts
times_back ts a =
    let n : length (flat_map time_bytes ts) / 8 ≡ length ts = rw (length_times ts) (omega arith) in
    ap (list (λ i. time_at (flat_map time_bytes ts) (8 * i)) 0) n
    ∙ list_is (λ i. time_at (flat_map time_bytes ts) (8 * i)) ts 0 (λ i h. let e : 0 + i ≡ i = omega arith in rw e (rw (append-nil (flat_map time_bytes ts)) at (at_index ts [] a i h)))

-- eight bytes are those of the number that they say
bytes_back_one : (a b c d e f g h : ℕ) (s : List ℕ) → a < 256 → b < 256 → c < 256 → d < 256 → e < 256 → f < 256 → g < 256 → h < 256
    → time_bytes (time_at (a ∷ b ∷ c ∷ d ∷ e ∷ f ∷ g ∷ h ∷ s) 0) ≡ a ∷ b ∷ c ∷ d ∷ e ∷ f ∷ g ∷ h ∷ []
unfolding time_at half_at time_bytes
bytes_back_one a b c d e f g h s la lb lc ld le lf lg lh =
    let t : ℕ = (a * 2 ^ 24 + b * 2 ^ 16 + c * 2 ^ 8 + d) * 2 ^ 32 + (e * 2 ^ 24 + f * 2 ^ 16 + g * 2 ^ 8 + h) in
    let qa : t / 2 ^ 56 % 256 ≡ a = omega arith in
    let qb : t / 2 ^ 48 % 256 ≡ b = omega arith in
    let qc : t / 2 ^ 40 % 256 ≡ c = omega arith in
    let qd : t / 2 ^ 32 % 256 ≡ d = omega arith in
    let qe : t / 2 ^ 24 % 256 ≡ e = omega arith in
    let qf : t / 2 ^ 16 % 256 ≡ f = omega arith in
    let qg : t / 2 ^ 8 % 256 ≡ g = omega arith in
    let qh : t % 256 ≡ h = omega arith in
    rw (qa, qb, qc, qd, qe, qf, qg, qh)

-- the first eights of bytes, read as numbers, are written back
pub eights_back : (n : ℕ) (s : List ℕ) → Bytes s → 8 * n ≤ length s → flat_map time_bytes (list (λ i. time_at s (8 * i)) 0 n) ≡ take (8 * n) s
unfolding flat_map list
eights_back zero s w e = refl
eights_back (suc n) (a ∷ b ∷ c ∷ d ∷ f ∷ g ∷ h ∷ i ∷ s) (cons la (cons lb (cons lc (cons ld (cons lf (cons lg (cons lh (cons li w)))))))) e =
    let z : 8 * 0 ≡ 0 = omega arith in
    let m : 8 * suc n ≡ suc (suc (suc (suc (suc (suc (suc (suc (8 * n)))))))) = omega arith in
    let x : List ℕ = a ∷ b ∷ c ∷ d ∷ f ∷ g ∷ h ∷ i ∷ [] in
    let rest : list (λ k. time_at (x ++ s) (8 * k)) (0 + 1) n ≡ list (λ k. time_at s (8 * k)) 0 n =
    list_same (λ k. time_at (x ++ s) (8 * k)) (λ k. time_at s (8 * k)) n (0 + 1) 0 (λ k l. let m : 8 * (0 + 1 + k) ≡ 8 + 8 * (0 + k) = omega arith in rw m (time_skip x s refl (8 * (0 + k)))) in
    rw (m, z, rest, bytes_back_one a b c d f g h i s la lb lc ld lf lg lh li, eights_back n s w (omega arith))
eights_back (suc n) [] w e = absurd (omega arith)
eights_back (suc n) (a ∷ []) w e = absurd (omega arith)
eights_back (suc n) (a ∷ b ∷ []) w e = absurd (omega arith)
eights_back (suc n) (a ∷ b ∷ c ∷ []) w e = absurd (omega arith)
eights_back (suc n) (a ∷ b ∷ c ∷ d ∷ []) w e = absurd (omega arith)
eights_back (suc n) (a ∷ b ∷ c ∷ d ∷ f ∷ []) w e = absurd (omega arith)
eights_back (suc n) (a ∷ b ∷ c ∷ d ∷ f ∷ g ∷ []) w e = absurd (omega arith)
eights_back (suc n) (a ∷ b ∷ c ∷ d ∷ f ∷ g ∷ h ∷ []) w e = absurd (omega arith)

-- whole eights of bytes, read as numbers, are written back
pub bytes_back : (s : List ℕ) → Bytes s → length s % 8 ≡ 0 → flat_map time_bytes (times_from s) ≡ s
bytes_back s w e =
    let l : length s ≤ 8 * (length s / 8) = omega arith in
    eights_back (length s / 8) s w (omega arith) ∙ take_all (8 * (length s / 8)) s l

-- each byte of a time is a byte
pub times_bytes : (ts : List ℕ) → Bytes (flat_map time_bytes ts)
unfolding flat_map time_bytes
times_bytes [] = nil
times_bytes (t ∷ ts) =
    cons {a = t / 2 ^ 56 % 256} (omega arith) (cons {a = t / 2 ^ 48 % 256} (omega arith) (cons {a = t / 2 ^ 40 % 256} (omega arith) (cons {a = t / 2 ^ 32 % 256} (omega arith) (cons {a = t / 2 ^ 24 % 256} (omega arith) (cons {a = t / 2 ^ 16 % 256} (omega arith) (cons {a = t / 2 ^ 8 % 256} (omega arith) (cons {a = t % 256} (omega arith) (times_bytes ts))))))))

pub times_number : (s : List ℕ) → length (times_from s) ≡ length s / 8
times_number s = length_list _ 0 (length s / 8)

-- what names a plan names sixteen kinds
pub sixteen : (time crc parity : ℕ) (kinds : List ℕ) → named time crc parity kinds ≡ true → length kinds ≡ 16
sixteen time crc parity kinds e =
    let a = (and_true (is_choice time) (is_choice crc && (is_choice parity && (eqb (length kinds) 16 && are_kinds kinds))) e).1 in
    let b = (and_true (is_choice crc) (is_choice parity && (eqb (length kinds) 16 && are_kinds kinds)) a).1 in
    let d = (and_true (is_choice parity) (eqb (length kinds) 16 && are_kinds kinds) b).1 in
    eqb-true (length kinds) 16 (and_true (eqb (length kinds) 16) (are_kinds kinds) d).0
