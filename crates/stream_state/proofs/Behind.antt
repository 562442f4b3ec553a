-- A piece is put behind the bytes that wait.
use Prim.Native.Nat.{ℕ, ◌+◌, ◌*◌, ◌-◌, ◌≤◌, ◌<◌}
use native.Mathlib.Omega.{arith}
use mathlib.Core.Bool.{true}
use mathlib.Core.Path.{◌≡◌, refl, ap, ap₂, sym, ◌∙◌}
use mathlib.Core.List.{List, [], ◌∷◌, ◌++◌, append_assoc, flat_map}
use lib.ListN.{length, take, drop, replicate, length-append, length-replicate}
use lib.Seq.{drop_at, take_at}
use borrow.Rule.Slice.PartMut.{put_mid}
use Rattle.format.specs.Laws.Limits.{group_most}
use Rattle.from_c.specs.Numbers.{time_bytes}
use Rattle.from_c.specs.Laws.{length_time, length_times}
use Rattle.stream_rules.specs.Stream.{State, working, Working, fits, keeps}
use Rattle.stream_state.specs.Layout.{state_at, state_bytes, zeros_behind}
use Rattle.stream_state.specs.Storing.{Waits, kept_in, waiting_bytes}
use Rattle.stream_state.specs.Laws.Bytes.{passed}
use Rattle.stream_state.specs.Laws.Small.{hundred, hundred_long, shape}
use Rattle.stream_state.proofs.Stored.{work_bytes}
use Rattle.stream_state.proofs.Zeros.{zeros_add}

-- a part in the middle is replaced
mid : (a b c ys : List ℕ) (i k : ℕ) → length a ≡ i → length b ≡ k → put_mid i k (a ++ (b ++ c)) ys ≡ a ++ (ys ++ c)
mid a b c ys i k e f = rw (take_at a (b ++ c) i e, drop_at a (b ++ c) i e, drop_at b c k f) refl

-- F the numbers in front, t how many bytes wait, z the zeros behind it, v the bytes that wait and then room for p
replaced : (f t t' z v p o r : List ℕ) {i : ℕ} → length f ≡ 800 → length t ≡ 8 → 1016 + length v ≡ i → length (t ++ z) ≡ 224 → length o ≡ length p
    → put_mid 800 8 (put_mid (8 + i) (length p) (f ++ ((t ++ z) ++ (v ++ (o ++ r)))) p) t' ≡ f ++ (t' ++ (z ++ ((v ++ p) ++ r)))
replaced f t t' z v p o r {i} lf lt li lz lo =
    let a : f ++ ((t ++ z) ++ (v ++ (o ++ r))) ≡ (f ++ ((t ++ z) ++ v)) ++ (o ++ r) = simp append_assoc in
    let n : length (f ++ ((t ++ z) ++ v)) ≡ 8 + i =
    length-append f ((t ++ z) ++ v) ∙ rw (length-append (t ++ z) v, lf, lz) (omega (arith, li)) in
    let m : (f ++ ((t ++ z) ++ v)) ++ (p ++ r) ≡ f ++ (t ++ (z ++ ((v ++ p) ++ r))) = simp append_assoc in
    ap (λ (l : List ℕ). put_mid 800 8 (put_mid (8 + i) (length p) l p) t') a
    ∙ ap (λ (l : List ℕ). put_mid 800 8 l t') (mid (f ++ ((t ++ z) ++ v)) o r p (8 + i) (length p) n lo ∙ m)
    ∙ mid f t (z ++ ((v ++ p) ++ r)) t' 800 8 lf lt

abbrev zeros : ℕ → List ℕ
zeros n = replicate n 0

-- the room behind the bytes that wait
zeros_split : (x y : ℕ) → x + y ≤ 6144 → zeros (6144 - x) ≡ zeros y ++ zeros (6144 - (x + y))
zeros_split x y h =
    let e : y + (6144 - (x + y)) ≡ 6144 - x = omega arith in
    ap zeros (sym e) ∙ sym (zeros_add y (6144 - (x + y)))

module _ (b : List ℕ) (waiting : ℕ) (p : List ℕ) (s : Waits b waiting (length p)) where
  w_fits : fits (working s.work) ≡ true
  w_fits = ap fits (sym s.says) ∙ (passed b s.passes).fit

  pub long : length b ≡ 7168
  long = (passed b s.passes).long

  pub room : waiting + length p < 6144
  room = omega (arith, s.part, group_most s.work.plan (shape s.work w_fits))

  abbrev v : List ℕ
  v = s.work.waiting

  abbrev front : List ℕ
  front = flat_map time_bytes (1025 ∷ hundred s.work)

  front_long : length front ≡ 800
  front_long = length_times (1025 ∷ hundred s.work) ∙ rw (hundred_long s.work w_fits) refl

  was : b ≡ front ++ waiting_bytes v
  was = sym (passed b s.passes).is ∙ ap state_bytes s.says ∙ work_bytes s.work (hundred_long s.work w_fits)

  apart : b ≡ front ++ ((time_bytes (length v) ++ zeros 216) ++ (v ++ (zeros (length p) ++ zeros (6144 - (length v + length p)))))
  apart =
      was ∙ ap (λ (l : List ℕ). front ++ (time_bytes (length v) ++ (zeros 216 ++ (v ++ l)))) (zeros_split (length v) (length p) (omega (arith, room, s.count)))
      ∙ ap (λ (l : List ℕ). front ++ l) (sym (append_assoc (time_bytes (length v)) (zeros 216) (v ++ (zeros (length p) ++ zeros (6144 - (length v + length p))))))

  now_is : front ++ (time_bytes (length (v ++ p)) ++ (zeros 216 ++ ((v ++ p) ++ zeros (6144 - (length v + length p))))) ≡ state_bytes (kept_in (state_at b) p)
  now_is =
      let n : 6144 - (length v + length p) ≡ 6144 - length (v ++ p) = ap (λ (i : ℕ). 6144 - i) (sym (length-append v p)) in
      ap (λ (i : ℕ). front ++ (time_bytes (length (v ++ p)) ++ (zeros 216 ++ ((v ++ p) ++ zeros i)))) n
      ∙ sym (ap (λ (x : State). state_bytes (kept_in x p)) s.says ∙ work_bytes (keeps s.work (v ++ p)) (hundred_long s.work w_fits))

  pub piece_kept : (i k n : ℕ) (ys zs : List ℕ) → i ≡ 1024 + waiting → k ≡ length p → n ≡ waiting + length p → ys ≡ p → zs ≡ time_bytes n
      → put_mid 800 8 (put_mid i k b ys) zs ≡ state_bytes (kept_in (state_at b) p)
  piece_kept i k n ys zs ei ek en ey ez =
      let c : n ≡ length (v ++ p) = en ∙ ap (λ (j : ℕ). j + length p) s.count ∙ sym (length-append v p) in
      let t : zs ≡ time_bytes (length (v ++ p)) = ez ∙ ap time_bytes c in
      let j : i ≡ 8 + (1016 + length v) = omega (arith, ei, s.count) in
      let g : length (time_bytes (length v) ++ zeros 216) ≡ 224 = length-append (time_bytes (length v)) (zeros 216) ∙ rw (length_time (length v)) refl in
      rw (j, ek, ey, t)
      (ap (λ (l : List ℕ). put_mid 800 8 (put_mid (8 + (1016 + length v)) (length p) l p) (time_bytes (length (v ++ p)))) apart
      ∙ replaced front (time_bytes (length v)) (time_bytes (length (v ++ p))) (zeros 216) v p (zeros (length p)) (zeros (6144 - (length v + length p))) front_long
      (length_time (length v)) refl g (length-replicate {A = ℕ} (length p) 0)
      ∙ now_is)
