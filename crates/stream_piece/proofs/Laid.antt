-- What is written behind what stands there.
use Prim.Native.Nat.{ℕ, suc, ◌+◌, ◌-◌, ◌/◌, ◌≤◌, ◌<◌}
use native.Mathlib.Omega.{arith}
use mathlib.Core.Bool.{Bool, true, false, cond}
use mathlib.Core.Path.{◌≡◌, refl, ap, ap₂, sym, ◌∙◌}
use mathlib.Core.List.{List, [], ◌∷◌, ◌++◌, append_assoc, append-nil}
use lib.ListN.{length, take, drop, set, get_or, length-append, length-drop, take-append-drop, drop_of_length-le}
use lib.Seq.{drop_at, drop-drop, ext_get_or, get_or-take, length-take-le, set_split, take_at}
use borrow.Rule.Slice.PartMut.{put_mid}
use Rattle.format.specs.Answer.{over}
use Rattle.format.specs.Plan.{times_needed}
use Rattle.format.specs.declared.Plan.{Plan}
use Rattle.log_write.specs.Pen.{Wrote}
use Rattle.log_write.specs.declared.Pen.{Pen}
use Rattle.stream_piece.specs.Along.{laid}

pub laid_none : (at : ℕ) (l : List ℕ) → laid at [] l ≡ l
laid_none at l =
    let e : at + length {A = ℕ} [] ≡ at = omega arith in
    ap (λ (n : ℕ). take at l ++ drop n l) e ∙ take-append-drop at l

-- from the front on
pub laid_front : (x l : List ℕ) → laid 0 x l ≡ over x l
laid_front x l =
    let e : 0 + length x ≡ length x = omega arith in
    ap (λ (n : ℕ). x ++ drop n l) e

-- a part that was lent
pub laid_part : (at k : ℕ) (x l ys : List ℕ) → length x ≡ k → ys ≡ x → put_mid at k l ys ≡ laid at x l
laid_part at k x l ys e y =
    let d : drop k (drop at l) ≡ drop (at + length x) l = drop-drop k at l ∙ ap (λ (n : ℕ). drop (at + n) l) (sym e) in
    ap₂ (λ (u v : List ℕ). take at l ++ (u ++ v)) y d

-- one number
pub laid_one : (at v : ℕ) (l : List ℕ) → at < length l → set l at v ≡ laid at (v ∷ []) l
laid_one at v l h =
    let e : suc at ≡ at + length (v ∷ []) = omega arith in
    set_split l at v h ∙ ap (λ (n : ℕ). take at l ++ v ∷ drop n l) e

-- more behind it
pub laid_more : (at : ℕ) (x y l : List ℕ) → at + length x + length y ≤ length l → laid (at + length x) y (laid at x l) ≡ laid at (x ++ y) l
laid_more at x y l h =
    let n : ℕ = at + length x in
    let F : List ℕ = take at l ++ x in
    let D : List ℕ = drop n l in
    let s : length F ≡ n = length-append (take at l) x ∙ ap (λ (k : ℕ). k + length x) (length-take-le at l (omega (arith, h))) in
    let a : laid at x l ≡ F ++ D = sym (append_assoc (take at l) x D) in
    let t : take n (laid at x l) ≡ F = ap (take n) a ∙ take_at F D n s in
    let d : drop (n + length y) (laid at x l) ≡ drop (n + length y) l =
    ap (drop (n + length y)) a ∙ sym (drop-drop (length y) n (F ++ D)) ∙ ap (drop (length y)) (drop_at F D n s) ∙ drop-drop (length y) n l in
    let e : n + length y ≡ at + length (x ++ y) = rw (length-append x y) (omega arith) in
    ap₂ (λ (u v : List ℕ). u ++ (y ++ v)) t d ∙ append_assoc (take at l) x (y ++ drop (n + length y) l)
    ∙ ap (λ (u : List ℕ). take at l ++ u) (sym (append_assoc x y (drop (n + length y) l)) ∙ ap (λ (k : ℕ). (x ++ y) ++ drop k l) e)

-- the same length as before
pub laid_long : (at : ℕ) (x l : List ℕ) → at + length x ≤ length l → length (laid at x l) ≡ length l
laid_long at x l h =
    length-append (take at l) (x ++ drop (at + length x) l)
    ∙ ap₂ (λ (a b : ℕ). a + b) (length-take-le at l (omega (arith, h))) (length-append x (drop (at + length x) l))
    ∙ rw (length-drop (at + length x) l) (omega (arith, h))

-- ---- the log that a pen has built

-- the array has the bytes written, where it has seven places more
pub written : {bits out : List ℕ} {pen : Pen} (w : Wrote bits out pen) → pen.bits / 8 + 7 ≤ length out → take (pen.bits / 8) out ≡ w.bytes
written {bits} {out} {pen} w h =
    let n : ℕ = pen.bits / 8 in
    let a : length (take n out) ≡ n = length-take-le n out (omega (arith, h)) in
    ext_get_or 0 (take n out) w.bytes (a ∙ sym w.size)
    (λ i k. let j : i < n = rw a at k in get_or-take n out i 0 j ∙ w.kept i (omega (arith, h, j)) j)

-- ---- a part of an array, copied behind what is written

pub copy_laid : (out : List ℕ) (at n : ℕ) (l ys : List ℕ) → n ≤ length out → at + n ≤ length l
    → ys ≡ take n out ++ drop n (take (at + n - at) (drop at l)) → put_mid at (at + n - at) l ys ≡ laid at (take n out) l
copy_laid out at n l ys h room y =
    let k : at + n - at ≡ n = omega arith in
    let s : length (take (at + n - at) (drop at l)) ≤ n = rw (k, length-take-le n (drop at l) (rw (length-drop at l) (omega (arith, room)))) (omega arith) in
    let z : drop n (take (at + n - at) (drop at l)) ≡ [] = drop_of_length-le (take (at + n - at) (drop at l)) s in
    laid_part at (at + n - at) (take n out) l ys (length-take-le n out h ∙ sym k) (y ∙ ap (λ (v : List ℕ). take n out ++ v) z ∙ append-nil (take n out))

-- a time, or none
pub no_time_laid : (b : Bool) (at t : ℕ) (l : List ℕ) → b ≡ false → l ≡ laid at (cond b (t ∷ []) []) l
no_time_laid b at t l e = rw e (sym (laid_none at l))

pub time_laid : (b : Bool) (at t v : ℕ) (l : List ℕ) → b ≡ true → v ≡ t → at < length l → set l at v ≡ laid at (cond b (t ∷ []) []) l
time_laid b at t v l e z h = rw (e, z) (laid_one at t l h)

-- one entry a group where the plan has frame time
pub needs_one : (p : Plan) → p.frame_time ≡ true → times_needed p 1 ≡ 1
needs_one p e = rw e refl

pub needs_none : (p : Plan) → p.frame_time ≡ false → times_needed p 1 ≡ 0
needs_none p e = rw e refl
