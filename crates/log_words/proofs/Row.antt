-- Words put into a row, one behind the other.
use Prim.Native.Nat.{ℕ, ◌+◌, ◌≤◌}
use native.Mathlib.Nat.{add-zero, zero-add}
use native.Mathlib.Omega.{arith}
use mathlib.Core.Path.{◌≡◌, ap, sym, ◌∙◌}
use mathlib.Core.List.{List, [], ◌∷◌, ◌++◌, append_assoc}
use lib.ListN.{length, take, drop, set, length-append, length-take, length-drop, take-append-drop}
use lib.Seq.{sets-eq, take_at, drop_at, drop-drop, length-take-le}
use Rattle.log_words.specs.Laid.{written, Puts}
use Rattle.log_words.specs.Row.{onto}

pub one_written : (at a : ℕ) (xs : List ℕ) → at + 1 ≤ length xs → set xs at a ≡ written at (a ∷ []) xs
one_written at a xs h = sets-eq (a ∷ []) xs at h ∙ append_assoc (take at xs) (a ∷ []) (drop (at + 1) xs)

pub written_length : (at : ℕ) (new xs : List ℕ) → at + length new ≤ length xs → length (written at new xs) ≡ length xs
written_length at new xs h = simp (length-append, length-take, length-drop) (omega arith)

pub written_taken : (at : ℕ) (new xs : List ℕ) → at + length new ≤ length xs → take (at + length new) (written at new xs) ≡ take at xs ++ new
written_taken at new xs h =
    let f : length (take at xs ++ new) ≡ at + length new = length-append (take at xs) new ∙ ap (λ (k : ℕ). k + length new) (length-take-le at xs (omega arith)) in
    ap (take (at + length new)) (sym (append_assoc (take at xs) new (drop (at + length new) xs))) ∙ take_at (take at xs ++ new) (drop (at + length new) xs) (at + length new) f

-- no words written
pub none_written : (at : ℕ) (xs : List ℕ) → written at [] xs ≡ xs
none_written at xs = ap (λ (n : ℕ). take at xs ++ drop n xs) (add-zero at) ∙ take-append-drop at xs

-- words at the front
pub first_written : (new xs : List ℕ) → written 0 new xs ≡ onto new xs
first_written new xs = ap (λ (n : ℕ). new ++ drop n xs) (zero-add (length new))

-- words written behind those that were written
pub more_written : (at : ℕ) (new more xs : List ℕ) → at + length new ≤ length xs
    → written (at + length new) more (written at new xs) ≡ written at (new ++ more) xs
more_written at new more xs h =
    let n : ℕ = at + length new in
    let f : length (take at xs ++ new) ≡ n = length-append (take at xs) new ∙ ap (λ (k : ℕ). k + length new) (length-take-le at xs (omega arith)) in
    let w : written at new xs ≡ (take at xs ++ new) ++ drop n xs = sym (append_assoc (take at xs) new (drop n xs)) in
    let d : drop (n + length more) (written at new xs) ≡ drop (n + length more) xs =
    sym (drop-drop (length more) n (written at new xs)) ∙ ap (drop (length more)) (rw w (drop_at (take at xs ++ new) (drop n xs) n f)) ∙ drop-drop (length more) n xs in
    let l : n + length more ≡ at + length (new ++ more) = rw (length-append new more) (omega arith) in
    rw (written_taken at new xs h, d, l) (simp append_assoc)

-- the same, as what a function does
pub puts_more : {at r q : ℕ} {new more xs ys zs : List ℕ} → Puts at new xs ys r → Puts r more ys zs q → at + length new ≤ length xs → Puts at (new ++ more) xs zs q
puts_more {at} {r} {q} {new} {more} {xs} {ys} {zs} a b h = record {
  next = rw (length-append new more) (omega (arith, a.next, b.next));
  is = b.is ∙ rw (a.next, a.is) (more_written at new more xs h);
}

pub puts_length : {at r : ℕ} {new xs ys : List ℕ} → Puts at new xs ys r → at + length new ≤ length xs → length ys ≡ length xs
puts_length {at} {r} {new} {xs} {ys} a h = rw a.is (written_length at new xs h)
