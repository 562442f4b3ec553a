-- Numbers put into a lent row, as far as there is room.
use Prim.Native.Nat.{ℕ, zero, suc, ◌+◌, ◌-◌, ◌<◌, ◌≤◌}
use native.Mathlib.Numerals.{add-one}
use native.Mathlib.Omega.{arith}
use mathlib.Core.Bool.{Bool, true, false, cond}
use mathlib.Core.Path.{◌≡◌, refl, sym, ap, ◌∙◌}
use mathlib.Core.List.{List, [], ◌∷◌, ◌++◌, map, append_assoc, append-nil}
use lib.ListN.{length, drop, set, get_or, length-set, drop_of_length-le}
use lib.Seq.{drop-cons}
use lib.Dec.{ltb}
use borrow.Author.Tests.{lt-ltb, le-ltb}
use Rattle.salvage_run.specs.Tape.{put_at, put_all}

pub put_long : (row : List ℕ) (at n : ℕ) → length (put_at row at n) ≡ length row
put_long row at n = go (ltb at (length row))
  where
    go : (b : Bool) → length (cond b (set row at n) row) ≡ length row
    go true = length-set row at n
    go false = refl

pub put_in : (row : List ℕ) (at n : ℕ) → at < length row → set row at n ≡ put_at row at n
put_in row at n h = rw (lt-ltb at (length row) h) refl

pub put_out : (row : List ℕ) (at n : ℕ) → length row ≤ at → row ≡ put_at row at n
put_out row at n h = rw (le-ltb at (length row) h) refl

pub all_long : (row : List ℕ) (at : ℕ) (ns : List ℕ) → length (put_all row at ns) ≡ length row
unfolding put_all
all_long row at [] = refl
all_long row at (n ∷ ns) = all_long (put_at row at n) (at + 1) ns ∙ put_long row at n

pub all_none : (row : List ℕ) (at : ℕ) → put_all row at [] ≡ row
unfolding put_all
all_none row at = refl

pub all_one : (row : List ℕ) (at n : ℕ) → put_all row at (n ∷ []) ≡ put_at row at n
unfolding put_all
all_one row at n = refl

pub all_append : (row : List ℕ) (at : ℕ) (ns ms : List ℕ) → put_all row at (ns ++ ms) ≡ put_all (put_all row at ns) (at + length ns) ms
unfolding put_all
all_append row at [] ms = let z : at ≡ at + 0 = omega arith in ap (λ (k : ℕ). put_all row k ms) z
all_append row at (n ∷ ns) ms =
    let z : at + 1 + length ns ≡ at + suc (length ns) = omega arith in
    all_append (put_at row at n) (at + 1) ns ms ∙ ap (λ (k : ℕ). put_all (put_all (put_at row at n) (at + 1) ns) k ms) z

-- the words of a row from k on
module _ (f : ℕ → ℕ) (ns : List ℕ) where
  pub all_next : (row : List ℕ) (at k : ℕ) → k < length ns → put_all row at (map f (drop k ns)) ≡ put_all (put_at row at (f (get_or ns k 0))) (at + 1) (map f (drop (k + 1) ns))
  unfolding put_all
  all_next row at k h =
      ap (λ (l : List ℕ). put_all row at (map f l)) (drop-cons ns k 0 h) ∙ ap (λ (m : ℕ). put_all (put_at row at (f (get_or ns k 0))) (at + 1) (map f (drop m ns))) (sym (add-one k))

  pub all_last : (row : List ℕ) (at k : ℕ) → length ns ≤ k → put_all row at (map f (drop k ns)) ≡ row
  unfolding put_all
  all_last row at k h = ap (λ (l : List ℕ). put_all row at (map f l)) (drop_of_length-le ns h)
