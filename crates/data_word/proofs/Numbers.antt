-- The number that fields say, and its bits.
use Prim.Native.Nat.{ℕ, zero, suc, ◌+◌, ◌*◌, ◌^◌, ◌≤◌, ◌<◌}
use native.Mathlib.Nat.{mul-le-mul_right}
use native.Mathlib.Omega.{arith}
use mathlib.Core.Path.{◌≡◌, refl, sym, ap, ap₂, ◌∙◌}
use mathlib.Core.List.{List, [], ◌∷◌, ◌++◌, flat_map, append_assoc, append-nil}
use lib.ListN.{take, drop, take-append-drop}
use lib.Pow.{pow-add}
use Rattle.format.specs.Bits.{bits_of}
use Rattle.format.specs.Laws.Bits.{bits_cat}
use Rattle.format.specs.Laws.Log.Fields.{Narrow}
use Rattle.format.specs.Item.{Field, item_fields, item_bits}
use Rattle.format.specs.declared.Item.{Item}
use Rattle.data_start.specs.Holding.{number_of, width_of}

unfoldable pub field_bits : List Field → List ℕ
field_bits [] = []
field_bits (f ∷ fs) = bits_of f.0 f.1 ++ field_bits fs

bits_behind : (a k : ℕ) (fs : List Field) → Narrow fs → bits_of (k + width_of fs) (number_of a fs) ≡ bits_of k a ++ field_bits fs
unfolding field_bits
bits_behind a k [] n = let e : k + 0 ≡ k = omega arith in rw (e, append-nil (bits_of k a))
bits_behind a k (f ∷ fs) n =
    let e : k + (f.0 + width_of fs) ≡ k + f.0 + width_of fs = omega arith in
    rw e (bits_behind (a * 2 ^ f.0 + f.1) (k + f.0) fs n.1 ∙ rw (bits_cat k f.0 a f.1 n.0) (append_assoc (bits_of k a) (bits_of f.0 f.1) (field_bits fs)))

pub bits_of_fields : (fs : List Field) → Narrow fs → bits_of (width_of fs) (number_of 0 fs) ≡ field_bits fs
unfolding bits_of
bits_of_fields fs n = let e : 0 + width_of fs ≡ width_of fs = omega arith in rw e at (bits_behind 0 0 fs n)

fits_behind : (a k : ℕ) (fs : List Field) → a < 2 ^ k → Narrow fs → number_of a fs < 2 ^ (k + width_of fs)
fits_behind a k [] h n = let e : k + 0 ≡ k = omega arith in rw e h
fits_behind a k (f ∷ fs) h n =
    let e : k + (f.0 + width_of fs) ≡ k + f.0 + width_of fs = omega arith in
    let p : 2 ^ (k + f.0) ≡ 2 ^ k * 2 ^ f.0 = pow-add 2 k f.0 in
    let q : suc a * 2 ^ f.0 ≤ 2 ^ k * 2 ^ f.0 = mul-le-mul_right (2 ^ f.0) h in
    let m : a * 2 ^ f.0 + f.1 < 2 ^ (k + f.0) = rw p (omega (arith, n.0)) in
    rw e (fits_behind (a * 2 ^ f.0 + f.1) (k + f.0) fs m n.1)

pub number_of_fields_fits : (fs : List Field) → Narrow fs → number_of 0 fs < 2 ^ width_of fs
number_of_fields_fits fs n = let e : 0 + width_of fs ≡ width_of fs = omega arith in rw e at (fits_behind 0 0 fs (omega arith) n)

pub narrow_take : (k : ℕ) (fs : List Field) → Narrow fs → Narrow (take k fs)
narrow_take zero fs n = tt
narrow_take (suc k) [] n = tt
narrow_take (suc k) (f ∷ fs) n = (n.0, narrow_take k fs n.1)

pub narrow_drop : (k : ℕ) (fs : List Field) → Narrow fs → Narrow (drop k fs)
narrow_drop zero fs n = n
narrow_drop (suc k) [] n = tt
narrow_drop (suc k) (f ∷ fs) n = narrow_drop k fs n.1

field_bits_append : (xs ys : List Field) → field_bits (xs ++ ys) ≡ field_bits xs ++ field_bits ys
unfolding field_bits
field_bits_append [] ys = refl
field_bits_append (f ∷ xs) ys =
    rw (field_bits_append xs ys) (sym (append_assoc (bits_of f.0 f.1) (field_bits xs) (field_bits ys)))

pub field_bits_cut : (k : ℕ) (fs : List Field) → field_bits (take k fs) ++ field_bits (drop k fs) ≡ field_bits fs
field_bits_cut k fs = sym (field_bits_append (take k fs) (drop k fs)) ∙ ap field_bits (take-append-drop k fs)

item_bits_of_fields : (fs : List Field) → field_bits fs ≡ flat_map (λ (f : Field). bits_of f.0 f.1) fs
unfolding field_bits flat_map
item_bits_of_fields [] = refl
item_bits_of_fields (f ∷ fs) = ap (λ (l : List ℕ). bits_of f.0 f.1 ++ l) (item_bits_of_fields fs)

pub bits_of_items : (is : List Item) → field_bits (flat_map item_fields is) ≡ flat_map item_bits is
unfolding flat_map item_bits field_bits
bits_of_items [] = refl
bits_of_items (i ∷ is) =
    field_bits_append (item_fields i) (flat_map item_fields is)
    ∙ ap₂ (λ (u v : List ℕ). u ++ v) (item_bits_of_fields (item_fields i)) (bits_of_items is)
