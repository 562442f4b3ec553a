-- Fields side by side, as one number and as bits.
use Prim.Native.Nat.{ℕ, ◌+◌, ◌*◌, ◌%◌, ◌^◌, ◌≤◌, ◌<◌}
use native.Mathlib.Nat.{add-zero, zero-add, add_assoc, mod-lt, le_refl}
use native.Mathlib.Omega.{arith}
use mathlib.Core.Path.{◌≡◌, refl, sym, ap, ap₂, ◌∙◌}
use mathlib.Core.List.{List, [], ◌∷◌, ◌++◌, flat_map, append_assoc, append-nil}
use lib.ListN.{take, drop, take-append-drop}
use lib.Pow.{pow_pos, pow-add}
use lib.Arith.{digits_lt}
use Rattle.format.specs.Bits.{bits_of}
use Rattle.format.specs.Item.{Field, item_fields, item_bits}
use Rattle.format.specs.declared.Tag.TheVariants.{Untagged, At}
use Rattle.format.specs.declared.Response.TheVariants.{Untimed, After}
use Rattle.format.specs.declared.Item.{Item}
use Rattle.format.specs.declared.Item.TheVariants.{Command, Status, Data, BusError, Arinc, Notice, User, Overflow}
use Rattle.log_write.specs.declared.Packed.{Packed}
use Rattle.log_write.specs.Packed.{widths, beside, packed_of}
use Rattle.format.specs.Laws.Bits.{bits_cat, bits_mod}

abbrev fields_bits : List Field → List ℕ
fields_bits fs = flat_map (λ (f : Field). bits_of f.0 f.1) fs

-- the bits of fields side by side are those of the fields
beside_bits : (k a : ℕ) (fs : List Field) → bits_of (k + widths fs) (beside a fs) ≡ bits_of k a ++ fields_bits fs
unfolding flat_map
beside_bits k a [] = rw (add-zero k, append-nil (bits_of k a))
beside_bits k a (f ∷ fs) =
    let n = f.0 in
    let v = f.1 % 2 ^ n in
    ap (λ (m : ℕ). bits_of m (beside (a * 2 ^ n + v) fs)) (sym (add_assoc k n (widths fs)))
    ∙ beside_bits (k + n) (a * 2 ^ n + v) fs
    ∙ ap (λ (l : List ℕ). l ++ fields_bits fs) (bits_cat k n a v (mod-lt f.1 (pow_pos n)) ∙ ap (◌++◌ (bits_of k a)) (bits_mod n n f.1 (le_refl n)))
    ∙ append_assoc (bits_of k a) (bits_of n f.1) (fields_bits fs)

beside_low : (k a : ℕ) (fs : List Field) → a < 2 ^ k → beside a fs < 2 ^ (k + widths fs)
beside_low k a [] h = rw (add-zero k) h
beside_low k a (f ∷ fs) h =
    let n = f.0 in
    let z : a * 2 ^ n + f.1 % 2 ^ n < 2 ^ (k + n) = rw (pow-add 2 k n) (digits_lt h (mod-lt f.1 (pow_pos n))) in
    rw (add_assoc k n (widths fs)) at (beside_low (k + n) (a * 2 ^ n + f.1 % 2 ^ n) fs z)

fields_append : (fs gs : List Field) → fields_bits (fs ++ gs) ≡ fields_bits fs ++ fields_bits gs
unfolding flat_map
fields_append [] gs = refl
fields_append (f ∷ fs) gs = ap (◌++◌ (bits_of f.0 f.1)) (fields_append fs gs) ∙ sym (append_assoc (bits_of f.0 f.1) (fields_bits fs) (fields_bits gs))

few : (i : Item) → (widths (take 5 (item_fields i)) ≤ 43) × (widths (drop 5 (item_fields i)) ≤ 46)
unfolding item_fields
few (Command bus b Untagged word) = omega arith
few (Command bus b (At t) word) = omega arith
few (Status bus b Untimed word) = omega arith
few (Status bus b (After r) word) = omega arith
few (Data bus b word) = omega arith
few (BusError bus b word) = omega arith
few (Arinc bus c Untagged word) = omega arith
few (Arinc bus c (At t) word) = omega arith
few (Notice bus c d) = omega arith
few (User bus b word) = omega arith
few (Overflow bus word) = omega arith

-- what the numbers of an item say
pub record Says (i : Item) (p : Packed) : Type 0 where
  pub bits : item_bits i ≡ bits_of p.first_bits p.first ++ bits_of p.behind_bits p.behind
  pub first_low : p.first < 2 ^ p.first_bits
  pub behind_low : p.behind < 2 ^ p.behind_bits
  pub first_few : p.first_bits ≤ 43
  pub behind_few : p.behind_bits ≤ 46

from_none : (fs : List Field) → (bits_of (widths fs) (beside 0 fs) ≡ fields_bits fs) × (beside 0 fs < 2 ^ widths fs)
unfolding bits_of
from_none fs = (
  ap (λ (n : ℕ). bits_of n (beside 0 fs)) (sym (zero-add (widths fs))) ∙ beside_bits 0 0 fs,
  rw (zero-add (widths fs)) at (beside_low 0 0 fs (omega arith)),
)

pub packed_says : (i : Item) → Says i (packed_of i)
unfolding packed_of item_bits
packed_says i =
    let f = from_none (take 5 (item_fields i)) in
    let g = from_none (drop 5 (item_fields i)) in
    record {
      bits = ap fields_bits (sym (take-append-drop 5 (item_fields i))) ∙ fields_append (take 5 (item_fields i)) (drop 5 (item_fields i)) ∙ ap₂ ◌++◌ (sym f.0) (sym g.0);
      first_low = f.1;
      behind_low = g.1;
      first_few = (few i).0;
      behind_few = (few i).1;
    }

-- numbers that are the fields' are the item's
pub packed_by : (i : Item) (x y : ℕ) → x ≡ beside 0 (take 5 (item_fields i)) → y ≡ beside 0 (drop 5 (item_fields i))
    → record { first = x; first_bits = widths (take 5 (item_fields i)); behind = y; behind_bits = widths (drop 5 (item_fields i)) } ≡ packed_of i
unfolding packed_of
packed_by i x y h g = rw (h, g)

-- a result that is the item's numbers says the item
pub says : (i : Item) (p : Packed) → p ≡ packed_of i → Says i p
says i p e = rw e (packed_says i)
