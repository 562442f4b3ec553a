-- The numbers that are put are the bits of the items.
use Prim.Native.Nat.{ℕ, ◌+◌, ◌*◌, ◌-◌, ◌/◌, ◌%◌, ◌^◌, ◌≤◌, ◌<◌}
use native.Mathlib.Omega.{arith}
use mathlib.Core.Bool.{Bool}
use mathlib.Core.Path.{◌≡◌, ap₂, ◌∙◌}
use mathlib.Core.List.{List, [], ◌∷◌, ◌++◌, flat_map}
use lib.ListN.{take, drop}
use Rattle.format.specs.Bits.{bits_of}
use Rattle.format.specs.Word.{info_of}
use Rattle.format.specs.Item.{Field, item_fields, item_bits}
use Rattle.format.specs.Reader.{with_tag}
use Rattle.format.specs.declared.Item.{Item}
use Rattle.format.specs.declared.Base.TheVariants as base
use Rattle.format.specs.declared.Tag.TheVariants.{Untagged}
use Rattle.format.specs.Laws.Tests.{bit_low}
use Rattle.format.specs.Laws.Log.Fields.{Narrow}
use Rattle.data_start.specs.Holding.{number_of, width_of}
use Rattle.data_start.proofs.Labels.{upper}
use Rattle.data_word.proofs.Numbers.{narrow_take, narrow_drop, bits_of_fields, number_of_fields_fits, field_bits_cut, bits_of_items}
use Rattle.data_items.specs.Row.{tag_of}
use Rattle.data_items.proofs.Row.{tagged}
use Rattle.data_items.proofs.First.{answer_of}

-- the n bits of v are the item's
pub record Says (n v : ℕ) (i : Item) : Type 0 where
  pub fits : v < 2 ^ n
  pub is : bits_of n v ≡ flat_map item_bits (i ∷ [])

-- the m bits of v and the n of w are the item's
pub record Both (m v n w : ℕ) (i : Item) : Type 0 where
  pub first_fits : v < 2 ^ m
  pub second_fits : w < 2 ^ n
  pub is : bits_of m v ++ bits_of n w ≡ flat_map item_bits (i ∷ [])

abbrev fields : Item → List Field
fields i = flat_map item_fields (i ∷ [])

one_string : (i : Item) → Narrow (fields i) → Says (width_of (fields i)) (number_of 0 (fields i)) i
one_string i n = record { fits = number_of_fields_fits (fields i) n; is = bits_of_fields (fields i) n ∙ bits_of_items (i ∷ []) }

two_strings : (i : Item) (k : ℕ) → Narrow (fields i)
    → Both (width_of (take k (fields i))) (number_of 0 (take k (fields i))) (width_of (drop k (fields i))) (number_of 0 (drop k (fields i))) i
two_strings i k n = record {
  first_fits = number_of_fields_fits (take k (fields i)) (narrow_take k (fields i) n);
  second_fits = number_of_fields_fits (drop k (fields i)) (narrow_drop k (fields i) n);
  is = ap₂ (λ (u v : List ℕ). u ++ v) (bits_of_fields (take k (fields i)) (narrow_take k (fields i) n)) (bits_of_fields (drop k (fields i)) (narrow_drop k (fields i) n))
      ∙ field_bits_cut k (fields i) ∙ bits_of_items (i ∷ []);
}

says_at : {n v w : ℕ} {i : Item} → w ≡ v → Says n v i → Says n w i
says_at e s = rw e s

both_at : {m v v' n w w' : ℕ} {i : Item} → v' ≡ v → w' ≡ w → Both m v n w i → Both m v' n w' i
both_at e f s = rw (e, f) s

module _ (bus : ℕ) (b : bus < 16) where
  module _ (side : Bool) (info : ℕ) (l : info < 2 ^ 16) where
    pub command_bits : Says 26 (number_of 0 (item_fields (with_tag (base.Command bus side info) Untagged))) (with_tag (base.Command bus side info) Untagged)
    unfolding item_fields flat_map
    command_bits = one_string (with_tag (base.Command bus side info) Untagged) (omega arith, (b, (bit_low side, (omega arith, (l, tt)))))

    pub command_tag_bits : (h m u : ℕ) → info_of u < 10000
        → Both 26 (number_of 0 (item_fields (with_tag (base.Command bus side info) Untagged)) + 65536) 46 (tag_of h m u) (with_tag (base.Command bus side info) (tagged h m u))
    unfolding item_fields flat_map info_of
    command_tag_bits h m u low =
        both_at (omega arith) (omega arith)
        (two_strings (with_tag (base.Command bus side info) (tagged h m u)) 5 (
          omega arith,
          (b, (bit_low side, (omega arith, (l, (omega arith, (omega arith, (omega arith, tt))))))),
        ))

  module _ (c word : ℕ) (k : c < 4) (l : word < 2 ^ 32) where
    pub arinc_bits : Says 43 (number_of 0 (item_fields (with_tag (base.Arinc bus c word) Untagged))) (with_tag (base.Arinc bus c word) Untagged)
    unfolding item_fields flat_map
    arinc_bits = one_string (with_tag (base.Arinc bus c word) Untagged) (omega arith, (b, (omega arith, (omega arith, (l, tt)))))

    pub arinc_tag_bits : (h m u : ℕ) → info_of u < 10000
        → Both 43 (number_of 0 (item_fields (with_tag (base.Arinc bus c word) Untagged)) + 4294967296) 46 (tag_of h m u) (with_tag (base.Arinc bus c word) (tagged h m u))
    unfolding item_fields flat_map info_of
    arinc_tag_bits h m u low =
        both_at (omega arith) (omega arith)
        (two_strings (with_tag (base.Arinc bus c word) (tagged h m u)) 5 (
          omega arith,
          (b, (omega arith, (omega arith, (l, (omega arith, (omega arith, (omega arith, tt))))))),
        ))

  pub status_bits : (response label info : ℕ) → response < 10000 → info < 2 ^ 16 → 8 ≤ label → label < 16 → label % 4 ≡ 2
      → Says 40 ((((32 + bus) * 2 + (3 - label / 4)) * 131072 + 65536 + info) * 16384 + response) (answer_of bus response label info)
  unfolding item_fields flat_map
  status_bits response label info r l a u =
      upper (λ n. n % 4 ≡ 2 → Says 40 ((((32 + bus) * 2 + (3 - n / 4)) * 131072 + 65536 + info) * 16384 + response) (answer_of bus response n info))
      (λ e. absurd (omega arith)) (λ e. absurd (omega arith)) (λ e. says_at (omega arith) (one_string (answer_of bus response 10 info) narrow)) (λ e. absurd (omega arith))
      (λ e. absurd (omega arith)) (λ e. absurd (omega arith)) (λ e. says_at (omega arith) (one_string (answer_of bus response 14 info) narrow14))
      (λ e. absurd (omega arith))
      label a u
    where
      narrow : Narrow (fields (answer_of bus response 10 info))
      narrow = (omega arith, (b, (omega arith, (omega arith, (l, (omega arith, tt))))))

      narrow14 : Narrow (fields (answer_of bus response 14 info))
      narrow14 = (omega arith, (b, (omega arith, (omega arith, (l, (omega arith, tt))))))
