-- Bits word by word, and the bits of items by their words.
use Rattle.std.specs.Prelude.{ℕ, zero, suc, ◌+◌, ◌-◌, ◌%◌, ◌<◌, ◌≤◌, Bool, true, false, cond, ◌≡◌, refl, length, take, drop, get_or, eqb, ltb, leb}
use Rattle.std.proofs.Common.{arith, ap, sym, ◌∙◌, length-append, ne_eqb}
use mathlib.Core.List.{List, [], ◌∷◌, ◌++◌, map, flat_map}
use Rattle.std.proofs.Math.Seq.{take-append_seam}
use Rattle.format.specs.Plan.{kind_on}
use Rattle.format.specs.Word.{Part, part_of, bus_of, label_of}
use Rattle.format.specs.Item.{item_parts, item_words, item_bits, item_fields, stands_on, bus_of_item, high_label, low_label}
use Rattle.format.specs.Lists.{All, nil, cons}
use Rattle.format.specs.Lawful.{Lawful, Sound}
use Rattle.format.specs.Group.{found}
use Rattle.format.specs.Reader.{counted}
use Rattle.format.specs.Notices.{first_open, open_fault, bit_of}
use Rattle.format.specs.Laws.Lists.{all_map, all_take, flat_map_append, take_drop}
use Rattle.format.specs.Laws.Log.Sizes.{fields_length}
use Rattle.format.specs.Laws.Log.Fields.{size}
use Rattle.format.specs.Laws.Reader.Counted.{drop_next, drop_none}
use Rattle.format.specs.declared.Kind.{Kind}
use Rattle.format.specs.declared.Kind.TheVariants.{Unused, Mil1553, Arinc429}
use Rattle.format.specs.declared.Tag.TheVariants.{Untagged, At}
use Rattle.format.specs.declared.Response.TheVariants.{Untimed, After}
use Rattle.format.specs.declared.Item.{Item}
use Rattle.format.specs.declared.Item.TheVariants.{Command, Status, Data, BusError, Arinc, Notice, User, Overflow}
use Rattle.notices.specs.Roles.{open_row, roles_in}
use Rattle.notices.specs.Laws.Words.{stands_mil, stands_arinc}
use Rattle.notices.specs.Laws.Log.{says_parts, open_word}
use Rattle.log_bits.specs.Bits.{upper_bits, four_bits, lower_bits, label_bits, part_bits, bits_in}

-- ---- one word further

abbrev upper_of : Kind → Bool → Bool → ℕ
upper_of Unused s t = 0
upper_of Mil1553 s t = cond s 25 26
upper_of Arinc429 s t = cond t 27 16

pub bits_next : (ks : List Kind) (ws : List ℕ) (i : ℕ) → i < length ws → bits_in ks (drop i ws) ≡ part_bits ks (part_of false (get_or ws i 0)) + bits_in ks (drop (i + 1) ws)
unfolding bits_in
bits_next ks ws i l = rw (drop_next i ws l)

pub bits_end : (ks : List Kind) (ws : List ℕ) (i : ℕ) → length ws ≤ i → bits_in ks (drop i ws) ≡ 0
unfolding bits_in
bits_end ks ws i l = rw (drop_none i ws l)

-- a word stands for 27 bits at the most
pub label_low : (k : Kind) (label : ℕ) → label_bits k label ≤ 27
label_low k label = go k (leb 8 label) (eqb label 4)
  where
    upper : (k : Kind) (s t : Bool) → upper_of k s t ≤ 27
    upper Unused s t = omega arith
    upper Mil1553 true t = omega arith
    upper Mil1553 false t = omega arith
    upper Arinc429 s true = omega arith
    upper Arinc429 s false = omega arith

    lower : (s t u : Bool) → cond s 24 (cond t 25 (cond u 14 16)) ≤ 27
    lower true t u = omega arith
    lower false true u = omega arith
    lower false false true = omega arith
    lower false false false = omega arith

    four : (k : Kind) → four_bits k ≤ 27
    four Unused = omega arith
    four Mil1553 = omega arith
    four Arinc429 = omega arith

    go : (k : Kind) (s t : Bool) → cond s (upper_bits k label) (cond t (four_bits k) (lower_bits label)) ≤ 27
    go Unused true t = omega arith
    go Mil1553 true t = upper Mil1553 (ltb (label % 4) 2) true
    go Arinc429 true t = upper Arinc429 true (eqb (label % 2) 1)
    go k false true = four k
    go k false false = lower (eqb label 0) (ltb label 4) (eqb label 5)

pub word_bits : (ks : List Kind) (w bus label r : ℕ) → bus ≡ bus_of false w → label ≡ label_of w → r ≡ label_bits (kind_on ks bus) label → r ≡ part_bits ks (part_of false w)
word_bits ks w bus label r a b e = rw (← a, ← b) e

-- ---- the bits of items

unfoldable parts_bits : List Kind → List Part → ℕ
parts_bits ks [] = 0
parts_bits ks (x ∷ xs) = part_bits ks x + parts_bits ks xs

parts_append : (ks : List Kind) (xs ys : List Part) → parts_bits ks (xs ++ ys) ≡ parts_bits ks xs + parts_bits ks ys
unfolding parts_bits
parts_append ks [] ys = omega arith
parts_append ks (x ∷ xs) ys = rw (parts_append ks xs ys) (omega arith)

high_bits : (c : ℕ) → c < 4 → label_bits Arinc429 (high_label c) ≡ 27
high_bits zero h = refl
high_bits (suc zero) h = refl
high_bits (suc (suc zero)) h = refl
high_bits (suc (suc (suc zero))) h = refl
high_bits (suc (suc (suc (suc c)))) h = absurd (omega arith)

low_bits : (c : ℕ) → c < 4 → label_bits Arinc429 (low_label c) ≡ 16
low_bits zero h = refl
low_bits (suc zero) h = refl
low_bits (suc (suc zero)) h = refl
low_bits (suc (suc (suc zero))) h = refl
low_bits (suc (suc (suc (suc c)))) h = absurd (omega arith)

-- of one item
item_bits_lem : (ks : List Kind) (i : Item) → Lawful ks i → parts_bits ks (item_parts i) ≡ length (item_bits i)
unfolding parts_bits item_bits item_fields stands_on bus_of_item
item_bits_lem ks i l = one i l ∙ sym (fields_length (item_fields i))
  where
    mil : (i : Item) → Lawful ks i → stands_on i Arinc429 ≡ false → kind_on ks (bus_of_item i) ≡ Mil1553
    mil i l e = stands_mil i (kind_on ks (bus_of_item i)) l.stands e

    arinc : (i : Item) → Lawful ks i → stands_on i Mil1553 ≡ false → kind_on ks (bus_of_item i) ≡ Arinc429
    arinc i l e = stands_arinc i (kind_on ks (bus_of_item i)) l.stands e

    one : (i : Item) → Lawful ks i → parts_bits ks (item_parts i) ≡ size (item_fields i)
    one (Command bus false Untagged w) l = rw (mil _ l refl)
    one (Command bus true Untagged w) l = rw (mil _ l refl)
    one (Command bus false (At t) w) l = rw (mil _ l refl)
    one (Command bus true (At t) w) l = rw (mil _ l refl)
    one (Status bus false Untimed w) l = rw (mil _ l refl)
    one (Status bus true Untimed w) l = rw (mil _ l refl)
    one (Status bus false (After r) w) l = rw (mil _ l refl)
    one (Status bus true (After r) w) l = rw (mil _ l refl)
    one (Data bus false w) l = rw (mil _ l refl)
    one (Data bus true w) l = rw (mil _ l refl)
    one (BusError bus false w) l = rw (mil _ l refl)
    one (BusError bus true w) l = rw (mil _ l refl)
    one (Arinc bus c Untagged w) l = rw (arinc _ l refl, high_bits c l.sized.0, low_bits c l.sized.0)
    one (Arinc bus c (At t) w) l = rw (arinc _ l refl, high_bits c l.sized.0, low_bits c l.sized.0)
    one (Notice bus c diag) l = rw (arinc _ l refl)
    one (User bus true w) l = refl
    one (User bus false w) l = refl
    one (Overflow bus w) l = refl

items_bits : (ks : List Kind) (is : List Item) → All (Lawful ks) is → parts_bits ks (flat_map item_parts is) ≡ length (flat_map item_bits is)
unfolding parts_bits flat_map
items_bits ks [] nil = refl
items_bits ks (i ∷ is) (cons l ls) =
    parts_append ks (item_parts i) (flat_map item_parts is)
    ∙ rw (item_bits_lem ks i l, items_bits ks is ls) (sym (length-append (item_bits i) (flat_map item_bits is)))

-- words say their parts
bits_parts : (ks : List Kind) (ws : List ℕ) → bits_in ks ws ≡ parts_bits ks (map (part_of false) ws)
unfolding bits_in parts_bits
bits_parts ks [] = refl
bits_parts ks (w ∷ ws) = ap (λ (n : ℕ). part_bits ks (part_of false w) + n) (bits_parts ks ws)

-- the bits of the words of items are those of the items
words_bits : (ks : List Kind) (is : List Item) → All (Sound ks false) is → bits_in ks (flat_map item_words is) ≡ length (flat_map item_bits is)
words_bits ks is sound =
    bits_parts ks (flat_map item_words is) ∙ ap (parts_bits ks) (says_parts ks is sound) ∙ items_bits ks is (all_map (λ i w. w.lawful) sound)

-- the first words of a row are those of its first items
take_words : (k : ℕ) (is : List Item) → take (length (flat_map item_words (take k is))) (flat_map item_words is) ≡ flat_map item_words (take k is)
take_words k is =
    ap (take (length (flat_map item_words (take k is)))) (ap (flat_map item_words) (sym (take_drop k is)) ∙ flat_map_append item_words (take k is) (drop k is))
    ∙ take-append_seam (flat_map item_words (take k is)) (flat_map item_words (drop k is))

-- ---- the earliest open notice begins behind the bits of the words before it

pub open_at : (ks : List Kind) (is : List Item) → All (Sound ks false) is → let number = open_row (roles_in ks false (counted 0 (flat_map item_words is))) in
    (number ≡ 0 → ⊥) → open_fault (bit_of is) is ≡ found 15 (bits_in ks (take (number - 1) (flat_map item_words is)))
open_at ks is sound d =
    let k : ℕ = first_open is in
    let o = open_word ks is sound d in
    let other : (k ≡ length is → ⊥) = λ (z : k ≡ length is). omega (arith, o.0) in
    let m : open_row (roles_in ks false (counted 0 (flat_map item_words is))) - 1 ≡ length (flat_map item_words (take k is)) = omega (arith, o.1) in
    let s : bits_in ks (take (open_row (roles_in ks false (counted 0 (flat_map item_words is))) - 1) (flat_map item_words is)) ≡ bit_of is k =
    ap (λ (n : ℕ). bits_in ks (take n (flat_map item_words is))) m ∙ ap (bits_in ks) (take_words k is) ∙ words_bits ks (take k is) (all_take k sound) in
    rw (ne_eqb k (length is) other) (ap (λ (x : ℕ). found 15 x) (sym s))
