-- A small capture has a small log: at most 26 bits a word.
use Prim.Native.Nat.{ℕ, ◌+◌, ◌*◌, ◌/◌, ◌%◌, ◌≤◌, ◌<◌}
use native.Mathlib.Nat.{mul-le-mul_left}
use native.Mathlib.Omega.{arith}
use mathlib.Core.Path.{◌≡◌, refl, sym, ap, ◌∙◌}
use mathlib.Core.List.{List, [], ◌∷◌, ◌++◌, flat_map}
use lib.ListN.{length, get_or, replicate, length-append, length-replicate, length-map}
use Rattle.format.specs.Bits.{bits_of, packed}
use Rattle.format.specs.Word.{Part, is_fill, part_of}
use Rattle.format.specs.Item.{item_fields, item_bits, item_parts}
use Rattle.format.specs.Log.{log_of}
use Rattle.format.specs.Plan.{group_words}
use Rattle.format.specs.Reader.{Slot, data_of}
use Rattle.format.specs.Read.{slots_from}
use Rattle.format.specs.declared.Tag.TheVariants.{Untagged, At}
use Rattle.format.specs.declared.Response.TheVariants.{Untimed, After}
use Rattle.format.specs.declared.Item.{Item}
use Rattle.format.specs.declared.Item.TheVariants.{Command, Status, Data, BusError, Arinc, Notice, User, Overflow}
use Rattle.format.specs.declared.Kind.{Kind}
use Rattle.format.specs.declared.Plan.{Plan}
use Rattle.format.specs.Laws.Lists.{all_append}
use Rattle.format.specs.Laws.Word.Bytes.{all_bytes}
use Rattle.format.specs.Laws.Log.Fields.{Packs, packs, length_bits, length_bytes}
use Rattle.format.specs.Laws.Log.Sizes.{bits_low, items_low, fields_length}
use Rattle.format.proofs.Laws.Accepted.Exact.{slots_count, slots_low}
use Rattle.format.proofs.Laws.Accepted.Faultless.{accepted_parts}
use Rattle.format.proofs.Laws.Accepted.Together.{data_all}
use Rattle.format.specs.Laws.Limits.{Shape}
use Rattle.read.specs.Room.{Enough}
use Rattle.read_groups.proofs.Misplaced.{yes_or_no}
use Rattle.capture_parts.proofs.Part.{slots_few}
use Rattle.capture_parts.proofs.Given.{whole_groups}

item_short : (i : Item) → length (item_bits i) ≤ 26 * length (item_parts i)
unfolding item_bits item_fields
item_short (Command bus b Untagged word) = rw (fields_length (item_fields (Command bus b Untagged word))) (omega arith)
item_short (Command bus b (At t) word) = rw (fields_length (item_fields (Command bus b (At t) word))) (omega arith)
item_short (Status bus b Untimed word) = rw (fields_length (item_fields (Status bus b Untimed word))) (omega arith)
item_short (Status bus b (After t) word) = rw (fields_length (item_fields (Status bus b (After t) word))) (omega arith)
item_short (Data bus b word) = rw (fields_length (item_fields (Data bus b word))) (omega arith)
item_short (BusError bus b word) = rw (fields_length (item_fields (BusError bus b word))) (omega arith)
item_short (Arinc bus c Untagged word) = rw (fields_length (item_fields (Arinc bus c Untagged word))) (omega arith)
item_short (Arinc bus c (At t) word) = rw (fields_length (item_fields (Arinc bus c (At t) word))) (omega arith)
item_short (Notice bus c diag) = rw (fields_length (item_fields (Notice bus c diag))) (omega arith)
item_short (User bus b word) = rw (fields_length (item_fields (User bus b word))) (omega arith)
item_short (Overflow bus word) = rw (fields_length (item_fields (Overflow bus word))) (omega arith)

items_short : (is : List Item) → length (flat_map item_bits is) ≤ 26 * length (flat_map item_parts is)
unfolding flat_map
items_short [] = omega arith
items_short (i ∷ is) =
    rw (length-append (item_bits i) (flat_map item_bits is), length-append (item_parts i) (flat_map item_parts is)) (omega (arith, item_short i, items_short is))

-- the end mark and the zeros behind it
log_short : (is : List Item) → length (log_of is) * 8 ≤ length (flat_map item_bits is) + 11
unfolding log_of
log_short is =
    let bits : List ℕ = flat_map item_bits is in
    let k : Packs (bits ++ bits_of 4 0) = packs (bits ++ bits_of 4 0) (all_append (items_low is) (bits_low 4 0)) in
    let e : length (packed (bits ++ bits_of 4 0)) * 8 ≡ length bits + 4 + k.more =
    sym (length_bytes (packed (bits ++ bits_of 4 0))) ∙ ap (λ (l : List ℕ). length l) k.bits ∙ length-append (bits ++ bits_of 4 0) (replicate k.more 0)
    ∙ rw (length-append bits (bits_of 4 0), length_bits 4 0, length-replicate {A = ℕ} k.more 0) refl in
    omega (arith, e, k.few)

-- the data words are among the slots
data_few : (ss : List Slot) → length (data_of ss) ≤ length ss
unfolding data_of
data_few [] = omega arith
data_few (s ∷ ss) = yes_or_no (is_fill s.1) (λ e. rw e (omega (arith, data_few ss))) (λ e. rw e (omega (arith, data_few ss)))

module _ (p : Plan) (c : List ℕ) (bytes : (i : ℕ) → get_or c i 0 < 256) where
  -- no more slots than words
  slots_fewer : Shape p → (n g : ℕ) → length (slots_from p c n g) ≤ n * group_words p
  slots_fewer s n g =
      omega
      (arith, sym (length-map (slots_from p c n g) (λ (s : Slot). s.1)) ∙ slots_count p c n g, mul-le-mul_left n (slots_few p s))

  -- in twelfths of a byte: 26 bits for each three bytes; the end mark, and the seven bytes that are asked behind the log
  pub small_enough : (ks : List Kind) (built room : ℕ) → Shape p → length c % (3 * group_words p) ≡ 0 → 13 * length c + 89 ≤ 12 * built → Enough p ks c built room
  small_enough ks built room s z h = record {
    room = λ is e a b.
        let n : ℕ = length c / (3 * group_words p) in
        let k = accepted_parts p ks c n is e (data_all (slots_from p c n 0) (slots_low p c (all_bytes c bytes) n 0)) in
        let d : length (data_of (slots_from p c n 0)) ≡ length (flat_map item_parts is) =
        sym (length-map (data_of (slots_from p c n 0)) (part_of p.parity)) ∙ ap (λ (l : List Part). length l) k.0 in
        omega (arith, d, items_short is, log_short is, data_few (slots_from p c n 0), slots_fewer s n 0, whole_groups p (length c) z);
  }

-- 2,056 bytes also have room for every log that a small room holds
pub room_enough : (p : Plan) (ks : List Kind) (c : List ℕ) (room : ℕ) → room ≤ 2048 → Enough p ks c 2056 room
room_enough p ks c room h = record { room = λ is e a b. omega arith }
