-- Notices told by some of their bits, so that a whole row is looked at without branches: the bits of their label, and those that the
-- numbers of all ARINC buses share. (Response times have the label of notices, too, on buses of the other kind.)
use Rattle.std.specs.Prelude.{ℕ, ◌+◌, ◌*◌, ◌/◌, ◌%◌, ◌^◌, ◌-◌, Bool, true, false, cond, ◌&&◌, ◌||◌, not, ◌≡◌, List, [], ◌∷◌, eqb}
use Rattle.std.specs.Int.Bits.{bit_and, bit_or}
use Rattle.format.specs.Lawful.{buses}
use Rattle.format.specs.Word.{bus_of, label_of}
use Rattle.format.specs.declared.Kind.{Kind}
use Rattle.notices.specs.Table.{is_arinc}
use Rattle.notices.specs.Quiet.{awaited}

-- a bus's number, or the bits that it lacks
abbrev pub side : Bool → ℕ → ℕ
side true bus = bus
side false bus = 15 - bus

-- of bits that the buses before share those that this one has, too; only ARINC buses count
abbrev pub shared_with : Kind → Bool → ℕ → ℕ → ℕ
shared_with k ones bits bus = cond (is_arinc k) (bit_and bits (side ones bus)) bits

-- of `bits` those that are 1 in the numbers of all ARINC buses, from this bus on; with `false`, those that are 0 in them
unfoldable pub shared : Bool → ℕ → ℕ → List Kind → ℕ
shared ones bits bus [] = bits
shared ones bits bus (k ∷ ks) = shared ones (shared_with k ones bits bus) (bus + 1) ks

-- bits of a bus code and of a label, as a word has them
abbrev pub in_word : Bool → ℕ → ℕ → ℕ
in_word parity bits label = bits % buses parity * 2 ^ 20 + label * 2 ^ 16

-- the bits by which a notice is told, and what they are in a notice
abbrev pub notice_mask : List Kind → Bool → ℕ
notice_mask ks parity = in_word parity (bit_or (shared true 15 0 ks) (shared false 15 0 ks)) 15

abbrev pub notice_value : List Kind → Bool → ℕ
notice_value ks parity = in_word parity (shared true 15 0 ks) 4

abbrev pub marked : ℕ → ℕ → ℕ → Bool
marked mask value w = eqb (bit_and w mask) value

-- what is so marked has the label of a notice
abbrev pub Marks : ℕ → ℕ → Type 0
Marks mask value = (w : ℕ) → marked mask value w ≡ true → label_of w ≡ 4

-- a notice with the label of the word that it waits for
abbrev pub changed : ℕ → ℕ
changed w = w + 5 * 2 ^ 16 + w / 2 ^ 13 % 4 * 2 ^ 17

-- the bits of bus code and label
abbrev pub code_bits : Bool → ℕ
code_bits parity = buses parity * 2 ^ 20 - 2 ^ 16

-- the word that a notice waits for stands right behind it
abbrev pub answered_by : Bool → ℕ → List ℕ → Bool
answered_by parity w [] = false
answered_by parity w (v ∷ ws) = eqb (bus_of parity v * 16 + label_of v) (awaited parity w)

-- of the words that are so marked one is not answered at once
unfoldable pub unanswered : ℕ → ℕ → Bool → List ℕ → Bool
unanswered mask value parity [] = false
unanswered mask value parity (w ∷ ws) = (marked mask value w && not (answered_by parity w ws)) || unanswered mask value parity ws
