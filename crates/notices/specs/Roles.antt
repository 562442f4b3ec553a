-- Words in dealt order and what each is to the notices (document 02, K2): a notice of a channel, an ARINC word of it, or neither. A
-- channel is told by bus x 4 + channel, so that there are 64.
use Rattle.std.specs.Prelude.{ℕ, ◌+◌, ◌*◌, ◌/◌, ◌%◌, ◌^◌, ◌-◌, ◌<◌, Bool, true, cond, ◌&&◌, ◌||◌, not, List, [], ◌∷◌, map, length, get_or, eqb, leb}
use Rattle.format.specs.Plan.{kind_on}
use Rattle.format.specs.Word.{Part, part_of}
use Rattle.format.specs.Reader.{Slot}
use Rattle.format.specs.declared.Kind.{Kind}
use Rattle.format.specs.declared.Kind.TheVariants.{Unused, Mil1553, Arinc429}

-- every word has 24 bits
abbrev pub Words : List ℕ → Type 0
Words row = (i : ℕ) → i < length row → get_or row i 0 < 2 ^ 24

pub data Role : Type 0 where
  neither : Role
  notice : ℕ → Role
  word : ℕ → Role

-- a row of them, each with a place or a number
abbrev pub Row : Type 0
Row = List (ℕ × Role)

-- a high syllable's label: 9, 11, 13 or 15
abbrev pub is_syllable : ℕ → Bool
is_syllable label = leb 8 label && eqb (label % 2) 1

-- what a word is, by the kind of its bus. An ARINC word is told by its high syllable; a notice by its label, and its channel by the
-- high label that it names. A word that goes on with an item is neither.
abbrev pub role_on : Kind → Part → Role
role_on Unused x = neither
role_on Mil1553 x = neither
role_on Arinc429 x =
    cond (eqb x.label 4) (notice (x.bus * 4 + x.info / 2 ^ 13 % 4))
    (cond (is_syllable x.label) (word (x.bus * 4 + x.label / 2 % 4)) neither)

abbrev pub role_in : List Kind → Part → Role
role_in ks x = role_on (kind_on ks x.bus) x

-- the words of slots
unfoldable pub roles_in : List Kind → Bool → List Slot → Row
roles_in ks parity [] = []
roles_in ks parity (s ∷ ss) = (s.0, role_in ks (part_of parity s.1)) ∷ roles_in ks parity ss

-- behind a notice of the channel k: no word of it comes before its next notice, or the end
abbrev pub lacked_by : Role → ℕ → Bool → Bool
lacked_by neither k rest = rest
lacked_by (notice j) k rest = eqb j k || rest
lacked_by (word j) k rest = not (eqb j k) && rest

unfoldable pub lacked : Row → ℕ → Bool
lacked [] k = true
lacked (x ∷ r) k = lacked_by x.1 k (lacked r k)

-- the place of the first open notice, one up, if `rest` is what the rest of the row has; 0 for none
abbrev pub open_by : ℕ → Role → (ℕ → Bool) → ℕ → ℕ
open_by place neither lack rest = rest
open_by place (notice j) lack rest = cond (lack j) (place + 1) rest
open_by place (word j) lack rest = rest

unfoldable pub open_row : Row → ℕ
open_row [] = 0
open_row (x ∷ r) = open_by x.0 x.1 (lacked r) (open_row r)
