-- The bits of the log that an item takes, told by its words: so many for each word.
use Rattle.std.specs.Prelude.{ℕ, ◌+◌, ◌%◌, false, cond, List, [], ◌∷◌, eqb, leb, ltb}
use Rattle.format.specs.Plan.{kind_on}
use Rattle.format.specs.Word.{Part, part_of}
use Rattle.format.specs.declared.Kind.{Kind}
use Rattle.format.specs.declared.Kind.TheVariants.{Unused, Mil1553, Arinc429}

-- labels 8 to 15: a command or status 26, data or a bus error 25; of an ARINC word the high syllable 27, the low one 16
abbrev pub upper_bits : Kind → ℕ → ℕ
upper_bits Unused label = 0
upper_bits Mil1553 label = cond (ltb (label % 4) 2) 25 26
upper_bits Arinc429 label = cond (eqb (label % 2) 1) 27 16

-- label 4: a response time, or a notice
abbrev pub four_bits : Kind → ℕ
four_bits Unused = 0
four_bits Mil1553 = 14
four_bits Arinc429 = 18

-- the others: an overflow mark, a user word, and a tag's micro, low and high
abbrev pub lower_bits : ℕ → ℕ
lower_bits label = cond (eqb label 0) 24 (cond (ltb label 4) 25 (cond (eqb label 5) 14 16))

abbrev pub label_bits : Kind → ℕ → ℕ
label_bits kind label = cond (leb 8 label) (upper_bits kind label) (cond (eqb label 4) (four_bits kind) (lower_bits label))

abbrev pub part_bits : List Kind → Part → ℕ
part_bits ks x = label_bits (kind_on ks x.bus) x.label

-- of words that were not sent yet
unfoldable pub bits_in : List Kind → List ℕ → ℕ
bits_in ks [] = 0
bits_in ks (w ∷ ws) = part_bits ks (part_of false w) + bits_in ks ws
