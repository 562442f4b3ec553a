-- What the reader holds, as three numbers: the log bits of the item so far, its time, and the bus and label that go on with it.
use Rattle.std.specs.Prelude.{ℕ, ◌+◌, ◌*◌, ◌^◌, List, [], ◌∷◌}
use Rattle.format.specs.Item.{Field, item_fields, low_label}
use Rattle.format.specs.Reader.{base_bus, with_tag}
use Rattle.format.specs.declared.Tag.TheVariants.{Untagged}
use Rattle.format.specs.declared.Base.{Base}
use Rattle.format.specs.declared.Held.{Held}
use Rattle.format.specs.declared.Held.TheVariants.{Nothing, Taggable, Half, TagHigh, TagLow, Answering}
use Rattle.data_start.specs.declared.Holding.{Holding}

-- the number that fields of the log say one after the other, behind a
abbrev pub number_of : ℕ → List Field → ℕ
number_of a [] = a
number_of a (f ∷ fs) = number_of (a * 2 ^ f.0 + f.1) fs

-- how many bits they take
abbrev pub width_of : List Field → ℕ
width_of [] = 0
width_of (f ∷ fs) = f.0 + width_of fs

-- the log's fields of a command or an ARINC word without a tag
abbrev pub untagged : Base → List Field
untagged x = item_fields (with_tag x Untagged)

-- what an ARINC word has in the log up to its high syllable
abbrev pub half_fields : ℕ → ℕ → ℕ → List Field
half_fields bus c high = (4, 5) ∷ (4, bus) ∷ (2, c) ∷ (1, 0) ∷ (16, high) ∷ []

-- the one flat form of what is held: `awaits` is the bus and the label of the word that goes on with it, bus x 16 + label;
-- a response awaits a status, on either side, and has a number that no bus and label have; nothing has 0
abbrev pub flat : Held → Holding
flat Nothing = record { base = 0; time = 0; awaits = 0 }
flat (Taggable x) = record { base = number_of 0 (untagged x); time = 0; awaits = base_bus x * 16 + 7 }
flat (Half bus c high) = record { base = number_of 0 (half_fields bus c high); time = 0; awaits = bus * 16 + low_label c }
flat (TagHigh x high) = record { base = number_of 0 (untagged x); time = high; awaits = base_bus x * 16 + 6 }
flat (TagLow x high low) = record { base = number_of 0 (untagged x); time = high * 2 ^ 16 + low; awaits = base_bus x * 16 + 5 }
flat (Answering bus response) = record { base = 0; time = response; awaits = 270 + bus * 16 }
