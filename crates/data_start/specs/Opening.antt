-- What a word opens where nothing is held, as a number, by the kind of its bus and its label.
use Rattle.std.specs.Prelude.{ℕ, ◌+◌, ◌*◌, ◌/◌, ◌%◌, ◌^◌, List, [], ◌∷◌, get_or}
use Rattle.format.specs.declared.Kind.{Kind}
use Rattle.format.specs.declared.Kind.TheVariants.{Unused, Mil1553, Arinc429}
use Rattle.data_start.specs.declared.Step.{Step}
use Rattle.data_start.specs.Step.{ended}

-- an item of one word: its kind in the log, and the bits behind its bus, so many and of this number
abbrev pub one_word : ℕ → ℕ → ℕ → ℕ
one_word kind behind number = (kind * 16 * 2 ^ behind + number) * 4 + behind

abbrev nothing : ℕ
nothing = 0

abbrev command : ℕ
command = 1

abbrev syllable : ℕ
syllable = 2

abbrev response : ℕ
response = 3

abbrev notice : ℕ
notice = 4

-- the labels 0 to 15 on a bus of each kind
abbrev pub row : Kind → List ℕ
row Unused =
    nothing ∷ nothing ∷ nothing ∷ nothing ∷ nothing ∷ nothing ∷ nothing ∷ nothing
    ∷ nothing ∷ nothing ∷ nothing ∷ nothing ∷ nothing ∷ nothing ∷ nothing ∷ nothing ∷ []
row Mil1553 =
    one_word 8 0 0 ∷ nothing ∷ one_word 7 1 0 ∷ one_word 7 1 1 ∷ response ∷ nothing ∷ nothing ∷ nothing
    ∷ one_word 4 1 1 ∷ one_word 3 1 1 ∷ one_word 2 2 2 ∷ command ∷ one_word 4 1 0 ∷ one_word 3 1 0 ∷ one_word 2 2 0 ∷ command ∷ []
row Arinc429 =
    one_word 8 0 0 ∷ nothing ∷ one_word 7 1 0 ∷ one_word 7 1 1 ∷ notice ∷ nothing ∷ nothing ∷ nothing
    ∷ nothing ∷ syllable ∷ nothing ∷ syllable ∷ nothing ∷ syllable ∷ nothing ∷ syllable ∷ []

unfoldable pub opens : Kind → ℕ → ℕ
opens k label = get_or (row k) label 0

-- a row a kind
unfoldable pub openings : List (List ℕ)
openings = row Unused ∷ row Mil1553 ∷ row Arinc429 ∷ []

-- the number of a kind's row
abbrev pub row_of : Kind → ℕ
row_of Unused = 0
row_of Mil1553 = 1
row_of Arinc429 = 2

-- the item of one word that has this opening: the bits before its word, with those of its bus, and the word
abbrev pub single_of : ℕ → ℕ → ℕ → Step
single_of opening bus information = ended 0 0 ((opening / 4 + bus * 2 ^ (opening % 4)) * 65536 + information) (24 + opening % 4)
