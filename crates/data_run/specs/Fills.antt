-- Where fill stands, kept from word to word.
use Rattle.std.specs.Prelude.{ℕ, ◌+◌, Bool, false, cond, ◌&&◌, ◌||◌, not, List, [], ◌∷◌, eqb}
use Rattle.format.specs.Word.{is_fill, bus_of}
use Rattle.format.specs.Reader.{Slot}
use Rattle.data_run.specs.declared.fill.Fills.{Fills}

-- none so far
abbrev pub no_fill : Fills
no_fill = record { first = 0; misplaced = 0 }

abbrev pub or_place : ℕ → ℕ → ℕ
or_place old number = cond (eqb old 0) (number + 1) old

-- the word i of its row, of a whole group, fill is misplaced whatever follows if it stands on another bus than the plan's code, or
-- first: there either a data word follows it, or neither its group nor a later one has one
abbrev pub odd_fill : ℕ → ℕ → ℕ → Bool
odd_fill code i bus = eqb i 0 || not (eqb bus code)

abbrev pub on_fill : Fills → ℕ → Bool → Fills
on_fill f number odd = record { first = or_place f.first number; misplaced = cond odd (or_place f.misplaced number) f.misplaced }

-- fill that changes nothing: the plan's own, as it is sent
abbrev pub quiet : ℕ → Fills → ℕ → ℕ → Bool
quiet blank f i word = cond (eqb word blank) (cond (eqb f.first 0) false (not (eqb i 0))) false

-- a data word misplaces the first fill of all, which is the earliest
abbrev pub on_data : Fills → Fills
on_data f = record { first = f.first; misplaced = f.first }

-- the word i of a row, with its number
abbrev pub on_slot : Bool → ℕ → ℕ → Slot → Fills → Fills
on_slot parity code i s f =
    cond (is_fill s.1) (on_fill f s.0 (odd_fill code i (bus_of parity s.1))) (on_data f)

-- the words of a row from the word i on
unfoldable pub fills_in : Bool → ℕ → ℕ → List Slot → Fills → Fills
fills_in parity code i [] f = f
fills_in parity code i (s ∷ ss) f = fills_in parity code (i + 1) ss (on_slot parity code i s f)

-- four words of the plan's fill
abbrev pub all_fill : ℕ → ℕ → ℕ → ℕ → ℕ → Bool
all_fill blank a b c d = eqb a blank && (eqb b blank && (eqb c blank && eqb d blank))
