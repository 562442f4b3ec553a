-- A row of words: bus and label of one, and the three words of a tag.
use Rattle.std.specs.Prelude.{ℕ, ◌+◌, ◌*◌, ◌%◌, ◌^◌, ◌<◌, Bool, cond, ◌&&◌, List, length, get_or, eqb, ltb}
use Rattle.format.specs.Word.{bus_of, label_of}

-- bus x 16 + label
abbrev pub top_of : Bool → ℕ → ℕ
top_of parity w = bus_of parity w * 16 + label_of w

-- all bits of both: "with parity .. bits 2-4 hold the code"
abbrev pub tops_of : Bool → ℕ
tops_of parity = cond parity 127 255

abbrev pub parity_of : ℕ → Bool
parity_of tops = eqb tops 127

-- every word has 24 bits
abbrev pub Words : List ℕ → Type 0
Words row = (i : ℕ) → i < length row → get_or row i 0 < 2 ^ 24

-- behind the word that is awaited, bus x 16 + label `awaits`, the two other words of its tag stand
abbrev pub tag_at : Bool → List ℕ → ℕ → ℕ → Bool
tag_at parity row slot awaits =
    eqb (top_of parity (get_or row (slot + 1) 0) + 1) awaits && (eqb (top_of parity (get_or row (slot + 2) 0) + 2) awaits && ltb (get_or row (slot + 2) 0 % 65536) 10000)

-- the 46 log bits of a tag
abbrev pub tag_of : ℕ → ℕ → ℕ → ℕ
tag_of high low micro = (high % 65536 * 65536 + low % 65536) * 16384 + micro % 16384
