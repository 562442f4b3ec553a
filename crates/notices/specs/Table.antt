-- Notices that wait for their word, kept from the first word to the last: a table of 64 numbers, one for each bus and channel, each
-- the number of its notice, one up; 0 where none waits. Beside it stands the earliest notice that a second one has shown open.
use Rattle.std.specs.Prelude.{ℕ, ◌+◌, Bool, true, false, cond, ◌||◌, List, [], ◌∷◌, get_or, set, replicate, eqb, leb, ◌≡◌}
use Rattle.std.proofs.Common.{ap, sym, ◌∙◌}
use Rattle.format.specs.Word.{label_of}
use Rattle.format.specs.Reader.{counted}
use Rattle.format.specs.declared.Kind.{Kind}
use Rattle.format.specs.declared.Kind.TheVariants.{Unused, Mil1553, Arinc429}
use Rattle.notices.specs.Roles.{Role, neither, notice, word, Row, roles_in}

-- the earliest that was shown open, one up, and the table
abbrev pub Notes : Type 0
Notes = ℕ × List ℕ

-- before the first word
abbrev pub no_notes : Notes
no_notes = (0, replicate 64 0)

-- the earlier of two numbers that are one up, 0 for none
unfoldable pub earlier : ℕ → ℕ → ℕ
earlier a b = cond (eqb a 0) b (cond (eqb b 0) a (cond (leb a b) a b))

-- what a word with this number does: a notice shows the one that waited open, and waits; an ARINC word answers
abbrev pub noted : ℕ → Role → Notes → Notes
noted number neither s = s
noted number (notice j) s = (earlier s.0 (get_or s.1 j 0), set s.1 j (number + 1))
noted number (word j) s = (s.0, set s.1 j 0)

unfoldable pub notes_of : Row → Notes → Notes
notes_of [] s = s
notes_of (x ∷ r) s = notes_of r (noted x.0 x.1 s)

-- at the end what waits is open
unfoldable pub earliest_of : ℕ → List ℕ → ℕ
earliest_of found [] = found
earliest_of found (t ∷ ts) = earliest_of (earlier found t) ts

-- nothing waits
unfoldable pub all_zero : List ℕ → Bool
all_zero [] = true
all_zero (t ∷ ts) = cond (eqb t 0) (all_zero ts) false

-- a word has the label of a notice, whatever its bus
unfoldable pub any_notice : List ℕ → Bool
any_notice [] = false
any_notice (w ∷ ws) = eqb (label_of w) 4 || any_notice ws

abbrev pub is_arinc : Kind → Bool
is_arinc Unused = false
is_arinc Mil1553 = false
is_arinc Arinc429 = true

-- a bus has ARINC words
unfoldable pub has_arinc : List Kind → Bool
has_arinc [] = false
has_arinc (k ∷ ks) = is_arinc k || has_arinc ks

-- what a row of words does to the table, and the earliest that it leaves shown: the contract of a row
abbrev pub RowNoted : List Kind → Bool → ℕ → List ℕ → ℕ → List ℕ → ℕ → List ℕ → Type 0
RowNoted ks parity from row found table r table' = (r, table') ≡ notes_of (roles_in ks parity (counted from row)) (found, table)

-- nothing else does
pub row_noted_one : (ks : List Kind) (parity : Bool) (from : ℕ) (row : List ℕ) (found : ℕ) (table : List ℕ) {r r' : ℕ} {x x' : List ℕ}
    → RowNoted ks parity from row found table r x → RowNoted ks parity from row found table r' x' → (r ≡ r') × (x ≡ x')
row_noted_one ks parity from row found table a b = let e = a ∙ sym b in (ap (λ (s : Notes). s.0) e, ap (λ (s : Notes). s.1) e)

-- ---- the first that is shown (K4: "in a group the first shown")

abbrev pub or_first : ℕ → ℕ → ℕ
or_first old new = cond (eqb old 0) new old

-- what a word does, where the first that is shown is kept and not the earliest
abbrev pub watched : ℕ → Role → Notes → Notes
watched number x s = (or_first s.0 (noted number x (0, s.1)).0, (noted number x (0, s.1)).1)

unfoldable pub watched_of : Row → Notes → Notes
watched_of [] s = s
watched_of (x ∷ r) s = watched_of r (watched x.0 x.1 s)

-- what a row of words does to the table, and the first that it shows: the contract of a row
abbrev pub RowWatched : List Kind → Bool → ℕ → List ℕ → List ℕ → ℕ → List ℕ → Type 0
RowWatched ks parity from row table r table' = (r, table') ≡ watched_of (roles_in ks parity (counted from row)) (0, table)

-- nothing else does
pub row_watched_one : (ks : List Kind) (parity : Bool) (from : ℕ) (row table : List ℕ) {r r' : ℕ} {x x' : List ℕ}
    → RowWatched ks parity from row table r x → RowWatched ks parity from row table r' x' → (r ≡ r') × (x ≡ x')
row_watched_one ks parity from row table a b = let e = a ∙ sym b in (ap (λ (s : Notes). s.0) e, ap (λ (s : Notes). s.1) e)
