-- The words of a row, from its start, that leave a table in which nothing waits as it is and show no notice open, as far as a look at a
-- few words tells: in nearly all traffic a notice's word stands right behind it.
use Rattle.std.specs.Prelude.{ℕ, zero, suc, ◌+◌, ◌*◌, ◌/◌, ◌%◌, ◌^◌, Bool, cond, ◌&&◌, List, [], ◌∷◌, eqb}
use Rattle.format.specs.Plan.{kind_on}
use Rattle.format.specs.Word.{bus_of, label_of, info_of}
use Rattle.format.specs.Item.{high_label}
use Rattle.format.specs.declared.Kind.{Kind}
use Rattle.notices.specs.Table.{is_arinc}

-- the bus and label, as bus x 16 + label, of the word that answers a notice
unfoldable pub awaited : Bool → ℕ → ℕ
awaited parity w = bus_of parity w * 16 + high_label (info_of w / 2 ^ 13 % 4)

-- a count of words with k more before them; none stays none
abbrev pub further : ℕ → ℕ → ℕ
further k zero = 0
further k (suc d) = suc (d + k)

-- which of the next n words, counted from 1, has this bus and label, if no word with the label of a notice comes before it; else 0
unfoldable pub answer_in : Bool → ℕ → ℕ → List ℕ → ℕ
answer_in parity a zero ws = 0
answer_in parity a (suc n) [] = 0
answer_in parity a (suc n) (w ∷ ws) =
    cond (eqb (label_of w) 4) 0 (cond (eqb (bus_of parity w * 16 + label_of w) a) 1 (further 1 (answer_in parity a n ws)))

abbrev pub is_notice : List Kind → Bool → ℕ → Bool
is_notice ks parity w = eqb (label_of w) 4 && is_arinc (kind_on ks (bus_of parity w))

-- a notice that stands first, and what is quiet behind it, if its word is one of the next; else nothing
abbrev pub if_answered : ℕ → ℕ → ℕ
if_answered zero rest = 0
if_answered (suc d) rest = suc rest

-- how many words from the start are quiet, the first k of them being known to be: no notice, or a notice and all up to its word, which is
-- one of the next eight
unfoldable pub quiet_part : List Kind → Bool → ℕ → List ℕ → ℕ
quiet_part ks parity k [] = 0
quiet_part ks parity (suc k) (w ∷ ws) = suc (quiet_part ks parity k ws)
quiet_part ks parity zero (w ∷ ws) =
    let d = answer_in parity (awaited parity w) 8 ws in
    cond (is_notice ks parity w) (if_answered d (quiet_part ks parity d ws)) (suc (quiet_part ks parity 0 ws))

-- nothing is quiet where a notice waits already
abbrev pub quiet_words : List Kind → Bool → List ℕ → Bool → ℕ
quiet_words ks parity row clear = cond clear (quiet_part ks parity 0 row) 0
