-- An error notice must find its word (document 02, K2): which notices of a row of items are open, and the earliest of them.
use Rattle.std.specs.Prelude.{ℕ, ◌+◌, Bool, true, false, cond, ◌&&◌, ◌||◌, length, take, get_or, eqb}
use mathlib.Core.List.{List, [], ◌∷◌, flat_map}
use Rattle.format.specs.Item.{item_bits, item_words}
use Rattle.format.specs.Group.{Fault, unless}
use Rattle.format.specs.declared.Item.{Item}
use Rattle.format.specs.declared.Item.TheVariants.{Command, Status, Data, BusError, Arinc, Notice, User, Overflow}

-- an "ARINC word of its bus and channel"
abbrev pub is_word_of : ℕ → ℕ → Item → Bool
is_word_of bus c (Command b s tag word) = false
is_word_of bus c (Status b s resp word) = false
is_word_of bus c (Data b s word) = false
is_word_of bus c (BusError b s word) = false
is_word_of bus c (Arinc b d tag word) = eqb b bus && eqb d c
is_word_of bus c (Notice b d diag) = false
is_word_of bus c (User b three word) = false
is_word_of bus c (Overflow b word) = false

-- "their next notice"
abbrev pub is_notice_of : ℕ → ℕ → Item → Bool
is_notice_of bus c (Command b s tag word) = false
is_notice_of bus c (Status b s resp word) = false
is_notice_of bus c (Data b s word) = false
is_notice_of bus c (BusError b s word) = false
is_notice_of bus c (Arinc b d tag word) = false
is_notice_of bus c (Notice b d diag) = eqb b bus && eqb d c
is_notice_of bus c (User b three word) = false
is_notice_of bus c (Overflow b word) = false

-- "no ARINC word of its bus and channel stands between it and their next notice, or the end": the items behind a notice
unfoldable pub unanswered : ℕ → ℕ → List Item → Bool
unanswered bus c [] = true
unanswered bus c (i ∷ is) = cond (is_word_of bus c i) false (is_notice_of bus c i || unanswered bus c is)

-- "Call a notice open if" so: an item, and those behind it
abbrev pub is_open : Item → List Item → Bool
is_open (Command b s tag word) rest = false
is_open (Status b s resp word) rest = false
is_open (Data b s word) rest = false
is_open (BusError b s word) rest = false
is_open (Arinc b d tag word) rest = false
is_open (Notice b d diag) rest = unanswered b d rest
is_open (User b three word) rest = false
is_open (Overflow b word) rest = false

-- "the earliest open notice": how many items stand before it; all of them if none is open
unfoldable pub first_open : List Item → ℕ
first_open [] = 0
first_open (i ∷ is) = cond (is_open i is) 0 (1 + first_open is)

-- "Refusals: 15, at the earliest open notice", the k-th item standing at `place k`
abbrev pub open_fault : (ℕ → ℕ) → List Item → Fault
open_fault place is = unless (eqb (first_open is) (length is)) 15 (place (first_open is))

-- "its first bit": where in the log the item k begins
abbrev pub bit_of : List Item → ℕ → ℕ
bit_of is k = length (flat_map item_bits (take k is))

-- "or its word": where in the capture the item k begins, its data words standing at these places
abbrev pub first_word_of : List ℕ → List Item → ℕ → ℕ
first_word_of places is k = get_or places (length (flat_map item_words (take k is))) 0
