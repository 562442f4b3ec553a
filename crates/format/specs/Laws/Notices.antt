-- No open notice: all is as it was before there was an answer 15.
use Rattle.std.specs.Prelude.{ℕ, zero, suc, ◌+◌, ◌≤◌, ◌<◌, Bool, true, false, cond, ◌≡◌, refl, length, take, eqb}
use Rattle.std.proofs.Common.{arith, length-append, eq-eqb, eqb-true}
use mathlib.Core.List.{List, [], ◌∷◌, flat_map}
use Rattle.format.specs.Item.{item_words}
use Rattle.format.specs.Log.{items, log_of}
use Rattle.format.specs.Group.{Fault, none, found, unless}
use Rattle.format.specs.Notices.{is_open, first_open, open_fault, bit_of, first_word_of}
use Rattle.format.specs.Reader.{places_of}
use Rattle.format.specs.Compose.{compose_parsed, compose_words}
use Rattle.format.specs.Read.{open_in, slots_from}
use Rattle.format.specs.declared.Item.{Item}
use Rattle.format.specs.declared.Plan.{Plan}
use Rattle.format.specs.declared.Item.TheVariants.{Command, Status, Data, BusError, Arinc, Notice, User, Overflow}
use Rattle.format.specs.declared.Response.TheVariants.{Untimed, After}

-- every notice finds its word
abbrev pub Answered : List Item → Type 0
Answered is = first_open is ≡ length is

-- then there is no fault, whatever the places
pub answered_none : (place : ℕ → ℕ) (is : List Item) → Answered is → open_fault place is ≡ none
answered_none place is e = rw (eq-eqb (first_open is) (length is) e)

no_fault : {A : Type 0} {n q : ℕ} → found n q ≡ none → A
no_fault e = let z : ◌≡◌ {A = ℕ} 0 1 = cc in absurd (omega arith)

-- and conversely
pub none_answered : (place : ℕ → ℕ) (is : List Item) → open_fault place is ≡ none → Answered is
none_answered place is e = go (eqb (first_open is) (length is)) refl e
  where
    go : (b : Bool) → eqb (first_open is) (length is) ≡ b → unless b 15 (place (first_open is)) ≡ none → Answered is
    go true t e = eqb-true _ _ t
    go false t e = no_fault e

-- composing goes on to its words
pub answered_composed : (p : Plan) (times : List ℕ) (room : ℕ) (is : List Item) → Answered is
    → compose_parsed p times room (items is) ≡ compose_words p times room (flat_map item_words is)
answered_composed p times room is e = rw (answered_none (bit_of is) is e)

-- a reading goes on to fill and room
pub answered_read : (p : Plan) (c : List ℕ) (n : ℕ) (is : List Item) → Answered is → open_in p c n is ≡ none
answered_read p c n is e = answered_none (first_word_of (places_of (slots_from p c n 0)) is) is e

-- the number of the earliest open notice is at most that of the items
pub first_within : (is : List Item) → first_open is ≤ length is
unfolding first_open
first_within [] = omega arith
first_within (i ∷ is) = go (is_open i is) (first_within is)
  where
    go : (t : Bool) → first_open is ≤ length is → cond t 0 (1 + first_open is) ≤ suc (length is)
    go true h = omega arith
    go false h = omega arith

-- ---- an item has a word, so the words before one of the items are fewer than all

some_words : (i : Item) → 1 ≤ length (item_words i)
unfolding item_words
some_words (Command b s tag w) = omega arith
some_words (Status b s Untimed w) = omega arith
some_words (Status b s (After r) w) = omega arith
some_words (Data b s w) = omega arith
some_words (BusError b s w) = omega arith
some_words (Arinc b c tag w) = omega arith
some_words (Notice b c diag) = omega arith
some_words (User b three w) = omega arith
some_words (Overflow b w) = omega arith

pub words_before : (is : List Item) (k : ℕ) → k < length is → length (flat_map item_words (take k is)) < length (flat_map item_words is)
unfolding flat_map
words_before [] k l = absurd (omega arith)
words_before (i ∷ is) zero l = rw (length-append (item_words i) (flat_map item_words is)) (omega (arith, some_words i))
words_before (i ∷ is) (suc k) l =
    rw (length-append (item_words i) (flat_map item_words is), length-append (item_words i) (flat_map item_words (take k is)))
    (omega (arith, words_before is k (omega arith)))
