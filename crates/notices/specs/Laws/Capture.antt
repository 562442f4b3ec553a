-- A capture's data words, told by their numbers in dealt order: the earliest open notice among them stands where the definition
-- says.
use Rattle.std.specs.Prelude.{ℕ, zero, suc, ◌+◌, ◌*◌, ◌-◌, ◌<◌, ◌≤◌, Bool, true, false, cond, ◌≡◌, refl, List, [], ◌∷◌, ◌++◌, map, length, eqb}
use Rattle.std.proofs.Common.{arith, ap, sym, ◌∙◌, ne_eqb}
use Rattle.std.proofs.lemmas.List.{length-map}
use Rattle.format.specs.Lists.{list, Bytes}
use Rattle.format.specs.Plan.{slots, group_words, stored_at, lead, place_of}
use Rattle.format.specs.Word.{part_of, word_at}
use Rattle.format.specs.Group.{Fault, none, found, unless, group_slots}
use Rattle.format.specs.Reader.{Slot, counted, places_of}
use Rattle.format.specs.Read.{got, read_groups, slots_from, open_in}
use Rattle.format.specs.Notices.{first_open, first_word_of}
use Rattle.format.specs.Laws.Lists.{map_append, length_list}
use Rattle.format.proofs.Laws.Reader.Named.{named}
use Rattle.format.specs.Laws.Reader.Slots.{words_in}
use Rattle.format.proofs.Laws.Accepted.Faultless.{accepted_parts}
use Rattle.format.proofs.Laws.Accepted.Exact.{slots_low, slots_named}
use Rattle.format.proofs.Laws.Accepted.Together.{data_all}
use Rattle.format.specs.declared.Kind.{Kind}
use Rattle.format.specs.declared.Plan.{Plan}
use Rattle.format.specs.declared.Item.{Item}
use Rattle.format.specs.declared.Held.TheVariants.{Nothing}
use Rattle.notices.specs.Roles.{Role, neither, notice, word, Row, lacked, open_row, role_in, roles_in}
use Rattle.notices.specs.Laws.Items.{up_to}
use Rattle.notices.specs.Laws.Words.{slots_open}

-- a number one up as a place one up
abbrev pub placed_up : (ℕ → ℕ) → ℕ → ℕ
placed_up f m = cond (eqb m 0) 0 (f (m - 1) + 1)

-- an open notice told by its place one up, 0 for none
abbrev pub told15 : ℕ → Fault
told15 place = cond (eqb place 0) none (found 15 (place - 1))

-- ---- the row does not mind how its words are told

lacked_named : (f : ℕ → ℕ) (ks : List Kind) (parity : Bool) (ss : List Slot) (k : ℕ) → lacked (roles_in ks parity (map (named f) ss)) k ≡ lacked (roles_in ks parity ss) k
unfolding roles_in lacked
lacked_named f ks parity [] k = refl
lacked_named f ks parity (s ∷ ss) k = rw (lacked_named f ks parity ss k)

up_one : (f : ℕ → ℕ) (p : ℕ) → placed_up f (p + 1) ≡ f p + 1
up_one f p =
    let u : (p + 1 ≡ 0 → ⊥) = λ (z : p + 1 ≡ 0). omega arith in
    let v : p + 1 - 1 ≡ p = omega arith in
    rw (ne_eqb (p + 1) 0 u, v)

pub open_named : (f : ℕ → ℕ) (ks : List Kind) (parity : Bool) (ss : List Slot) → open_row (roles_in ks parity (map (named f) ss)) ≡ placed_up f (open_row (roles_in ks parity ss))
unfolding roles_in open_row
open_named f ks parity [] = refl
open_named f ks parity (s ∷ ss) = go (role_in ks (part_of parity s.1)) (open_named f ks parity ss)
  where
    r : Row
    r = roles_in ks parity ss

    either : (t : Bool) → open_row (roles_in ks parity (map (named f) ss)) ≡ placed_up f (open_row r)
        → cond t (f s.0 + 1) (open_row (roles_in ks parity (map (named f) ss))) ≡ placed_up f (cond t (s.0 + 1) (open_row r))
    either true e = sym (up_one f s.0)
    either false e = e

    go : (x : Role) → open_row (roles_in ks parity (map (named f) ss)) ≡ placed_up f (open_row r)
        → open_row ((f s.0, x) ∷ roles_in ks parity (map (named f) ss)) ≡ placed_up f (open_row ((s.0, x) ∷ r))
    go neither e = e
    go (notice j) e = rw (lacked_named f ks parity ss j) (either (lacked r j) e)
    go (word j) e = e

-- ---- a capture that reads as items

-- the place of the definition
pub up_fault : (place : ℕ → ℕ) (k n : ℕ) → unless (eqb k n) 15 (place k) ≡ told15 (up_to place k n)
up_fault place k n = go (eqb k n)
  where
    u : (m : ℕ) → told15 (m + 1) ≡ found 15 m
    u m =
        let d : (m + 1 ≡ 0 → ⊥) = λ (z : m + 1 ≡ 0). omega arith in
        let v : m + 1 - 1 ≡ m = omega arith in
        rw (ne_eqb (m + 1) 0 d, v)

    go : (t : Bool) → unless t 15 (place k) ≡ told15 (cond t 0 (place k + 1))
    go true = refl
    go false = sym (u (place k))

-- of n groups that read as items: 15 at the place of the earliest open notice's number
pub open_in_lem : (p : Plan) (ks : List Kind) (c : List ℕ) (n : ℕ) (is : List Item) → 1 ≤ slots p → Bytes c → read_groups p ks c n 0 Nothing 0 ≡ got is
    → told15 (placed_up (stored_at p) (open_row (roles_in ks p.parity (counted 0 (words_in (slots_from p c n 0)))))) ≡ open_in p c n is
open_in_lem p ks c n is some bytes e =
    let a = accepted_parts p ks c n is e (data_all _ (slots_low p c bytes n 0)) in
    let z : 0 * slots p ≡ 0 = omega arith in
    let m : map (named (stored_at p)) (counted 0 (words_in (slots_from p c n 0))) ≡ slots_from p c n 0 = sym (rw z at (slots_named p c n 0 some)) in
    ap told15 (sym (open_named (stored_at p) ks p.parity (counted 0 (words_in (slots_from p c n 0)))) ∙ ap (λ (ss : List Slot). open_row (roles_in ks p.parity ss)) m
    ∙ slots_open ks p.parity (slots_from p c n 0) is a.1 a.0)
    ∙ sym (up_fault (first_word_of (places_of (slots_from p c n 0)) is) (first_open is) (length is))

-- what a number tells
pub told_none : (at : ℕ → ℕ) (m : ℕ) → m ≡ 0 → told15 (placed_up at m) ≡ none
told_none at m e = rw e

pub told_found : (at : ℕ → ℕ) (m : ℕ) → (m ≡ 0 → ⊥) → told15 (placed_up at m) ≡ found 15 (at (m - 1))
told_found at m d =
    let u : (at (m - 1) + 1 ≡ 0 → ⊥) = λ (z : at (m - 1) + 1 ≡ 0). omega arith in
    let v : at (m - 1) + 1 - 1 ≡ at (m - 1) = omega arith in
    rw (ne_eqb m 0 d, ne_eqb (at (m - 1) + 1) 0 u, v)
