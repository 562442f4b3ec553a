-- The earliest misplaced fill, found from the left without remembering the slots.
use Rattle.std.specs.Prelude.{ℕ, zero, suc, ◌*◌, ◌-◌, cond, List, [], ◌∷◌, eqb}
use Rattle.format.specs.Lists.{list}
use Rattle.format.specs.Plan.{slots, group_words}
use Rattle.format.specs.Reader.{Slot, counted}
use Rattle.format.specs.Group.{Fault, none, found, group_slots}
use Rattle.format.specs.Laws.Reader.Slots.{words_in}
use Rattle.format.specs.declared.Plan.{Plan}
use Rattle.data_run.specs.declared.fill.Fills.{Fills}
use Rattle.data_run.specs.Fills.{fills_in}

-- the slots of groups, one after the other
unfoldable pub fills_over : Plan → List (List Slot) → Fills → Fills
fills_over p [] f = f
fills_over p (ss ∷ gs) f = fills_over p gs (fills_in p.parity p.fill_bus 0 ss f)

-- the data words of the group g, each told by its number among those of all groups
abbrev pub numbers_of : Plan → List ℕ → ℕ → List Slot
numbers_of p c g = counted (g * slots p) (words_in (group_slots p c (g * group_words p)))

-- of k groups from the group g on
abbrev pub numbers_on : Plan → List ℕ → ℕ → ℕ → List (List Slot)
numbers_on p c g k = list (numbers_of p c) g k

-- misplaced fill, told by its place one up, 0 for none
abbrev pub told : ℕ → Fault
told place = cond (eqb place 0) none (found 14 (place - 1))

-- a number one up as a place one up
abbrev pub place_up : (ℕ → ℕ) → ℕ → ℕ
place_up f zero = 0
place_up f (suc n) = suc (f n)

abbrev pub earliest : Fills → Fault
earliest f = told f.misplaced
