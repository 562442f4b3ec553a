-- A group's fault as number and place, and the tests that make it (document 01, "Answers by number").
use Rattle.std.specs.Prelude.{ℕ, ◌+◌, Bool, true, false, cond, not, ◌&&◌, ◌||◌, ltb, eqb}
use Rattle.format.specs.Word.{word_of, bus_of, label_of, info_of, is_odd, sent}
use Rattle.format.specs.Group.{Fault as GroupFault, none, found}
use Rattle.group_read.specs.declared.Fault.{Fault}

-- "number 0, place 0" where there is none
abbrev pub fault_of : GroupFault → Fault
fault_of none = record { number = 0; place = 0 }
fault_of (found n q) = record { number = n; place = q }

abbrev pub earlier_fault : Fault → Fault → Fault
earlier_fault a b = cond (eqb a.number 0) b a

-- "frame time word: bus, label or micro wrong": right are bus 0, this label, and information below `end`
unfoldable pub is_time_word : Bool → ℕ → ℕ → ℕ → Bool
is_time_word parity w label end = eqb (bus_of parity w) 0 && eqb (label_of w) label && ltb (info_of w) end

-- ---- one stored word past its frame's sync word, as a fault's number, 0 for none

abbrev pub number_unless : Bool → ℕ → ℕ
number_unless true n = 0
number_unless false n = n

abbrev pub earlier_number : ℕ → ℕ → ℕ
earlier_number a b = cond (eqb a 0) b a

-- "CRC word wrong", where one of this label is due after words whose check is r
abbrev pub due_number : Bool → Bool → ℕ → ℕ → ℕ → ℕ
due_number parity due label r w = cond due (number_unless (eqb w (sent parity (word_of 0 label r))) 11) 0

-- "10 for any other, 11 after 10 for a CRC word"
unfoldable pub word_number : Bool → Bool → ℕ → ℕ → ℕ → ℕ
word_number parity due label r w = earlier_number (number_unless (not parity || is_odd w) 10) (due_number parity due label r w)

-- the last word of a frame after words whose check is r, if it is a CRC word
unfoldable pub last_number : Bool → Bool → ℕ → ℕ → ℕ → ℕ
last_number parity crc label r w = cond crc (word_number parity true label r w) 0

-- of two words of which one is even, with parity, the place of that: the first stands at `place`
abbrev pub even_place : Bool → ℕ → ℕ → ℕ
even_place parity one place = cond (not parity || is_odd one) (place + 1) place
