-- "Frame times, refusals, full log lengths and salvage do depend on the others" (document 02, K14): a case of each, computed. Two contractors
-- share a capture, one on the MIL-STD-1553 bus 2 and one on 3; in both captures of a case the data words of bus 2 are the same.
use Rattle.std.specs.Prelude.{ℕ, ◌+◌, ◌*◌, Bool, true, false, ◌≡◌, refl, length, replicate}
use mathlib.Core.List.{List, [], ◌∷◌, ◌++◌, map, flat_map}
use Rattle.format.specs.Lists.{list}
use Rattle.format.specs.Word.{part_of, sent, fill, sync, is_odd, ones, word_of, bytes_of, word_at, bus_of, label_of, info_of, is_fill}
use Rattle.format.specs.Bits.{bits_of, bytes_bits, num_of, num_from, packed}
use Rattle.format.specs.Plan.{legal, slots, place_of, rows, lead, is_used, used_buses}
use Rattle.format.specs.Item.{item_bits, item_fields}
use Rattle.format.specs.Log.{log_of}
use Rattle.format.specs.Check.{check_word, check_of, remainder}
use Rattle.format.specs.Notices.{first_open, unanswered}
use Rattle.format.specs.Reader.{run, feed, starts, places_of, data_of}
use Rattle.format.specs.Group.{dealt_of, frame, group, group_fault, stored_fault, first_of, fault_at, time_word_fault, time_fault, group_time, group_slots, time_words}
use Rattle.format.specs.Compose.{capture_of, dealt_for, groups_for}
use Rattle.format.specs.Read.{Reading, reading, gives, refuses, read_groups, slots_from, misplaced, misplaced_in, any_data}
use Rattle.log_rules.specs.Pick.{keep}
use Rattle.salvage_rules.specs.Salvage.{Salvage, saves, salvaged, salvage, lost_word, data_pieces, pieces, kept_times}
use Rattle.bus_rules.specs.Buses.{said_on}
use Rattle.format.specs.declared.Kind.{Kind}
use Rattle.format.specs.declared.Kind.TheVariants.{Unused, Mil1553}
use Rattle.format.specs.declared.Plan.{Plan}
use Rattle.format.specs.declared.Item.{Item}
use Rattle.format.specs.declared.Item.TheVariants.{Command, Data}
use Rattle.format.specs.declared.Tag.TheVariants.{At, Untagged}

abbrev plan : Bool → Plan
plan time = record { words = 128; tracks = 1; frame_time = time; crc = false; parity = false; crc_label = 3; fill_bus = 0 }

abbrev kinds : List Kind
kinds = Unused ∷ Unused ∷ Mil1553 ∷ Mil1553 ∷ replicate 12 Unused

-- a data word of each bus, and its item
abbrev on2 : ℕ
on2 = 0x2D0007

abbrev item2 : Item
item2 = Data 2 false 7

abbrev on3 : ℕ
on3 = 0x3D0008

abbrev item3 : Item
item3 = Data 3 false 8

-- the capture of these words, and its plain reading
abbrev capture : Bool → List ℕ → List ℕ → List ℕ
capture time times ws = capture_of (plan time) times ws

abbrev read : Bool → List ℕ → List ℕ → Reading
read time times ws = reading false (plan time) kinds (capture time times ws) 32768 2

abbrev salvage_of : List ℕ → Salvage
salvage_of ws = salvaged (plan false) kinds (capture false [] ws) 32768 0 9

-- the data words of bus 2 are the same
abbrev Alike : Bool → List ℕ → List ℕ → List ℕ → List ℕ → Type 0
Alike time times times' ws ws' = said_on 4 (plan time) (capture time times ws) ≡ said_on 4 (plan time) (capture time times' ws')

-- the other's words fill a second group: two times, not one
abbrev pub FrameTimes : Type 0
FrameTimes =
    Alike true (1 ∷ []) (1 ∷ 2 ∷ []) (on2 ∷ []) (on2 ∷ replicate 124 on3)
    × (read true (1 ∷ []) (on2 ∷ []) ≡ gives (log_of (item2 ∷ [])) (1 ∷ []))
    × (read true (1 ∷ 2 ∷ []) (on2 ∷ replicate 124 on3) ≡ gives (log_of (item2 ∷ replicate 124 item3)) (1 ∷ 2 ∷ []))

-- the other's word starts nothing: refused by 13, not accepted
abbrev pub Refusals : Type 0
Refusals =
    Alike false [] [] (on2 ∷ []) (on2 ∷ 0x350000 ∷ [])
    × (read false [] (on2 ∷ []) ≡ gives (log_of (item2 ∷ [])) [])
    × (read false [] (on2 ∷ 0x350000 ∷ []) ≡ refuses 13 2 2)

-- the other's item makes the log longer
abbrev pub FullLogs : Type 0
FullLogs =
    Alike false [] [] (on2 ∷ []) (on2 ∷ on3 ∷ [])
    × (read false [] (on2 ∷ []) ≡ gives (log_of (item2 ∷ [])) [])
    × (read false [] (on2 ∷ on3 ∷ []) ≡ gives (log_of (item2 ∷ item3 ∷ [])) [])

-- the other's word between a command and its tag: the command is saved without its tag, whose words are dropped
abbrev tag : List ℕ
tag = 0x270000 ∷ 0x260001 ∷ 0x250005 ∷ []

abbrev pub Salvages : Type 0
Salvages =
    Alike false [] [] (0x2F0009 ∷ tag) (0x2F0009 ∷ on3 ∷ tag)
    × (salvage_of (0x2F0009 ∷ tag) ≡ saves (log_of (Command 2 false (At (record { high = 0; low = 1; micro = 5 })) 9 ∷ [])) [] [])
    × (salvage_of (0x2F0009 ∷ on3 ∷ tag) ≡ saves (log_of (Command 2 false Untagged 9 ∷ item3 ∷ [])) [] (lost_word 3 ∷ lost_word 4 ∷ lost_word 5 ∷ []))

pub depend_on_others : FrameTimes × Refusals × FullLogs × Salvages
unfolding list sent fill sync is_odd ones word_of bytes_of word_at bus_of label_of info_of is_fill bits_of bytes_bits num_of num_from packed legal slots place_of rows lead is_used used_buses item_bits item_fields log_of check_word check_of remainder first_open unanswered run feed starts places_of data_of dealt_of frame group group_fault stored_fault first_of fault_at time_word_fault time_fault group_time group_slots time_words capture_of dealt_for groups_for reading read_groups slots_from misplaced misplaced_in any_data data_pieces keep salvaged salvage pieces kept_times flat_map
depend_on_others = ((refl, refl, refl), (refl, refl, refl), (refl, refl, refl), (refl, refl, refl))
