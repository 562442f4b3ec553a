-- The written test of the lent bytes in parts, each of a few numbers (document 02, K4: "a state whose own numbers do not fit together").
use Rattle.std.specs.Prelude.{ℕ, ◌+◌, ◌*◌, ◌/◌, ◌%◌, ◌^◌, Bool, true, cond, not, ◌&&◌, ◌||◌, List, [], ◌∷◌, map, get_or, take, drop, eqb, leb, ltb}
use Rattle.format.specs.Bits.{bits_of}
use Rattle.format.specs.Lists.{list}
use Rattle.format.specs.Plan.{kind_on}
use Rattle.from_c.specs.Numbers.{are_kinds, is_choice, kind_of, plan_from}
use Rattle.stream_rules.specs.Stream.{State, Working, failed, fits, group_size, held_fits, is_arinc, most_bytes}
use Rattle.stream_rules.specs.StateNumbers.{four_words, held_from, same_row}
use Rattle.format.specs.Laws.Reader.Held.{held_parts}
use Rattle.format.specs.declared.Kind.{Kind}
use Rattle.format.specs.declared.Plan.{Plan}
use Rattle.stream_state.specs.declared.Buses.{Buses}
use Rattle.stream_state.specs.Layout.{number_at}

-- what says nothing is 0
unfoldable pub are_zeros : List ℕ → Bool
are_zeros [] = true
are_zeros (n ∷ ns) = eqb n 0 && are_zeros ns

-- the plan's seven numbers are in their ranges: each choice is 0 or 1
abbrev pub plan_named : ℕ → ℕ → ℕ → ℕ → ℕ → ℕ → ℕ → Bool
plan_named words tracks time crc parity label code =
    leb words 512 && (leb tracks 4 && (is_choice time && (is_choice crc && (is_choice parity && (leb label 7 && leb code 15)))))

-- ---- the kinds' numbers: which are named, and how many buses are used

abbrev pub used_of : ℕ → ℕ
used_of n = cond (eqb n 0) 0 1

unfoldable pub used_in : List ℕ → ℕ
used_in [] = 0
used_in (n ∷ ns) = used_of n + used_in ns

abbrev pub buses_in : List ℕ → Buses
buses_in ns = record { named = are_kinds ns; used = used_in ns }

-- what else makes a plan legal whose numbers are in their ranges, by how many buses are used, and how many above 7
abbrev pub buses_fit : Plan → ℕ → ℕ → Bool
buses_fit p used above = leb 128 p.words && ((leb 1 p.tracks && (eqb p.tracks 1 || eqb used 1)) && (not p.parity || (eqb above 0 && leb p.fill_bus 7)))

-- "less than one group" waits, and "a capture may run to 2^40 bytes"
abbrev pub size_fits : Plan → ℕ → ℕ → Bool
size_fits p groups waiting = ltb waiting (group_size p) && leb (groups * group_size p + waiting) most_bytes

-- "the bits not yet a byte": how many, and the number that they say
abbrev pub bits_fit : ℕ → ℕ → Bool
bits_fit left last = ltb left 8 && ltb last (2 ^ left)

-- the held item's five numbers are those of an item that may be held
abbrev pub held_passes : List Kind → List ℕ → Bool
held_passes ks row = held_fits ks (held_from ks row) && same_row (four_words (held_parts (held_from ks row))) row

-- a notice's number, on a bus of this kind, by the first number behind the groups read and the group's slots
abbrev pub wait_fits : Kind → ℕ → ℕ → ℕ → ℕ → Bool
wait_fits kind number end lead last =
    (eqb number 0 || (ltb number end && (ltb lead (number % 2048) && leb (number % 2048) last))) && (eqb number 0 || is_arinc kind)

-- the numbers from the index j on, bus x 4 + channel
unfoldable pub waits_in : List Kind → ℕ → ℕ → ℕ → ℕ → List ℕ → Bool
waits_in ks end lead last j [] = true
waits_in ks end lead last j (k ∷ rest) = wait_fits (kind_on ks (j / 4)) k end lead last && waits_in ks end lead last (j + 1) rest

-- the time words of a group
abbrev pub lead_of : Bool → ℕ
lead_of time = cond time 3 0

-- ---- what the bytes say

abbrev pub plan_at : List ℕ → Plan
plan_at b = plan_from (number_at b 1) (number_at b 2) (number_at b 3) (number_at b 4) (number_at b 5) (number_at b 6) (number_at b 7)

-- the sixteen kinds by the last byte of each number
abbrev pub kinds_at : List ℕ → List Kind
kinds_at b = list (λ bus. kind_of (get_or b (167 + 8 * bus) 0)) 0 16

abbrev pub working_at : List ℕ → Working
working_at b = record {
  plan = plan_at b;
  kinds = kinds_at b;
  groups = number_at b 10;
  waiting = take (number_at b 100) (drop 1024 b);
  bits = bits_of (number_at b 8) (number_at b 9);
  carry = record { held = held_from (kinds_at b) (list (number_at b) 15 5); since = number_at b 11; waits = list (number_at b) 36 64 };
}
