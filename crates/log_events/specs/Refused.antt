-- What refuses a replay, as the code has it.
use Rattle.std.specs.Prelude.{ℕ, Bool, true, false, ◌&&◌, List, length, leb}
use Rattle.format.specs.Log.{Parsed, items, fault}
use Rattle.format.specs.Group.{Fault, none, found, or_else, unless}
use Rattle.format.specs.declared.Item.{Item}
use Rattle.log_rules.specs.Replay.{arrivals, events_known, first_mark, unreplayed}
use Rattle.log_events.specs.declared.Verdict.{Verdict}
use Rattle.log_events.specs.declared.Verdict.TheVariants.{May, Not}

abbrev pub verdict_of : Fault → Verdict
verdict_of none = May
verdict_of (found n p) = Not n p

-- the mark's refusal first, then that of the limits
abbrev pub first_of : Verdict → Bool → Verdict
first_of v true = v
first_of May false = Not 19 0
first_of (Not n p) false = Not n p

abbrev pub limits_by : ℕ → ℕ → ℕ → Bool
limits_by events capacity slots = leb events 65535 && (leb 8 capacity && leb capacity 4096) && (leb 1 slots && leb slots 2048)

abbrev pub bounded_by : List ℕ → ℕ → ℕ → ℕ → Bool
bounded_by events capacity slots count = limits_by (length events) capacity slots && events_known events && leb (arrivals events) count

abbrev pub judged_by : List ℕ → ℕ → ℕ → List Item → ℕ → Fault
judged_by events capacity slots is count = or_else (first_mark 0 is) (unless (bounded_by events capacity slots count) 19 0)

abbrev pub refused_by : List ℕ → ℕ → ℕ → Parsed → Fault
refused_by events capacity slots (items is) = unreplayed events capacity slots is
refused_by events capacity slots (fault n p) = found n p
