-- Room for the log, the times and the report.
use Rattle.std.specs.Prelude.{ℕ, ◌*◌, ◌/◌, cond, ◌&&◌, List, length, leb}
use Rattle.format.specs.Log.{log_of}
use Rattle.format.specs.Plan.{group_words}
use Rattle.format.specs.declared.Kind.{Kind}
use Rattle.format.specs.declared.Plan.{Plan}
use Rattle.salvage_rules.specs.Salvage.{Salvage, Saved, saved_in, salvage_groups}
use Rattle.salvage_groups.specs.declared.Tally.{Tally}
use Rattle.salvage_groups.specs.Tally.{time_row}

-- "then 6, 7, then 20 for too little report room"
abbrev pub room_number : Tally → ℕ → ℕ → ℕ → ℕ
room_number t log_room time_room reportRoom =
    cond (leb t.bytes 32768 && leb t.bytes log_room) (cond (leb t.times time_room) (cond (leb t.entries reportRoom) 0 20) 7) 6

-- n groups
abbrev pub saved_of : Plan → List Kind → List ℕ → ℕ → ℕ → ℕ → ℕ → Salvage
saved_of p ks c n log_room time_room reportRoom = saved_in log_room time_room reportRoom (log_of (salvage_groups p ks c n).its) (time_row p c n) (salvage_groups p ks c n).report

-- a capture of whole groups
abbrev pub saved_groups : Plan → List Kind → List ℕ → ℕ → ℕ → ℕ → Salvage
saved_groups p ks c log_room time_room reportRoom = saved_of p ks c (length c / (3 * group_words p)) log_room time_room reportRoom
