-- All events as the code has them: from an empty buffer to the log of what was stored.
use Rattle.std.specs.Prelude.{ℕ, ◌≤◌, ◌<◌, ◌^◌, ◌≡◌, length}
use mathlib.Core.List.{List, flat_map}
use Rattle.format.specs.Item.{item_bits}
use Rattle.format.specs.Log.{items, on_no_plan, parsed}
use Rattle.format.specs.Group.{none}
use Rattle.log_rules.specs.declared.Replayed.{Replayed}
use Rattle.log_rules.specs.Items.{items_of}
use Rattle.log_rules.specs.Replay.{Buffer, empty_buffer, replay, unreplayed}
use Rattle.log_write.specs.declared.Pen.{Pen}
use Rattle.log_write.specs.Pen.{Wrote, start}
use Rattle.log_buffer.specs.declared.Level.{Level}
use Rattle.log_buffer.specs.Level.{level_of}
use Rattle.log_store.specs.declared.State.{State}

abbrev pub start_state : State
start_state = record { at = record { at = 0; ahead = 0 }; level = record { sent = 0; lost = 0; held = 0; unmarked = 0; bus = 0 }; pen = start }

-- what refuses a replay does not hold
abbrev pub Ready : List ℕ → List ℕ → ℕ → ℕ → Type 0
Ready log events capacity slots =
    (length log ≤ 32768) × (parsed on_no_plan log ≡ items (items_of (parsed on_no_plan log)))
    × (unreplayed events capacity slots (items_of (parsed on_no_plan log)) ≡ none)

abbrev pub EndsAs : Buffer → List ℕ → Level → Pen → Type 0
EndsAs s built level pen = (level ≡ level_of s) × Wrote (flat_map item_bits s.stored) built pen

abbrev pub Runs : List ℕ → List ℕ → ℕ → ℕ → List ℕ → State → Type 0
Runs log events capacity slots built r =
    EndsAs (replay capacity slots events (items_of (parsed on_no_plan log)) empty_buffer) built r.level r.pen × (r.pen.bits < 2 ^ 61)

-- number 0, the log's length and the counts
abbrev pub given : ℕ → Level → Replayed
given bytes l = record { number = 0; place = 0; second = 0; bytes = bytes; sent = l.sent; lost = l.lost; held = l.held }
