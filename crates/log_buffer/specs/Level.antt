-- The buffer as the code has it: numbers, and what it sees of an item.
use Rattle.std.specs.Prelude.{ℕ, ◌+◌, ◌-◌, ◌≤◌, ◌<◌, Bool, true, false, cond, eqb, leb}
use Rattle.format.specs.declared.Tag.{Tag}
use Rattle.format.specs.declared.Tag.TheVariants.{Untagged, At}
use Rattle.format.specs.declared.Response.{Response}
use Rattle.format.specs.declared.Response.TheVariants.{Untimed, After}
use Rattle.format.specs.declared.Item.{Item}
use Rattle.format.specs.declared.Item.TheVariants.{Command, Status, Data, BusError, Arinc, Notice, User, Overflow}
use Rattle.log_rules.specs.Replay.{Buffer}
use Rattle.log_buffer.specs.declared.Load.{Load}
use Rattle.log_buffer.specs.declared.Level.{Level}

-- ---- an item

abbrev pub plain_load : ℕ → ℕ → Load
plain_load bus words = record { bus = bus; words = words; mark = false }

abbrev pub tagged_load : ℕ → ℕ → Tag → Load
tagged_load bus words Untagged = plain_load bus words
tagged_load bus words (At t) = plain_load bus (words + 3)

abbrev pub status_load : ℕ → Response → Load
status_load bus Untimed = plain_load bus 1
status_load bus (After r) = plain_load bus 2

abbrev pub load_of : Item → Load
load_of (Command bus b tag word) = tagged_load bus 1 tag
load_of (Status bus b resp word) = status_load bus resp
load_of (Data bus b word) = plain_load bus 1
load_of (BusError bus b word) = plain_load bus 1
load_of (Arinc bus c tag word) = tagged_load bus 2 tag
load_of (Notice bus c diag) = plain_load bus 1
load_of (User bus three word) = plain_load bus 1
load_of (Overflow bus word) = record { bus = bus; words = 1; mark = true }

-- ---- the buffer

abbrev pub level_of : Buffer → Level
level_of s = record { sent = s.sent; lost = s.lost; held = s.held; unmarked = s.unmarked; bus = s.bus }

-- small enough to count on
abbrev pub Holdable : Level → Type 0
Holdable l = (l.held ≤ 4096) × (l.sent ≤ 1073741824) × (l.lost ≤ 65535) × (l.unmarked < 65536)

abbrev pub need_by : ℕ → ℕ → ℕ
need_by unmarked words = cond (eqb unmarked 0) words (words + 1)

abbrev pub taken_by : Level → ℕ → Level
taken_by l words = record { sent = l.sent; lost = l.lost; held = l.held + need_by l.unmarked words; unmarked = 0; bus = 0 }

abbrev pub missed_by : Level → ℕ → Level
missed_by l bus = record { sent = l.sent; lost = l.lost + 1; held = l.held; unmarked = l.unmarked + 1; bus = cond (eqb l.unmarked 0) bus l.bus }

abbrev pub arrived_by : Level → Load → Bool → Level
arrived_by l load stored = cond stored (taken_by l load.words) (missed_by l load.bus)

-- as many as are held, up to the slots
abbrev pub takes_by : ℕ → Level → ℕ
takes_by slots l = cond (leb l.held slots) l.held slots

abbrev pub left_by : ℕ → Level → Level
left_by slots l = record { sent = l.sent + takes_by slots l; lost = l.lost; held = l.held - takes_by slots l; unmarked = l.unmarked; bus = l.bus }
