-- The row of items that pick puts, or the fault that comes first.
use Rattle.std.specs.Prelude.{ℕ}
use Rattle.format.specs.Log.{Parsed, items, fault}
use Rattle.log_rules.specs.Pick.{keep, on_buses}

-- the items on the buses
abbrev pub picks_of : ℕ → Parsed → Parsed
picks_of set (items is) = items (keep (on_buses set) is)
picks_of set (fault n q) = fault n q
