-- A parsed log, counted: what the code answers of a whole log.
use mathlib.Core.List.{flat_map}
use Rattle.std.specs.Prelude.{length}
use Rattle.format.specs.Item.{item_words}
use Rattle.format.specs.Log.{Parsed, items, fault}
use Rattle.log_read.specs.declared.Tally.{Tally}
use Rattle.log_read.specs.declared.Tally.TheVariants.{Items, Fault}

-- how many items there are and how many words they have, or the first fault
abbrev pub tallied_of : Parsed → Tally
tallied_of (items is) = Items (length is) (length (flat_map item_words is))
tallied_of (fault n p) = Fault n p
