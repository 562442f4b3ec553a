-- The items of a log.
use Rattle.std.specs.Prelude.{List, []}
use Rattle.format.specs.Log.{Parsed, items, fault}
use Rattle.format.specs.declared.Item.{Item}

-- the items of a log that parses
abbrev pub items_of : Parsed → List Item
items_of (items is) = is
items_of (fault n p) = []
