-- What the contracts cite beside the definitions: a log walked without a fault, and where its items end.
use Rattle.std.specs.Prelude.{ℕ, ◌≡◌, length}
use Rattle.std.proofs.Common.{sym, ◌∙◌}
use mathlib.Core.List.{List, flat_map}
use Rattle.format.specs.Item.{item_bits}
use Rattle.format.specs.Log.{Parsed, items, fault, on_no_plan}
use Rattle.format.specs.declared.Item.{Item}
use Rattle.log_rules.specs.Laws.Checking.{Walk}
use Rattle.log_pass.specs.declared.Passed.{Passed}
use Rattle.log_pass.specs.declared.Passed.TheVariants.{All, Fault}

-- so far every item was good
pub record Passing (log : List ℕ) (place : ℕ) : Type 0 where
  pub past : List Item
  pub walk : Walk on_no_plan log past place

-- the bit behind the items, or the log's fault
abbrev pub pass_of : Parsed → Passed
pass_of (items is) = All (length (flat_map item_bits is))
pass_of (fault n q) = Fault n q
