-- What a step means to a caller, who writes the two strings one after the other into a log.
use Rattle.std.specs.Prelude.{ℕ, ◌+◌, ◌^◌, ◌<◌, ◌≤◌, true, false, ◌≡◌}
use mathlib.Core.List.{List, ◌++◌, flat_map}
use Rattle.format.specs.Bits.{bits_of}
use Rattle.format.specs.Item.{item_bits}
use Rattle.format.specs.Reader.{Fed, bad, fed}
use Rattle.format.specs.Read.{Got, got, stopped}
use Rattle.format.specs.declared.Item.{Item}
use Rattle.format.specs.declared.Held.{Held}
use Rattle.format.specs.declared.Held.TheVariants.{Nothing}
use Rattle.data_start.specs.declared.Step.{Step}
use Rattle.data_word.specs.Holding.{held_of, Sane}

-- the items that are finished are the bits of the two strings, and h is held
pub record Brings (is : List Item) (h : Held) (r : Step) : Type 0 where
  pub good : r.bad ≡ false
  pub holds : held_of r.held ≡ h
  pub sane : Sane r.held
  pub bits : bits_of r.first_width r.first ++ bits_of r.second_width r.second ≡ flat_map item_bits is
  pub first_fits : r.first < 2 ^ r.first_width
  pub second_fits : r.second < 2 ^ r.second_width
  pub first_short : r.first_width ≤ 46
  pub second_short : r.second_width ≤ 46

abbrev pub Means : Fed → Step → Type 0
Means bad r = r.bad ≡ true
Means (fed is h) r = Brings is h r

-- at the end of the capture
abbrev pub Closes : Got → Step → Type 0
Closes (got is) r = Brings is Nothing r
Closes (stopped number place second) r = r.bad ≡ true
