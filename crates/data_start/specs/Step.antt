-- What a word brings, as two strings of log bits and what is then held.
use Rattle.std.specs.Prelude.{ℕ, true, false}
use mathlib.Core.List.{flat_map}
use Rattle.format.specs.Item.{item_fields}
use Rattle.format.specs.Reader.{Fed, bad, fed}
use Rattle.format.specs.declared.Held.TheVariants.{Nothing}
use Rattle.data_start.specs.declared.Holding.{Holding}
use Rattle.data_start.specs.declared.Step.{Step}
use Rattle.data_start.specs.Holding.{number_of, width_of, flat}

-- a bad word brings nothing, and what is held stays
abbrev pub refusal : Holding → Step
refusal g = record { first = 0; second = 0; first_width = 0; second_width = 0; held = g; bad = true }

-- a word that is held, and two strings with nothing held
abbrev pub holding : ℕ → ℕ → Holding → Step
holding first width g =
    record { first = first; second = 0; first_width = width; second_width = 0; held = g; bad = false }

abbrev pub ended : ℕ → ℕ → ℕ → ℕ → Step
ended first width second long =
    record { first = first; second = second; first_width = width; second_width = long; held = flat Nothing; bad = false }

-- what a word starts, behind a string that is finished already
abbrev pub begun : Holding → ℕ → ℕ → Fed → Step
begun old first width bad = refusal old
begun old first width (fed is h) =
    record { first = first; second = number_of 0 (flat_map item_fields is); first_width = width; second_width = width_of (flat_map item_fields is); held = flat h; bad = false }
