-- The words of what the reader holds.
use Rattle.std.specs.Prelude.{◌/◌, ◌%◌, ◌^◌}
use mathlib.Core.List.{List, [], ◌∷◌, ◌++◌}
use Rattle.format.specs.Item.{sided, high_label, low_label}
use Rattle.format.specs.Reader.{base_bus}
use Rattle.format.specs.Word.{Part, part}
use Rattle.format.specs.declared.Base.{Base}
use Rattle.format.specs.declared.Base.TheVariants as base
use Rattle.format.specs.declared.Held.{Held}
use Rattle.format.specs.declared.Held.TheVariants.{Nothing, Taggable, Half, TagHigh, TagLow, Answering}

-- the words of what is held
abbrev pub base_parts : Base → List Part
base_parts (base.Command bus b word) = part bus (sided 15 b) word ∷ []
base_parts (base.Arinc bus c word) = part bus (high_label c) (word / 2 ^ 16) ∷ part bus (low_label c) (word % 2 ^ 16) ∷ []

abbrev pub held_parts : Held → List Part
held_parts Nothing = []
held_parts (Taggable x) = base_parts x
held_parts (Half bus c high) = part bus (high_label c) high ∷ []
held_parts (TagHigh x high) = base_parts x ++ part (base_bus x) 7 high ∷ []
held_parts (TagLow x high low) = base_parts x ++ part (base_bus x) 7 high ∷ part (base_bus x) 6 low ∷ []
held_parts (Answering bus r) = part bus 4 r ∷ []
