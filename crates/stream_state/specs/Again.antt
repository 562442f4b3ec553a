-- What is held, fed again from its words: at most four numbers, none of them bad or the end of an item.
use Rattle.std.specs.Prelude.{ℕ, ◌^◌, true, false, cond, List, [], ◌∷◌, ltb}
use Rattle.format.specs.Word.{bus_of, label_of, info_of}
use Rattle.format.specs.Reader.{Fed, bad, fed, feed, holds}
use Rattle.data_start.specs.Holding.{flat}
use Rattle.stream_rules.specs.StateNumbers.{held_from}
use Rattle.stream_rules.specs.Laws.Stream.Held.{only_held}
use Rattle.format.specs.declared.Kind.{Kind}
use Rattle.format.specs.declared.Held.{Held}
use Rattle.format.specs.declared.Held.TheVariants.{Nothing}
use Rattle.stream_state.specs.declared.Again.{Again}
use Rattle.stream_state.specs.Parts.{held_passes}

-- the words, fed one after the other
unfoldable pub again : List Kind → Held → List ℕ → Fed
again ks h [] = holds h
again ks h (w ∷ ws) = cond (ltb w (2 ^ 24)) (only_held (feed ks h (bus_of false w) (label_of w) (info_of w)) (λ h'. again ks h' ws)) bad

abbrev pub again_from : Fed → Again
again_from bad = record { bad = true; held = flat Nothing }
again_from (fed is h) = record { bad = false; held = flat h }

-- what five numbers hold
abbrev pub again_of : List Kind → List ℕ → Again
again_of ks row = cond (held_passes ks row) (record { bad = false; held = flat (held_from ks row) }) (record { bad = true; held = flat Nothing })
