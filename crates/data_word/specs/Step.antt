-- What a word brings to what was held, as two strings of log bits and what is then held.
use Rattle.std.specs.Prelude.{ℕ, false, cond, take, drop, ltb}
use mathlib.Core.List.{List, flat_map}
use Rattle.format.specs.Item.{Field, item_fields}
use Rattle.format.specs.Reader.{Fed, bad, fed}
use Rattle.format.specs.Read.{Got, got, stopped}
use Rattle.format.specs.declared.Held.{Held}
use Rattle.format.specs.declared.Held.TheVariants.{Nothing, Taggable, Half, TagHigh, TagLow, Answering}
use Rattle.data_start.specs.declared.Step.{Step}
use Rattle.data_start.specs.Holding.{number_of, width_of, flat}
use Rattle.data_start.specs.Step.{refusal}

-- the bits of an untagged command, or of an untagged ARINC word
abbrev pub base_width : ℕ → ℕ
base_width base = cond (ltb base 4294967296) 26 43

-- two strings, each the bits of some fields, and what is held
abbrev pub strings : List Field → List Field → Held → Step
strings xs ys h =
    record { first = number_of 0 xs; second = number_of 0 ys; first_width = width_of xs; second_width = width_of ys; held = flat h; bad = false }

-- the fields of the finished items that go first: those of the item that was held, up to its word (kind, bus, side, mark, word)
abbrev pub cut : Held → ℕ
cut Nothing = 0
cut (Taggable x) = 5
cut (Half bus c high) = 5
cut (TagHigh x high) = 5
cut (TagLow x high low) = 5
cut (Answering bus response) = 5

-- the step from what was held and what the definition says of the word
abbrev pub step_of : Held → Fed → Step
step_of h bad = refusal (flat h)
step_of h (fed is h') = strings (take (cut h) (flat_map item_fields is)) (drop (cut h) (flat_map item_fields is)) h'

-- the capture's end: what is held is finished, or cut
abbrev pub closing : Held → Got → Step
closing h (got is) = strings (take (cut h) (flat_map item_fields is)) (drop (cut h) (flat_map item_fields is)) Nothing
closing h (stopped number place second) = refusal (flat h)
