use mathlib.Core.Path.{ap₂, ◌∙◌}
use Rattle.read.specs.Room.{room_number}
use borrow.Author.Rules.{rules}
use Rattle.read.proofs.room_number.Statement.{statement}
use Rattle.read.proofs.room_number.Tie as tie
use Rattle.capture_parts.specs.Room.{earlier}

short_of-long-requires : tie.Need-short_of-long-requires
short_of-long-requires c κs = search rules

short_of-log-requires : tie.Need-short_of-log-requires
short_of-log-requires c κs = search rules

short_of-times-requires : tie.Need-short_of-times-requires
short_of-times-requires c κs = search rules

earlier-requires : tie.Need-earlier-requires
earlier-requires c κs = search rules

earlier-requires-2 : tie.Need-earlier-requires-2
earlier-requires-2 c κs = search rules

returns : tie.Need-returns
unfolding room_number
returns c = c.earlier-2.ensures ∙ ap₂ earlier c.short_of-long.ensures (c.earlier.ensures ∙ ap₂ earlier c.short_of-log.ensures c.short_of-times.ensures)

pub room_number_spec : {M : Type 1} → statement M
room_number_spec =
    tie.close
    (tie.spec
    short_of-long-requires
    short_of-log-requires
    short_of-times-requires
    earlier-requires
    earlier-requires-2
    returns)
