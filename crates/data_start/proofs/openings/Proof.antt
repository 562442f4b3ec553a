use mathlib.Core.Path.{refl}
use Rattle.data_start.specs.Opening.{openings}
use borrow.Author.Rules.{rules}
use Rattle.data_start.proofs.openings.Statement.{statement}
use Rattle.data_start.proofs.openings.Tie as tie

row-requires : tie.Need-row-requires
row-requires c κs = search rules

row-requires-2 : tie.Need-row-requires-2
row-requires-2 c κs = search rules

row-requires-3 : tie.Need-row-requires-3
row-requires-3 c κs = search rules

returns : tie.Need-returns
unfolding openings
returns c = rw (c.row.ensures, c.row-2.ensures, c.row-3.ensures) refl

pub openings_spec : {M : Type 1} → statement M
openings_spec = tie.close (tie.spec row-requires row-requires-2 row-requires-3 returns)
