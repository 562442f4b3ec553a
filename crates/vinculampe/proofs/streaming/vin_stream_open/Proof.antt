use borrow.Author.Rules.{rules}
use Rattle.vinculampe.proofs.streaming.vin_stream_open.Statement.{statement}
use Rattle.vinculampe.proofs.streaming.vin_stream_open.Tie as tie

open_from-requires : tie.Need-open_from-requires
open_from-requires c κs = search rules

shape_of-state : tie.Need-shape_of-state
shape_of-state c = search rules

returns : tie.Need-returns
returns c = c.open_from.ensures

pub vin_stream_open_spec : {M : Type 1} → statement M
vin_stream_open_spec = tie.close (tie.spec open_from-requires shape_of-state returns)
