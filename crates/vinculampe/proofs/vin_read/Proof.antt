use borrow.Author.Rules.{rules}
use Rattle.vinculampe.proofs.vin_read.Statement.{statement}
use Rattle.vinculampe.proofs.vin_read.Tie as tie

read_from-requires : tie.Need-read_from-requires
read_from-requires c κs = search rules

shape_of-log : tie.Need-shape_of-log
shape_of-log c = search rules

shape_of-times : tie.Need-shape_of-times
shape_of-times c = search rules

returns : tie.Need-returns
returns c = c.read_from.ensures

pub vin_read_spec : {M : Type 1} → statement M
vin_read_spec = tie.close (tie.spec read_from-requires shape_of-log shape_of-times returns)
