use borrow.Author.Rules.{rules}
use Rattle.read.proofs.read_closed.Statement.{statement}
use Rattle.read.proofs.read_closed.Tie as tie

read_either-requires : tie.Need-read_either-requires
read_either-requires c κs = search rules

shape_of-log : tie.Need-shape_of-log
shape_of-log c = search rules

shape_of-times : tie.Need-shape_of-times
shape_of-times c = search rules

returns : tie.Need-returns
returns c = c.read_either.ensures

pub read_closed_spec : {M : Type 1} → statement M
read_closed_spec = tie.close (tie.spec read_either-requires shape_of-log shape_of-times returns)
