use borrow.Author.Rules.{rules}
use Rattle.vinculampe.proofs.vin_compose.Statement.{statement}
use Rattle.vinculampe.proofs.vin_compose.Tie as tie

compose_from-requires : tie.Need-compose_from-requires
compose_from-requires c κs = search rules

shape_of-out : tie.Need-shape_of-out
shape_of-out c = search rules

returns : tie.Need-returns
returns c = c.compose_from.ensures

pub vin_compose_spec : {M : Type 1} → statement M
vin_compose_spec = tie.close (tie.spec compose_from-requires shape_of-out returns)
