use borrow.Author.Rules.{rules}
use Rattle.vinculampe.proofs.vin_join.Statement.{statement}
use Rattle.vinculampe.proofs.vin_join.Tie as tie

join-requires : tie.Need-join-requires
join-requires c κs = search rules

shape_of-out : tie.Need-shape_of-out
shape_of-out c = search rules

returns : tie.Need-returns
returns c = c.join.ensures

pub vin_join_spec : {M : Type 1} → statement M
vin_join_spec =
    tie.close
    (tie.spec
    join-requires
    shape_of-out
    returns)
