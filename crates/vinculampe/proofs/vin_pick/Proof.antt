use borrow.Author.Rules.{rules}
use Rattle.vinculampe.proofs.vin_pick.Statement.{statement}
use Rattle.vinculampe.proofs.vin_pick.Tie as tie

pick-requires : tie.Need-pick-requires
pick-requires c κs = search rules

shape_of-out : tie.Need-shape_of-out
shape_of-out c = search rules

returns : tie.Need-returns
returns c = c.pick.ensures

pub vin_pick_spec : {M : Type 1} → statement M
vin_pick_spec =
    tie.close
    (tie.spec
    pick-requires
    shape_of-out
    returns)
