use borrow.Author.Rules.{rules}
use Rattle.vinculampe.proofs.split.vin_read_items.Statement.{statement}
use Rattle.vinculampe.proofs.split.vin_read_items.Tie as tie

items_from-requires : tie.Need-items_from-requires
items_from-requires c κs = search rules

shape_of-log : tie.Need-shape_of-log
shape_of-log c = search rules

returns : tie.Need-returns
returns c = c.items_from.ensures

pub vin_read_items_spec : {M : Type 1} → statement M
vin_read_items_spec = tie.close (tie.spec items_from-requires shape_of-log returns)
