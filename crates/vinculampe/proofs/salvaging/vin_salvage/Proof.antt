use borrow.Author.Rules.{rules}
use Rattle.vinculampe.proofs.salvaging.vin_salvage.Statement.{statement}
use Rattle.vinculampe.proofs.salvaging.vin_salvage.Tie as tie

salvage_from-requires : tie.Need-salvage_from-requires
salvage_from-requires c κs = search rules

shape_of-log : tie.Need-shape_of-log
shape_of-log c = search rules

shape_of-times : tie.Need-shape_of-times
shape_of-times c = search rules

shape_of-report : tie.Need-shape_of-report
shape_of-report c = search rules

returns : tie.Need-returns
returns c = c.salvage_from.ensures

pub vin_salvage_spec : {M : Type 1} → statement M
vin_salvage_spec = tie.close (tie.spec salvage_from-requires shape_of-log shape_of-times shape_of-report returns)
