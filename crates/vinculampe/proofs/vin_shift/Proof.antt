use mir.Facts.{to_z-of_z}
use borrow.Author.Rules.{rules}
use Rattle.vinculampe.proofs.vin_shift.Statement.{statement}
use Rattle.vinculampe.proofs.vin_shift.Tie as tie
use Rattle.vinculampe.proofs.vin_shift.Reads as reads
use Rattle.vinculampe.proofs.vin_shift.Lts as lts
use Rattle.log_shift.proofs.shift.Reads as shift-reads

shift-requires : tie.Need-shift-requires
shift-requires c κs = search rules

shape_of-times : tie.Need-shape_of-times
shape_of-times c = search rules

shape_of-out : tie.Need-shape_of-out
shape_of-out c = search rules

returns : tie.Need-returns
returns c = rw (to_z-of_z c.ranges.microseconds) at c.shift.ensures

pub vin_shift_spec : {M : Type 1} → statement M
vin_shift_spec = tie.close (tie.spec shift-requires shape_of-times shape_of-out returns)
