use borrow.Author.Rules.{rules}
use Rattle.salvage_run.proofs.Rows.{put_in, put_out}
use Rattle.salvage_run.proofs.put_at.Statement.{statement}
use Rattle.salvage_run.proofs.put_at.Tie as tie
use Rattle.salvage_run.proofs.put_at.Reads as reads
use Rattle.salvage_run.proofs.put_at.Lts as lts

offset_bounds-row-at : tie.Need-offset_bounds-row-at
offset_bounds-row-at c = search rules

bounds-row-at : tie.Need-bounds-row-at
bounds-row-at c = search rules

shape_of-row : tie.Need-shape_of-row
shape_of-row c = search rules

returns-then-at-row : tie.Need-returns-then-at-row
returns-then-at-row c = put_in c.args.row.now c.args.at c.args.number c.if-at-row.true

returns-else-at-row : tie.Need-returns-else-at-row
returns-else-at-row c = put_out c.args.row.now c.args.at c.args.number c.if-at-row.false

pub put_at_spec : {M : Type 1} → statement M
put_at_spec = tie.close (tie.spec offset_bounds-row-at bounds-row-at shape_of-row returns-then-at-row returns-else-at-row)
