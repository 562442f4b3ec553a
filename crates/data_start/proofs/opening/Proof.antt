use native.Mathlib.Omega.{arith}
use Rattle.data_start.proofs.Openers.{row_low, row_at}
use borrow.Author.Rules.{rules}
use Rattle.data_start.proofs.opening.Statement.{statement}
use Rattle.data_start.proofs.opening.Tie as tie

row_of-requires : tie.Need-row_of-requires
row_of-requires c κs = search rules

offset_bounds-table-row_of : tie.Need-offset_bounds-table-row_of
offset_bounds-table-row_of c = omega (arith, row_low c.args.kind, c.row_of.ensures)

offset_bounds-table-label : tie.Need-offset_bounds-table-label
offset_bounds-table-label c = search rules

bounds-table-row_of : tie.Need-bounds-table-row_of
bounds-table-row_of c = omega (arith, row_low c.args.kind, c.row_of.ensures)

bounds-table-label : tie.Need-bounds-table-label
bounds-table-label c = search rules

returns : tie.Need-returns
returns c = rw (c.requires.0, c.row_of.ensures) (row_at c.args.kind c.args.label)

pub opening_spec : {M : Type 1} → statement M
opening_spec =
    tie.close
    (tie.spec row_of-requires offset_bounds-table-row_of offset_bounds-table-label bounds-table-row_of bounds-table-label returns)
