use native.Mathlib.Omega.{arith}
use borrow.Author.Rules.{rules}
use Rattle.salvage_from_c.proofs.salvage_bytes.Statement.{statement}
use Rattle.salvage_from_c.proofs.salvage_bytes.Tie as tie

slice_bounds-salvage_by-end : tie.Need-slice_bounds-salvage_by-end
slice_bounds-salvage_by-end c = search rules

salvage_by-requires : tie.Need-salvage_by-requires
salvage_by-requires c κs = λ p q. omega arith

shape_of-log-then-times-lt520 : tie.Need-shape_of-log-then-times-lt520
shape_of-log-then-times-lt520 c = search rules

shape_of-times-then-times-lt520 : tie.Need-shape_of-times-then-times-lt520
shape_of-times-then-times-lt520 c = search rules

shape_of-report-then-times-lt520 : tie.Need-shape_of-report-then-times-lt520
shape_of-report-then-times-lt520 c = search rules

returns-then-times-lt520 : tie.Need-returns-then-times-lt520
returns-then-times-lt520 c = c.salvage_by.ensures

slice_bounds-salvage_by-end-then-capture-lt24960 : tie.Need-slice_bounds-salvage_by-end-then-capture-lt24960
slice_bounds-salvage_by-end-then-capture-lt24960 c = search rules

salvage_by-requires-then-capture-lt24960 : tie.Need-salvage_by-requires-then-capture-lt24960
salvage_by-requires-then-capture-lt24960 c κs = λ p q. omega arith

shape_of-log-then-capture-lt24960 : tie.Need-shape_of-log-then-capture-lt24960
shape_of-log-then-capture-lt24960 c = search rules

shape_of-times-then-capture-lt24960 : tie.Need-shape_of-times-then-capture-lt24960
shape_of-times-then-capture-lt24960 c = search rules

shape_of-report-then-capture-lt24960 : tie.Need-shape_of-report-then-capture-lt24960
shape_of-report-then-capture-lt24960 c = search rules

returns-then-capture-lt24960 : tie.Need-returns-then-capture-lt24960
returns-then-capture-lt24960 c = c.salvage_by-then-capture-lt24960.ensures

slice_bounds-salvage_by-end-2 : tie.Need-slice_bounds-salvage_by-end-2
slice_bounds-salvage_by-end-2 c = search rules

salvage_by-requires-2 : tie.Need-salvage_by-requires-2
salvage_by-requires-2 c κs = λ p q. omega arith

shape_of-log : tie.Need-shape_of-log
shape_of-log c = search rules

shape_of-times : tie.Need-shape_of-times
shape_of-times c = search rules

shape_of-report : tie.Need-shape_of-report
shape_of-report c = search rules

returns : tie.Need-returns
returns c = c.salvage_by-2.ensures

pub salvage_bytes_spec : {M : Type 1} → statement M
salvage_bytes_spec =
    tie.close
    (tie.spec
    slice_bounds-salvage_by-end
    salvage_by-requires
    shape_of-log-then-times-lt520
    shape_of-times-then-times-lt520
    shape_of-report-then-times-lt520
    returns-then-times-lt520
    slice_bounds-salvage_by-end-then-capture-lt24960
    salvage_by-requires-then-capture-lt24960
    shape_of-log-then-capture-lt24960
    shape_of-times-then-capture-lt24960
    shape_of-report-then-capture-lt24960
    returns-then-capture-lt24960
    slice_bounds-salvage_by-end-2
    salvage_by-requires-2
    shape_of-log
    shape_of-times
    shape_of-report
    returns)
