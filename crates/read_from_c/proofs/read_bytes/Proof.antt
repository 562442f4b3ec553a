use native.Mathlib.Omega.{arith}
use borrow.Author.Rules.{rules}
use Rattle.read_from_c.proofs.read_bytes.Statement.{statement}
use Rattle.read_from_c.proofs.read_bytes.Tie as tie

slice_bounds-read_by-end : tie.Need-slice_bounds-read_by-end
slice_bounds-read_by-end c = search rules

read_by-requires : tie.Need-read_by-requires
read_by-requires c κs = search rules

shape_of-log-then-times-lt520 : tie.Need-shape_of-log-then-times-lt520
shape_of-log-then-times-lt520 c = search rules

shape_of-times-then-times-lt520 : tie.Need-shape_of-times-then-times-lt520
shape_of-times-then-times-lt520 c = search rules

returns-then-times-lt520 : tie.Need-returns-then-times-lt520
returns-then-times-lt520 c = search rules

slice_bounds-read_by-end-then-capture-lt24960 : tie.Need-slice_bounds-read_by-end-then-capture-lt24960
slice_bounds-read_by-end-then-capture-lt24960 c = search rules

read_by-requires-then-capture-lt24960 : tie.Need-read_by-requires-then-capture-lt24960
read_by-requires-then-capture-lt24960 c κs = λ p q. omega arith

shape_of-log-then-capture-lt24960 : tie.Need-shape_of-log-then-capture-lt24960
shape_of-log-then-capture-lt24960 c = search rules

shape_of-times-then-capture-lt24960 : tie.Need-shape_of-times-then-capture-lt24960
shape_of-times-then-capture-lt24960 c = search rules

returns-then-capture-lt24960 : tie.Need-returns-then-capture-lt24960
returns-then-capture-lt24960 c = search rules

slice_bounds-read_by-end-2 : tie.Need-slice_bounds-read_by-end-2
slice_bounds-read_by-end-2 c = search rules

read_by-requires-2 : tie.Need-read_by-requires-2
read_by-requires-2 c κs = search rules

shape_of-log : tie.Need-shape_of-log
shape_of-log c = search rules

shape_of-times : tie.Need-shape_of-times
shape_of-times c = search rules

returns : tie.Need-returns
returns c = search rules

pub read_bytes_spec : {M : Type 1} → statement M
read_bytes_spec =
    tie.close
    (tie.spec
    slice_bounds-read_by-end
    read_by-requires
    shape_of-log-then-times-lt520
    shape_of-times-then-times-lt520
    returns-then-times-lt520
    slice_bounds-read_by-end-then-capture-lt24960
    read_by-requires-then-capture-lt24960
    shape_of-log-then-capture-lt24960
    shape_of-times-then-capture-lt24960
    returns-then-capture-lt24960
    slice_bounds-read_by-end-2
    read_by-requires-2
    shape_of-log
    shape_of-times
    returns)
