use native.Mathlib.Omega.{arith}
use borrow.Author.Rules.{rules}
use Rattle.log_edit.proofs.pick.Statement.{statement}
use Rattle.log_edit.proofs.pick.Tie as tie

slice_bounds-pick_in-end : tie.Need-slice_bounds-pick_in-end
slice_bounds-pick_in-end c = search rules

pick_in-requires : tie.Need-pick_in-requires
pick_in-requires c κs = λ h. omega arith

shape_of-out-then-log-le56 : tie.Need-shape_of-out-then-log-le56
shape_of-out-then-log-le56 c = search rules

returns-then-log-le56 : tie.Need-returns-then-log-le56
returns-then-log-le56 c = c.pick_in.ensures

slice_bounds-pick_in-end-then-log-le1024 : tie.Need-slice_bounds-pick_in-end-then-log-le1024
slice_bounds-pick_in-end-then-log-le1024 c = search rules

pick_in-requires-then-log-le1024 : tie.Need-pick_in-requires-then-log-le1024
pick_in-requires-then-log-le1024 c κs = λ h. omega arith

shape_of-out-then-log-le1024 : tie.Need-shape_of-out-then-log-le1024
shape_of-out-then-log-le1024 c = search rules

returns-then-log-le1024 : tie.Need-returns-then-log-le1024
returns-then-log-le1024 c = c.pick_in-then-log-le1024.ensures

slice_bounds-pick_in-end-2 : tie.Need-slice_bounds-pick_in-end-2
slice_bounds-pick_in-end-2 c = search rules

pick_in-requires-2 : tie.Need-pick_in-requires-2
pick_in-requires-2 c κs = λ h. omega arith

shape_of-out : tie.Need-shape_of-out
shape_of-out c = search rules

returns : tie.Need-returns
returns c = c.pick_in-2.ensures

pub pick_spec : {M : Type 1} → statement M
pick_spec =
    tie.close
    (tie.spec
    slice_bounds-pick_in-end
    pick_in-requires
    shape_of-out-then-log-le56
    returns-then-log-le56
    slice_bounds-pick_in-end-then-log-le1024
    pick_in-requires-then-log-le1024
    shape_of-out-then-log-le1024
    returns-then-log-le1024
    slice_bounds-pick_in-end-2
    pick_in-requires-2
    shape_of-out
    returns)
