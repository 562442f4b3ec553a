use mir.Facts.{to_z-of_z}
use native.Mathlib.Omega.{arith}
use borrow.Author.Rules.{rules}
use Rattle.log_shift.proofs.shift_moved.Statement.{statement}
use Rattle.log_shift.proofs.shift_moved.Tie as tie
use Rattle.log_shift.proofs.shift_moved.Reads as reads
use Rattle.log_shift.proofs.shift_moved.Lts as lts
use Rattle.log_shift.proofs.shift_in.Reads as shift-in-reads

slice_bounds-shift_in-end : tie.Need-slice_bounds-shift_in-end
slice_bounds-shift_in-end c = search rules

shift_in-requires : tie.Need-shift_in-requires
shift_in-requires c κs = (
  rw (to_z-of_z c.ranges.by)
      c.requires,
  λ h. omega arith,
)

shape_of-times-then-log-le56 : tie.Need-shape_of-times-then-log-le56
shape_of-times-then-log-le56 c = search rules

shape_of-out-then-log-le56 : tie.Need-shape_of-out-then-log-le56
shape_of-out-then-log-le56 c = search rules

returns-then-log-le56 : tie.Need-returns-then-log-le56
returns-then-log-le56 c = rw (to_z-of_z c.ranges.by) at
    c.shift_in.ensures

slice_bounds-shift_in-end-then-log-le1024 : tie.Need-slice_bounds-shift_in-end-then-log-le1024
slice_bounds-shift_in-end-then-log-le1024 c = search rules

shift_in-requires-then-log-le1024 : tie.Need-shift_in-requires-then-log-le1024
shift_in-requires-then-log-le1024 c κs = (
  rw (to_z-of_z c.ranges.by)
      c.requires,
  λ h. omega arith,
)

shape_of-times-then-log-le1024 : tie.Need-shape_of-times-then-log-le1024
shape_of-times-then-log-le1024 c = search rules

shape_of-out-then-log-le1024 : tie.Need-shape_of-out-then-log-le1024
shape_of-out-then-log-le1024 c = search rules

returns-then-log-le1024 : tie.Need-returns-then-log-le1024
returns-then-log-le1024 c = rw (to_z-of_z c.ranges.by) at
    c.shift_in-then-log-le1024.ensures

slice_bounds-shift_in-end-2 : tie.Need-slice_bounds-shift_in-end-2
slice_bounds-shift_in-end-2 c = search rules

shift_in-requires-2 : tie.Need-shift_in-requires-2
shift_in-requires-2 c κs = (
  rw (to_z-of_z c.ranges.by)
      c.requires,
  λ h. absurd (omega arith),
)

shape_of-times : tie.Need-shape_of-times
shape_of-times c = search rules

shape_of-out : tie.Need-shape_of-out
shape_of-out c = search rules

returns : tie.Need-returns
returns c = rw (to_z-of_z c.ranges.by) at
    c.shift_in-2.ensures

pub shift_moved_spec : {M : Type 1} → statement M
shift_moved_spec =
    tie.close
    (tie.spec
    slice_bounds-shift_in-end
    shift_in-requires
    shape_of-times-then-log-le56
    shape_of-out-then-log-le56
    returns-then-log-le56
    slice_bounds-shift_in-end-then-log-le1024
    shift_in-requires-then-log-le1024
    shape_of-times-then-log-le1024
    shape_of-out-then-log-le1024
    returns-then-log-le1024
    slice_bounds-shift_in-end-2
    shift_in-requires-2
    shape_of-times
    shape_of-out
    returns)
