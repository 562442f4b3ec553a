use borrow.Author.Rules.{rules}
use Rattle.capture_parts.proofs.Part.{row_room}
use Rattle.group_read.specs.Row.{dealt_count}
use Rattle.format.specs.Laws.Limits.{dealt_most}
use lib.ListN.{length}
use native.Mathlib.Omega.{arith}
use Prim.Native.Nat.{◌*◌, ◌≤◌, ◌<◌}
use Rattle.salvage_groups.proofs.salvage_groups.Statement.{statement}
use Rattle.salvage_groups.proofs.salvage_groups.Tie as tie
use Rattle.salvage_groups.proofs.salvage_groups.Reads as reads
use Rattle.salvage_groups.proofs.salvage_groups.Lts as lts
use Rattle.salvage_groups.proofs.through_row.Reads as through-row-reads

-- a group's row is no longer than a third of the capture
in_row : (s : tie.Start) → 0 < s.args.groups → 3 * dealt_count s.args.plan ≤ length s.args.capture.now
in_row s h = row_room s.args.plan s.requires.0.0 s.args.groups (length s.args.capture.now) s.requires.1.0 h

slice_bounds-through_row-end : tie.Need-slice_bounds-through_row-end
slice_bounds-through_row-end c = search rules

through_row-requires : tie.Need-through_row-requires
through_row-requires c κs =
    let s = c.before.before.before.before.before.before.before.before.before in
    ((s.requires.0.0, s.requires.0.1, λ h. omega (arith, in_row s h, c.if-capture-le1884.true)), s.requires.1)

shape_of-out-then-capture-le1884 : tie.Need-shape_of-out-then-capture-le1884
shape_of-out-then-capture-le1884 c = search rules

shape_of-times-then-capture-le1884 : tie.Need-shape_of-times-then-capture-le1884
shape_of-times-then-capture-le1884 c = search rules

shape_of-report-then-capture-le1884 : tie.Need-shape_of-report-then-capture-le1884
shape_of-report-then-capture-le1884 c = search rules

returns-then-capture-le1884 : tie.Need-returns-then-capture-le1884
returns-then-capture-le1884 c = c.through_row.ensures

slice_bounds-through_row-end-2 : tie.Need-slice_bounds-through_row-end-2
slice_bounds-through_row-end-2 c = search rules

through_row-requires-2 : tie.Need-through_row-requires-2
through_row-requires-2 c κs =
    let s = c.before.before.before.before.before.before.before.before.before in
    ((s.requires.0.0, s.requires.0.1, λ h. omega (arith, dealt_most s.args.plan s.requires.0.0)), s.requires.1)

shape_of-out : tie.Need-shape_of-out
shape_of-out c = search rules

shape_of-times : tie.Need-shape_of-times
shape_of-times c = search rules

shape_of-report : tie.Need-shape_of-report
shape_of-report c = search rules

returns : tie.Need-returns
returns c = c.through_row-2.ensures

pub salvage_groups_spec : {M : Type 1} → statement M
salvage_groups_spec =
    tie.close
    (tie.spec
    slice_bounds-through_row-end
    through_row-requires
    shape_of-out-then-capture-le1884
    shape_of-times-then-capture-le1884
    shape_of-report-then-capture-le1884
    returns-then-capture-le1884
    slice_bounds-through_row-end-2
    through_row-requires-2
    shape_of-out
    shape_of-times
    shape_of-report
    returns)
