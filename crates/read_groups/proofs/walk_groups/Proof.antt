use Prim.Native.Nat.{◌*◌, ◌≤◌, ◌<◌}
use native.Mathlib.Omega.{arith}
use borrow.Author.Rules.{rules}
use lib.ListN.{length}
use Rattle.format.specs.Laws.Limits.{dealt_most}
use Rattle.group_read.specs.Row.{dealt_count}
use Rattle.read_groups.proofs.walk_groups.Statement.{statement}
use Rattle.read_groups.proofs.walk_groups.Tie as tie
use Rattle.capture_parts.proofs.Part.{row_room}

-- a group's row is no longer than a third of the capture
in_row : (s : tie.Start) → 0 < s.args.groups → 3 * dealt_count s.args.plan ≤ length s.args.capture.now
in_row s h = row_room s.args.plan s.requires.0.0 s.args.groups (length s.args.capture.now) s.requires.1.0 h

slice_bounds-over_groups-end : tie.Need-slice_bounds-over_groups-end
slice_bounds-over_groups-end c = search rules

over_groups-requires : tie.Need-over_groups-requires
over_groups-requires c κs =
    let s = c.before.before.before.before.before in
    let l = c.if-capture-le768.true in
    ((s.requires.0.0, s.requires.0.1, λ h. omega (arith, in_row s h, l)), s.requires.1)

shape_of-out-then-capture-le768 : tie.Need-shape_of-out-then-capture-le768
shape_of-out-then-capture-le768 c = search rules

returns-then-capture-le768 : tie.Need-returns-then-capture-le768
returns-then-capture-le768 c = search rules

slice_bounds-over_groups-end-then-capture-le1884 : tie.Need-slice_bounds-over_groups-end-then-capture-le1884
slice_bounds-over_groups-end-then-capture-le1884 c = search rules

over_groups-requires-then-capture-le1884 : tie.Need-over_groups-requires-then-capture-le1884
over_groups-requires-then-capture-le1884 c κs =
    let s = c.before.before.before.before.before.before in
    let l = c.if-capture-le1884.true in
    ((s.requires.0.0, s.requires.0.1, λ h. omega (arith, in_row s h, l)), s.requires.1)

shape_of-out-then-capture-le1884 : tie.Need-shape_of-out-then-capture-le1884
shape_of-out-then-capture-le1884 c = search rules

returns-then-capture-le1884 : tie.Need-returns-then-capture-le1884
returns-then-capture-le1884 c = search rules

slice_bounds-over_groups-end-2 : tie.Need-slice_bounds-over_groups-end-2
slice_bounds-over_groups-end-2 c = search rules

over_groups-requires-2 : tie.Need-over_groups-requires-2
over_groups-requires-2 c κs =
    let s = c.before.before.before.before.before.before in
    ((s.requires.0.0, s.requires.0.1, λ h. omega (arith, dealt_most s.args.plan s.requires.0.0)), s.requires.1)

shape_of-out : tie.Need-shape_of-out
shape_of-out c = search rules

returns : tie.Need-returns
returns c = search rules

pub walk_groups_spec : {M : Type 1} → statement M
walk_groups_spec =
    tie.close
    (tie.spec
    slice_bounds-over_groups-end
    over_groups-requires
    shape_of-out-then-capture-le768
    returns-then-capture-le768
    slice_bounds-over_groups-end-then-capture-le1884
    over_groups-requires-then-capture-le1884
    shape_of-out-then-capture-le1884
    returns-then-capture-le1884
    slice_bounds-over_groups-end-2
    over_groups-requires-2
    shape_of-out
    returns)
