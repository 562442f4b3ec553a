use Prim.Native.Nat.{ℕ, ◌*◌, ◌/◌, ◌≤◌, ◌<◌}
use native.Mathlib.Omega.{arith}
use borrow.Author.Rules.{rules}
use lib.ListN.{length}
use Rattle.format.specs.Plan.{group_words}
use Rattle.format.specs.Laws.Limits.{dealt_most}
use Rattle.group_read.specs.Row.{dealt_count}
use Rattle.capture_parts.proofs.Part.{row_room}
use Rattle.capture_parts.proofs.Given.{whole_groups}
use Rattle.split_words.proofs.words_of.Statement.{statement}
use Rattle.split_words.proofs.words_of.Tie as tie

-- a group's row is no longer than a third of the capture
in_row : (s : tie.Start) → 0 < length s.args.capture.now / (3 * group_words s.args.plan) → 3 * dealt_count s.args.plan ≤ length s.args.capture.now
in_row s h =
    let size = length s.args.capture.now in
    row_room s.args.plan s.requires.0 (size / (3 * group_words s.args.plan)) size (whole_groups s.args.plan size s.requires.2) h

slice_bounds-words_by-end : tie.Need-slice_bounds-words_by-end
slice_bounds-words_by-end c = search rules

words_by-requires : tie.Need-words_by-requires
words_by-requires c κs =
    let s = c.before.before.before.before.before.before.before in
    (s.requires, λ h. omega (arith, in_row s h, c.if-capture-le1884.true))

shape_of-words-then-capture-le1884 : tie.Need-shape_of-words-then-capture-le1884
shape_of-words-then-capture-le1884 c = search rules

shape_of-times-then-capture-le1884 : tie.Need-shape_of-times-then-capture-le1884
shape_of-times-then-capture-le1884 c = search rules

returns-then-capture-le1884 : tie.Need-returns-then-capture-le1884
returns-then-capture-le1884 c = search rules

slice_bounds-words_by-end-2 : tie.Need-slice_bounds-words_by-end-2
slice_bounds-words_by-end-2 c = search rules

words_by-requires-2 : tie.Need-words_by-requires-2
words_by-requires-2 c κs =
    let s = c.before.before.before.before.before.before.before in
    (s.requires, λ h. omega (arith, dealt_most s.args.plan s.requires.0))

shape_of-words : tie.Need-shape_of-words
shape_of-words c = search rules

shape_of-times : tie.Need-shape_of-times
shape_of-times c = search rules

returns : tie.Need-returns
returns c = search rules

pub words_of_spec : {M : Type 1} → statement M
words_of_spec =
    tie.close
    (tie.spec
    slice_bounds-words_by-end
    words_by-requires
    shape_of-words-then-capture-le1884
    shape_of-times-then-capture-le1884
    returns-then-capture-le1884
    slice_bounds-words_by-end-2
    words_by-requires-2
    shape_of-words
    shape_of-times
    returns)
