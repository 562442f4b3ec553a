use mathlib.Core.Path.{refl}
use borrow.Author.Rules.{rules}
use Rattle.stream_from_c.proofs.feed_from.Statement.{statement}
use Rattle.stream_from_c.proofs.feed_from.Tie as tie

slice_bounds-feed_by-end : tie.Need-slice_bounds-feed_by-end
slice_bounds-feed_by-end c = search rules

feed_by-requires : tie.Need-feed_by-requires
feed_by-requires c κs = refl

shape_of-state : tie.Need-shape_of-state
shape_of-state c = search rules

shape_of-log : tie.Need-shape_of-log
shape_of-log c = search rules

shape_of-times : tie.Need-shape_of-times
shape_of-times c = search rules

returns : tie.Need-returns
returns c = c.feed_by.ensures

pub feed_from_spec : {M : Type 1} → statement M
feed_from_spec =
    tie.close
    (tie.spec
    slice_bounds-feed_by-end
    feed_by-requires
    shape_of-state
    shape_of-log
    shape_of-times
    returns)
