use borrow.Author.Rules.{rules}
use Rattle.vinculampe.proofs.streaming.vin_stream_feed.Statement.{statement}
use Rattle.vinculampe.proofs.streaming.vin_stream_feed.Tie as tie

feed_from-requires : tie.Need-feed_from-requires
feed_from-requires c κs = search rules

shape_of-state : tie.Need-shape_of-state
shape_of-state c = search rules

shape_of-log : tie.Need-shape_of-log
shape_of-log c = search rules

shape_of-times : tie.Need-shape_of-times
shape_of-times c = search rules

returns : tie.Need-returns
returns c = c.feed_from.ensures

pub vin_stream_feed_spec : {M : Type 1} → statement M
vin_stream_feed_spec = tie.close (tie.spec feed_from-requires shape_of-state shape_of-log shape_of-times returns)
