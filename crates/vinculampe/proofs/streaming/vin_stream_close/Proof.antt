use borrow.Author.Rules.{rules}
use Rattle.vinculampe.proofs.streaming.vin_stream_close.Statement.{statement}
use Rattle.vinculampe.proofs.streaming.vin_stream_close.Tie as tie

close-requires : tie.Need-close-requires
close-requires c κs = search rules

shape_of-state : tie.Need-shape_of-state
shape_of-state c = search rules

shape_of-log : tie.Need-shape_of-log
shape_of-log c = search rules

returns : tie.Need-returns
returns c = c.close.ensures

pub vin_stream_close_spec : {M : Type 1} → statement M
vin_stream_close_spec = tie.close (tie.spec close-requires shape_of-state shape_of-log returns)
