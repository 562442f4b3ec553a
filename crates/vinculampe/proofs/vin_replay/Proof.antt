use borrow.Author.Rules.{rules}
use Rattle.vinculampe.proofs.vin_replay.Statement.{statement}
use Rattle.vinculampe.proofs.vin_replay.Tie as tie

replay-requires : tie.Need-replay-requires
replay-requires c κs = search rules

shape_of-out : tie.Need-shape_of-out
shape_of-out c = search rules

returns : tie.Need-returns
returns c = c.replay.ensures

pub vin_replay_spec : {M : Type 1} → statement M
vin_replay_spec = tie.close (tie.spec replay-requires shape_of-out returns)
