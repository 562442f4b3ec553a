use mathlib.Core.Path.{refl}
use Rattle.log_walk.proofs.in_time.Statement.{statement}
use Rattle.log_walk.proofs.in_time.Tie as tie

returns : tie.Need-returns
returns c = refl

pub in_time_spec : {M : Type 1} → statement M
in_time_spec =
    tie.close
    (tie.spec
    returns)
