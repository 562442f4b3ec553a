use mathlib.Core.Path.{refl}
use Rattle.data_start.proofs.nothing.Statement.{statement}
use Rattle.data_start.proofs.nothing.Tie as tie

returns : tie.Need-returns
returns c = refl

pub nothing_spec : {M : Type 1} → statement M
nothing_spec = tie.close (tie.spec returns)
