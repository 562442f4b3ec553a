use mathlib.Core.Path.{refl}
use Rattle.from_c.proofs.unnamed.Statement.{statement}
use Rattle.from_c.proofs.unnamed.Tie as tie

returns : tie.Need-returns
returns c = refl

pub unnamed_spec : {M : Type 1} → statement M
unnamed_spec = tie.close (tie.spec returns)
