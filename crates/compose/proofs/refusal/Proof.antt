use mathlib.Core.Path.{refl}
use Rattle.compose.proofs.refusal.Statement.{statement}
use Rattle.compose.proofs.refusal.Tie as tie

returns : tie.Need-returns
returns c = refl

pub refusal_spec : {M : Type 1} → statement M
refusal_spec = tie.close (tie.spec returns)
