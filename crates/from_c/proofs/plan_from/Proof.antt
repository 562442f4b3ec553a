use mathlib.Core.Path.{refl}
use Rattle.from_c.proofs.plan_from.Statement.{statement}
use Rattle.from_c.proofs.plan_from.Tie as tie

returns : tie.Need-returns
returns c = refl

pub plan_from_spec : {M : Type 1} → statement M
plan_from_spec = tie.close (tie.spec returns)
