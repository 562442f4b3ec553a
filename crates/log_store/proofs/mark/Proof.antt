use native.Mathlib.Omega.{arith}
use mathlib.Core.Path.{refl}
use Rattle.log_store.proofs.mark.Statement.{statement}
use Rattle.log_store.proofs.mark.Tie as tie

overflow_cast-result : tie.Need-overflow_cast-result
overflow_cast-result c = omega (arith, c.requires)

returns : tie.Need-returns
returns c = refl

pub mark_spec : {M : Type 1} → statement M
mark_spec = tie.close (tie.spec overflow_cast-result returns)
