use mathlib.Core.Path.{refl}
use native.Mathlib.Omega.{arith}
use borrow.Author.Rules.{rules}
use Rattle.log_walk.proofs.bus_in.Statement.{statement}
use Rattle.log_walk.proofs.bus_in.Tie as tie

overflow_sub-result : tie.Need-overflow_sub-result
overflow_sub-result c = search rules

overflow_cast-result : tie.Need-overflow_cast-result
overflow_cast-result c = search rules

overflow_shr-result : tie.Need-overflow_shr-result
overflow_shr-result c = search rules

overflow_cast-result-2 : tie.Need-overflow_cast-result-2
overflow_cast-result-2 c = search rules

returns : tie.Need-returns
returns c = (refl, omega arith)

pub bus_in_spec : {M : Type 1} → statement M
bus_in_spec =
    tie.close
    (tie.spec
    overflow_sub-result
    overflow_cast-result
    overflow_shr-result
    overflow_cast-result-2
    returns)
