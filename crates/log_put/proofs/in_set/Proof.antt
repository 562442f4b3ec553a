use mathlib.Core.Path.{refl}
use borrow.Author.Rules.{rules}
use Rattle.log_put.proofs.in_set.Statement.{statement}
use Rattle.log_put.proofs.in_set.Tie as tie

overflow_cast-result-2 : tie.Need-overflow_cast-result-2
overflow_cast-result-2 c = search rules

overflow_shr-result : tie.Need-overflow_shr-result
overflow_shr-result c = search rules

returns : tie.Need-returns
returns c = refl

pub in_set_spec : {M : Type 1} → statement M
in_set_spec =
    tie.close
    (tie.spec
    overflow_cast-result-2
    overflow_shr-result
    returns)
