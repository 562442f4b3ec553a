use Rattle.log_read.proofs.Eight.{said_is}
use Rattle.log_read.specs.Cursor.{ahead_of}
use mathlib.Core.Path.{refl}
use native.Mathlib.Omega.{arith}
use borrow.Author.Rules.{rules}
use Rattle.log_read.proofs.Cursor.filled.Statement.{statement}
use Rattle.log_read.proofs.Cursor.filled.Tie as tie

eight_at-requires : tie.Need-eight_at-requires
eight_at-requires c κs = search rules

overflow_cast-result : tie.Need-overflow_cast-result
overflow_cast-result c = search rules

overflow_cast-result-2 : tie.Need-overflow_cast-result-2
overflow_cast-result-2 c = search rules

overflow_shl-result : tie.Need-overflow_shl-result
overflow_shl-result c = search rules

returns : tie.Need-returns
unfolding ahead_of
returns c =
    rw (← said_is _ _ c.eight_at.result (omega arith) c.eight_at.ensures) (refl, refl)

pub filled_spec : {M : Type 1} → statement M
filled_spec = tie.close (tie.spec eight_at-requires overflow_cast-result overflow_cast-result-2 overflow_shl-result returns)
