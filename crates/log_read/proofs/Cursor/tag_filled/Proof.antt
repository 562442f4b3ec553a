use Rattle.log_read.proofs.Eight.{said_is}
use Rattle.log_read.specs.Cursor.{ahead_of}
use mathlib.Core.Path.{refl}
use native.Mathlib.Omega.{arith}
use borrow.Author.Rules.{rules}
use Rattle.log_read.proofs.Cursor.tag_filled.Statement.{statement}
use Rattle.log_read.proofs.Cursor.tag_filled.Tie as tie

overflow_add-last : tie.Need-overflow_add-last
overflow_add-last c = search rules

overflow_sub-last : tie.Need-overflow_sub-last
overflow_sub-last c = search rules

eight_in-requires : tie.Need-eight_in-requires
eight_in-requires c κs = search rules

overflow_add-result : tie.Need-overflow_add-result
overflow_add-result c = search rules

overflow_mul-result : tie.Need-overflow_mul-result
overflow_mul-result c = search rules

overflow_sub-result : tie.Need-overflow_sub-result
overflow_sub-result c = search rules

overflow_cast-result : tie.Need-overflow_cast-result
overflow_cast-result c = search rules

overflow_cast-result-2 : tie.Need-overflow_cast-result-2
overflow_cast-result-2 c = search rules

overflow_shl-result : tie.Need-overflow_shl-result
overflow_shl-result c = search rules

returns : tie.Need-returns
unfolding ahead_of
returns c =
    rw (← said_is _ _ c.eight_in.result (omega arith) c.eight_in.ensures) (refl, refl)

pub tag_filled_spec : {M : Type 1} → statement M
tag_filled_spec =
    tie.close
    (tie.spec
    overflow_add-last
    overflow_sub-last
    eight_in-requires
    overflow_add-result
    overflow_mul-result
    overflow_sub-result
    overflow_cast-result
    overflow_cast-result-2
    overflow_shl-result
    returns)
