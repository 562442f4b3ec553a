use Rattle.log_walk.proofs.Widths.{behind_table}
use native.Mathlib.Omega.{arith}
use borrow.Author.Rules.{rules}
use Rattle.log_walk.proofs.behind_bits.Statement.{statement}
use Rattle.log_walk.proofs.behind_bits.Tie as tie
use Rattle.log_walk.proofs.behind_bits.Reads as reads
use Rattle.log_walk.proofs.behind_bits.Lts as lts

by-table : tie.Need-returns
by-table c = behind_table c.args.w c.args.kind (omega (arith, c.requires.1)) c.requires.0 c.requires.1

overflow_cast-flag : tie.Need-overflow_cast-flag
overflow_cast-flag c = search rules

overflow_shr-flag : tie.Need-overflow_shr-flag
overflow_shr-flag c = search rules

overflow_add-flag : tie.Need-overflow_add-flag
overflow_add-flag c = search rules

overflow_cast-flag-2 : tie.Need-overflow_cast-flag-2
overflow_cast-flag-2 c = search rules

overflow_shr-flag-2 : tie.Need-overflow_shr-flag-2
overflow_shr-flag-2 c = search rules

overflow_mul-result : tie.Need-overflow_mul-result
overflow_mul-result c = search rules

overflow_cast-result : tie.Need-overflow_cast-result
overflow_cast-result c = search rules

overflow_cast-result-2 : tie.Need-overflow_cast-result-2
overflow_cast-result-2 c = search rules

overflow_shr-result : tie.Need-overflow_shr-result
overflow_shr-result c = search rules

overflow_mul-result-2 : tie.Need-overflow_mul-result-2
overflow_mul-result-2 c = omega (arith, (by-table c).1)

overflow_cast-result-3 : tie.Need-overflow_cast-result-3
overflow_cast-result-3 c = omega (arith, (by-table c).1)

returns : tie.Need-returns
returns c = by-table c

pub behind_bits_spec : {M : Type 1} → statement M
behind_bits_spec =
    tie.close
    (tie.spec
    overflow_cast-flag
    overflow_shr-flag
    overflow_add-flag
    overflow_cast-flag-2
    overflow_shr-flag-2
    overflow_mul-result
    overflow_cast-result
    overflow_cast-result-2
    overflow_shr-result
    overflow_mul-result-2
    overflow_cast-result-3
    returns)
