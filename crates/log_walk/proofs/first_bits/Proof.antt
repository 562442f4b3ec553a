use Rattle.log_walk.proofs.Widths.{first_table}
use native.Mathlib.Omega.{arith}
use borrow.Author.Rules.{rules}
use Rattle.log_walk.proofs.first_bits.Statement.{statement}
use Rattle.log_walk.proofs.first_bits.Tie as tie
use Rattle.log_walk.proofs.first_bits.Reads as reads
use Rattle.log_walk.proofs.first_bits.Lts as lts

overflow_mul-result : tie.Need-overflow_mul-result
overflow_mul-result c = search rules

overflow_cast-result : tie.Need-overflow_cast-result
overflow_cast-result c = search rules

overflow_cast-result-2 : tie.Need-overflow_cast-result-2
overflow_cast-result-2 c = search rules

overflow_shr-result : tie.Need-overflow_shr-result
overflow_shr-result c = search rules

overflow_cast-result-3 : tie.Need-overflow_cast-result-3
overflow_cast-result-3 c = search rules

returns : tie.Need-returns
returns c = first_table c.args.kind (omega (arith, c.requires.1)) c.requires.0 c.requires.1

pub first_bits_spec : {M : Type 1} → statement M
first_bits_spec =
    tie.close (tie.spec overflow_mul-result overflow_cast-result overflow_cast-result-2 overflow_shr-result overflow_cast-result-3 returns)
