use Rattle.log_move.proofs.Moving.{time_number_low}
use mathlib.Core.Path.{refl}
use native.Mathlib.Omega.{arith}
use borrow.Author.Rules.{rules}
use Rattle.log_move.proofs.time_number.Statement.{statement}
use Rattle.log_move.proofs.time_number.Tie as tie
use Rattle.log_move.proofs.time_number.Reads as reads
use Rattle.log_move.proofs.time_number.Lts as lts
use Rattle.word.proofs.time_parts.Reads as time-parts-reads

time_parts-parts-requires : tie.Need-time_parts-parts-requires
time_parts-parts-requires c κs = search rules

overflow_cast-result : tie.Need-overflow_cast-result
overflow_cast-result c = search rules

overflow_mul-result : tie.Need-overflow_mul-result
overflow_mul-result c = search rules

overflow_cast-result-2 : tie.Need-overflow_cast-result-2
overflow_cast-result-2 c = search rules

overflow_add-result : tie.Need-overflow_add-result
overflow_add-result c = search rules

overflow_mul-result-2 : tie.Need-overflow_mul-result-2
overflow_mul-result-2 c = search rules

overflow_cast-result-3 : tie.Need-overflow_cast-result-3
overflow_cast-result-3 c = search rules

overflow_add-result-2 : tie.Need-overflow_add-result-2
overflow_add-result-2 c = search rules

returns : tie.Need-returns
returns c = let e = c.time_parts-parts.ensures in let l = time_number_low c.args.time c.requires in (rw e refl, rw e l)

pub time_number_spec : {M : Type 1} → statement M
time_number_spec =
    tie.close
    (tie.spec
    time_parts-parts-requires
    overflow_cast-result
    overflow_mul-result
    overflow_cast-result-2
    overflow_add-result
    overflow_mul-result-2
    overflow_cast-result-3
    overflow_add-result-2
    returns)
