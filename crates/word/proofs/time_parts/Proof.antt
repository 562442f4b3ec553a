use borrow.Author.Rules.{rules}
use Rattle.word.proofs.Halves.{by_halves}
use Rattle.word.proofs.time_parts.Statement.{statement}
use Rattle.word.proofs.time_parts.Tie as tie

overflow_cast-upper : tie.Need-overflow_cast-upper
overflow_cast-upper c = search rules

overflow_cast-lower : tie.Need-overflow_cast-lower
overflow_cast-lower c = search rules

overflow_mul-first : tie.Need-overflow_mul-first
overflow_mul-first c = search rules

overflow_add-first : tie.Need-overflow_add-first
overflow_add-first c = search rules

overflow_mul-second : tie.Need-overflow_mul-second
overflow_mul-second c = search rules

overflow_add-second : tie.Need-overflow_add-second
overflow_add-second c = search rules

overflow_cast-result : tie.Need-overflow_cast-result
overflow_cast-result c = search rules

overflow_cast-result-2 : tie.Need-overflow_cast-result-2
overflow_cast-result-2 c = search rules

overflow_cast-result-3 : tie.Need-overflow_cast-result-3
overflow_cast-result-3 c = search rules

returns : tie.Need-returns
returns c = by_halves c.args.time

pub time_parts_spec : {M : Type 1} → statement M
time_parts_spec =
    tie.close
    (tie.spec
    overflow_cast-upper
    overflow_cast-lower
    overflow_mul-first
    overflow_add-first
    overflow_mul-second
    overflow_add-second
    overflow_cast-result
    overflow_cast-result-2
    overflow_cast-result-3
    returns)
