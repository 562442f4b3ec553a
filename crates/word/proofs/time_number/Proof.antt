use mathlib.Core.Path.{refl}
use borrow.Author.Rules.{rules}
use Rattle.word.proofs.time_number.Statement.{statement}
use Rattle.word.proofs.time_number.Tie as tie

overflow_cast-result : tie.Need-overflow_cast-result
overflow_cast-result c = search rules

overflow_mul-result : tie.Need-overflow_mul-result
overflow_mul-result c = search rules

overflow_cast-result-2 : tie.Need-overflow_cast-result-2
overflow_cast-result-2 c = search rules

overflow_add-result : tie.Need-overflow_add-result
overflow_add-result c = search rules

overflow_mul-result-2 : tie.Need-overflow_mul-result-2
overflow_mul-result-2 c = search rules

overflow_cast-result-3 : tie.Need-overflow_cast-result-3
overflow_cast-result-3 c = search rules

overflow_add-result-2 : tie.Need-overflow_add-result-2
overflow_add-result-2 c = search rules

returns : tie.Need-returns
returns c = refl

pub time_number_spec : {M : Type 1} → statement M
time_number_spec =
    tie.close
    (tie.spec
    overflow_cast-result
    overflow_mul-result
    overflow_cast-result-2
    overflow_add-result
    overflow_mul-result-2
    overflow_cast-result-3
    overflow_add-result-2
    returns)
