use Rattle.from_c.specs.Numbers.{time_at}
use borrow.Author.Rules.{rules}
use Rattle.from_c.proofs.time_at.Statement.{statement}
use Rattle.from_c.proofs.time_at.Tie as tie

half_at-requires : tie.Need-half_at-requires
half_at-requires c κs = search rules

overflow_cast-result : tie.Need-overflow_cast-result
overflow_cast-result c = search rules

overflow_mul-result : tie.Need-overflow_mul-result
overflow_mul-result c = search rules

overflow_add-at : tie.Need-overflow_add-at
overflow_add-at c = search rules

half_at-requires-2 : tie.Need-half_at-requires-2
half_at-requires-2 c κs = search rules

overflow_cast-result-2 : tie.Need-overflow_cast-result-2
overflow_cast-result-2 c = search rules

overflow_add-result : tie.Need-overflow_add-result
overflow_add-result c = search rules

returns : tie.Need-returns
unfolding time_at
returns c = rw (c.half_at.ensures, c.half_at-2.ensures)

pub time_at_spec : {M : Type 1} → statement M
time_at_spec =
    tie.close
    (tie.spec
    half_at-requires
    overflow_cast-result
    overflow_mul-result
    overflow_add-at
    half_at-requires-2
    overflow_cast-result-2
    overflow_add-result
    returns)
