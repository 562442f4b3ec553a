use borrow.Author.Rules.{rules}
use Rattle.group_write.specs.Writing.{rows_with}
use Rattle.group_write.proofs.rows_with.Statement.{statement}
use Rattle.group_write.proofs.rows_with.Tie as tie

overflow_add-count : tie.Need-overflow_add-count
overflow_add-count c = search rules

overflow_sub-count : tie.Need-overflow_sub-count
overflow_sub-count c = search rules

overflow_sub-count-2 : tie.Need-overflow_sub-count-2
overflow_sub-count-2 c = search rules

quotient-requires : tie.Need-quotient-requires
quotient-requires c κs = search rules

returns : tie.Need-returns
unfolding rows_with
returns c = c.quotient.ensures

pub rows_with_spec : {M : Type 1} → statement M
rows_with_spec = tie.close (tie.spec overflow_add-count overflow_sub-count overflow_sub-count-2 quotient-requires returns)
