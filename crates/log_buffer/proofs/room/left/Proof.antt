use mathlib.Core.Path.{refl}
use borrow.Author.Rules.{rules}
use Rattle.log_buffer.proofs.room.left.Statement.{statement}
use Rattle.log_buffer.proofs.room.left.Tie as tie

least-words-requires : tie.Need-least-words-requires
least-words-requires c κs = search rules

overflow_add-result : tie.Need-overflow_add-result
overflow_add-result c = search rules

overflow_sub-result : tie.Need-overflow_sub-result
overflow_sub-result c = search rules

returns : tie.Need-returns
returns c = rw (← c.least-words.ensures.0) refl

pub left_spec : {M : Type 1} → statement M
left_spec = tie.close (tie.spec least-words-requires overflow_add-result overflow_sub-result returns)
