use mathlib.Core.Path.{refl}
use borrow.Author.Rules.{rules}
use Rattle.log_buffer.proofs.room.taken.Statement.{statement}
use Rattle.log_buffer.proofs.room.taken.Tie as tie

need-requires : tie.Need-need-requires
need-requires c κs = search rules

overflow_add-result : tie.Need-overflow_add-result
overflow_add-result c = search rules

returns : tie.Need-returns
returns c = rw (← c.need.ensures.0) refl

pub taken_spec : {M : Type 1} → statement M
taken_spec = tie.close (tie.spec need-requires overflow_add-result returns)
