use mathlib.Core.Path.{refl}
use borrow.Author.Rules.{rules}
use Rattle.log_buffer.proofs.room.missed.Statement.{statement}
use Rattle.log_buffer.proofs.room.missed.Tie as tie

overflow_add-result : tie.Need-overflow_add-result
overflow_add-result c = search rules

overflow_add-result-2 : tie.Need-overflow_add-result-2
overflow_add-result-2 c = search rules

first_bus-requires : tie.Need-first_bus-requires
first_bus-requires c κs = search rules

returns : tie.Need-returns
returns c = rw (← c.first_bus.ensures) refl

pub missed_spec : {M : Type 1} → statement M
missed_spec = tie.close (tie.spec overflow_add-result overflow_add-result-2 first_bus-requires returns)
