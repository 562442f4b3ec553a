use borrow.Author.Rules.{rules}
use Rattle.log_buffer.proofs.room.arrived.Statement.{statement}
use Rattle.log_buffer.proofs.room.arrived.Tie as tie

taken-requires : tie.Need-taken-requires
taken-requires c κs = search rules

returns-then-stored : tie.Need-returns-then-stored
returns-then-stored c = rw c.if-stored.true c.taken.ensures

missed-requires : tie.Need-missed-requires
missed-requires c κs = search rules

returns : tie.Need-returns
returns c = rw c.if-stored.false c.missed.ensures

pub arrived_spec : {M : Type 1} → statement M
arrived_spec = tie.close (tie.spec taken-requires returns-then-stored missed-requires returns)
