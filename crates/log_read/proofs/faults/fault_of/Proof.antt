use borrow.Author.Rules.{rules}
use Rattle.log_read.proofs.faults.fault_of.Statement.{statement}
use Rattle.log_read.proofs.faults.fault_of.Tie as tie

in_time-timely-requires : tie.Need-in_time-timely-requires
in_time-timely-requires c κs = search rules

returns-then-timely : tie.Need-returns-then-timely
returns-then-timely c = rw (← c.in_time-timely.ensures, c.if-timely.true)

returns-else-timely : tie.Need-returns-else-timely
returns-else-timely c = rw (← c.in_time-timely.ensures, c.if-timely.false)

pub fault_of_spec : {M : Type 1} → statement M
fault_of_spec = tie.close (tie.spec in_time-timely-requires returns-then-timely returns-else-timely)
