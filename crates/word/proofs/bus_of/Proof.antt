use Rattle.format.specs.Word.{bus_of}
use Rattle.word.proofs.bus_of.Statement.{statement}
use Rattle.word.proofs.bus_of.Tie as tie

returns-then-parity : tie.Need-returns-then-parity
unfolding bus_of
returns-then-parity c = rw c.if-parity.true

returns-else-parity : tie.Need-returns-else-parity
unfolding bus_of
returns-else-parity c = rw c.if-parity.false

pub bus_of_spec : {M : Type 1} → statement M
bus_of_spec = tie.close (tie.spec returns-then-parity returns-else-parity)
