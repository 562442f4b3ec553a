use Rattle.notices.proofs.code_bits.Statement.{statement}
use Rattle.notices.proofs.code_bits.Tie as tie
use Rattle.notices.proofs.code_bits.Reads as reads
use Rattle.notices.proofs.code_bits.Lts as lts

returns-then-parity : tie.Need-returns-then-parity
returns-then-parity c = rw c.if-parity.true

returns-else-parity : tie.Need-returns-else-parity
returns-else-parity c = rw c.if-parity.false

pub code_bits_spec : {M : Type 1} → statement M
code_bits_spec = tie.close (tie.spec returns-then-parity returns-else-parity)
