use native.Mathlib.Omega.{arith}
use Rattle.notices.proofs.in_code.Statement.{statement}
use Rattle.notices.proofs.in_code.Tie as tie
use Rattle.notices.proofs.in_code.Reads as reads
use Rattle.notices.proofs.in_code.Lts as lts

returns-then-parity : tie.Need-returns-then-parity
returns-then-parity c = (rw c.if-parity.true, omega arith)

returns-else-parity : tie.Need-returns-else-parity
returns-else-parity c = (rw c.if-parity.false, omega arith)

pub in_code_spec : {M : Type 1} → statement M
in_code_spec = tie.close (tie.spec returns-then-parity returns-else-parity)
