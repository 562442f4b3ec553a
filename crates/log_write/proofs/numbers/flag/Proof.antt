use native.Mathlib.Omega.{arith}
use borrow.Author.Rules.{rules}
use Rattle.log_write.proofs.numbers.flag.Statement.{statement}
use Rattle.log_write.proofs.numbers.flag.Tie as tie

returns-then-b : tie.Need-returns-then-b
returns-then-b c = (rw c.if-b.true, omega arith)

returns-else-b : tie.Need-returns-else-b
returns-else-b c = (rw c.if-b.false, omega arith)

pub flag_spec : {M : Type 1} → statement M
flag_spec = tie.close (tie.spec returns-then-b returns-else-b)
