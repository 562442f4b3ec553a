use native.Mathlib.Omega.{arith}
use mathlib.Core.Path.{refl}
use borrow.Author.Tests.{le-leb, lt-leb}
use borrow.Author.Rules.{rules}
use Rattle.log_buffer.proofs.room.least.Statement.{statement}
use Rattle.log_buffer.proofs.room.least.Tie as tie

returns-then-a-b : tie.Need-returns-then-a-b
returns-then-a-b c = (rw (le-leb c.args.a c.args.b c.if-a-b.true) refl, omega arith)

returns : tie.Need-returns
returns c = (rw (lt-leb c.args.a c.args.b c.if-a-b.false) refl, omega (arith, c.if-a-b.false))

pub least_spec : {M : Type 1} → statement M
least_spec = tie.close (tie.spec returns-then-a-b returns)
