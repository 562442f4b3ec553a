use native.Mathlib.Omega.{arith}
use mathlib.Core.Path.{refl}
use borrow.Author.Tests.{eq-eqb, ne_eqb}
use borrow.Author.Rules.{rules}
use Rattle.log_buffer.proofs.room.need.Statement.{statement}
use Rattle.log_buffer.proofs.room.need.Tie as tie

returns-then-unmarked-eq0 : tie.Need-returns-then-unmarked-eq0
returns-then-unmarked-eq0 c = (rw (eq-eqb c.args.unmarked 0 c.if-unmarked-eq0.true) refl, omega (arith, c.requires))

overflow_add-result : tie.Need-overflow_add-result
overflow_add-result c = search rules

returns : tie.Need-returns
returns c = (rw (ne_eqb c.args.unmarked 0 c.if-unmarked-eq0.false) refl, omega (arith, c.requires))

pub need_spec : {M : Type 1} → statement M
need_spec = tie.close (tie.spec returns-then-unmarked-eq0 overflow_add-result returns)
