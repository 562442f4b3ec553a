use mathlib.Core.Path.{refl}
use borrow.Author.Tests.{eq-eqb, ne_eqb}
use borrow.Author.Rules.{rules}
use Rattle.log_buffer.proofs.room.first_bus.Statement.{statement}
use Rattle.log_buffer.proofs.room.first_bus.Tie as tie

returns-then-unmarked-eq0 : tie.Need-returns-then-unmarked-eq0
returns-then-unmarked-eq0 c = rw (eq-eqb c.args.unmarked 0 c.if-unmarked-eq0.true) refl

returns : tie.Need-returns
returns c = rw (ne_eqb c.args.unmarked 0 c.if-unmarked-eq0.false) refl

pub first_bus_spec : {M : Type 1} → statement M
first_bus_spec = tie.close (tie.spec returns-then-unmarked-eq0 returns)
