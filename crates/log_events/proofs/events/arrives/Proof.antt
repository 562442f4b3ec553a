use native.Mathlib.Omega.{arith}
use mathlib.Core.Path.{refl}
use borrow.Author.Tests.{eq-eqb, ne_eqb}
use borrow.Author.Rules.{rules}
use Rattle.log_events.proofs.events.arrives.Statement.{statement}
use Rattle.log_events.proofs.events.arrives.Tie as tie

returns-then-event-eq0 : tie.Need-returns-then-event-eq0
returns-then-event-eq0 c = (rw (eq-eqb c.args.event 0 c.if-event-eq0.true) refl, omega arith)

returns : tie.Need-returns
returns c = (rw (ne_eqb c.args.event 0 c.if-event-eq0.false) refl, omega arith)

pub arrives_spec : {M : Type 1} → statement M
arrives_spec = tie.close (tie.spec returns-then-event-eq0 returns)
