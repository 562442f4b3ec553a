use borrow.Author.Tests.{eq-eqb, ne_eqb}
use mathlib.Core.Path.{refl}
use Rattle.log_check.proofs.rules.after.Statement.{statement}
use Rattle.log_check.proofs.rules.after.Tie as tie

returns-then-role-eq3 : tie.Need-returns-then-role-eq3
returns-then-role-eq3 c = rw (eq-eqb c.args.role.kind 3 c.if-role-eq3.true) refl

returns : tie.Need-returns
returns c = rw (ne_eqb c.args.role.kind 3 c.if-role-eq3.false) refl

pub after_spec : {M : Type 1} → statement M
after_spec = tie.close (tie.spec returns-then-role-eq3 returns)
