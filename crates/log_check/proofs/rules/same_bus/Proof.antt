use mathlib.Core.Path.{refl}
use borrow.Author.Rules.{rules}
use Rattle.log_check.proofs.rules.same_bus.Statement.{statement}
use Rattle.log_check.proofs.rules.same_bus.Tie as tie

returns-then-first : tie.Need-returns-then-first
returns-then-first c = search rules

returns : tie.Need-returns
returns c = rw c.if-first.false refl

pub same_bus_spec : {M : Type 1} → statement M
same_bus_spec = tie.close (tie.spec returns-then-first returns)
