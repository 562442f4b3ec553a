use mathlib.Core.Path.{refl}
use borrow.Author.Tests.{eq-eqb, ne_eqb}
use borrow.Author.Rules.{rules}
use Rattle.capture_parts.proofs.earlier.Statement.{statement}
use Rattle.capture_parts.proofs.earlier.Tie as tie

returns-then-first-eq0 : tie.Need-returns-then-first-eq0
returns-then-first-eq0 c = rw (eq-eqb _ _ c.if-first-eq0.true) refl

returns-else-first-eq0 : tie.Need-returns-else-first-eq0
returns-else-first-eq0 c = rw (ne_eqb _ _ c.if-first-eq0.false) refl

pub earlier_spec : {M : Type 1} → statement M
earlier_spec = tie.close (tie.spec returns-then-first-eq0 returns-else-first-eq0)
