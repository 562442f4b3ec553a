use borrow.Author.Tests.{eq-eqb, ne_eqb}
use mathlib.Core.Path.{refl}
use borrow.Author.Rules.{rules}
use Rattle.data_run.proofs.fill.or_place.Statement.{statement}
use Rattle.data_run.proofs.fill.or_place.Tie as tie

overflow_add-result : tie.Need-overflow_add-result
overflow_add-result c = search rules

returns-then-old-eq0 : tie.Need-returns-then-old-eq0
returns-then-old-eq0 c = rw (eq-eqb _ 0 c.if-old-eq0.true) refl

returns-else-old-eq0 : tie.Need-returns-else-old-eq0
returns-else-old-eq0 c = rw (ne_eqb _ 0 c.if-old-eq0.false) refl

pub or_place_spec : {M : Type 1} → statement M
or_place_spec = tie.close (tie.spec overflow_add-result returns-then-old-eq0 returns-else-old-eq0)
