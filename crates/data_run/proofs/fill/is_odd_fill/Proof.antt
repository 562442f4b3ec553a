use borrow.Author.Tests.{eq-eqb, ne_eqb}
use mathlib.Core.Path.{refl}
use Rattle.data_run.proofs.fill.is_odd_fill.Statement.{statement}
use Rattle.data_run.proofs.fill.is_odd_fill.Tie as tie

returns-then-i-eq0 : tie.Need-returns-then-i-eq0
returns-then-i-eq0 c = rw (eq-eqb _ 0 c.if-i-eq0.true) refl

returns-else-i-eq0 : tie.Need-returns-else-i-eq0
returns-else-i-eq0 c = rw (ne_eqb _ 0 c.if-i-eq0.false) refl

pub is_odd_fill_spec : {M : Type 1} → statement M
is_odd_fill_spec = tie.close (tie.spec returns-then-i-eq0 returns-else-i-eq0)
