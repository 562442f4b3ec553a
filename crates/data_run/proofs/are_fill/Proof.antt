use borrow.Author.Tests.{eq-eqb, ne_eqb}
use mathlib.Core.Path.{refl}
use Rattle.data_run.proofs.are_fill.Statement.{statement}
use Rattle.data_run.proofs.are_fill.Tie as tie

returns-then-one-blank : tie.Need-returns-then-one-blank
returns-then-one-blank c = rw (ne_eqb _ _ c.if-one-blank.true) refl

returns-then-two-blank : tie.Need-returns-then-two-blank
returns-then-two-blank c = rw (eq-eqb _ _ c.if-one-blank.false, ne_eqb _ _ c.if-two-blank.true) refl

returns-then-three-blank : tie.Need-returns-then-three-blank
returns-then-three-blank c = rw (eq-eqb _ _ c.if-one-blank.false, eq-eqb _ _ c.if-two-blank.false, ne_eqb _ _ c.if-three-blank.true) refl

returns : tie.Need-returns
returns c = rw (eq-eqb _ _ c.if-one-blank.false, eq-eqb _ _ c.if-two-blank.false, eq-eqb _ _ c.if-three-blank.false) refl

pub are_fill_spec : {M : Type 1} → statement M
are_fill_spec = tie.close (tie.spec returns-then-one-blank returns-then-two-blank returns-then-three-blank returns)
