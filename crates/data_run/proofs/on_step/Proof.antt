use native.Mathlib.Omega.{arith}
use mathlib.Core.Path.{refl}
use borrow.Author.Rules.{rules}
use Rattle.data_run.proofs.on_step.Statement.{statement}
use Rattle.data_run.proofs.on_step.Tie as tie

begun-since-requires : tie.Need-begun-since-requires
begun-since-requires c κs = c.requires.0.sane

overflow_add-bad : tie.Need-overflow_add-bad
overflow_add-bad c = omega (arith, c.requires.2)

returns-then-step : tie.Need-returns-then-step
returns-then-step c = (
  rw (c.if-step.true, c.begun-since.ensures) refl,
  rw c.if-step.true refl,
)

put_step-pen-requires : tie.Need-put_step-pen-requires
put_step-pen-requires c κs = (c.requires.1, (c.requires.3 c.if-step.false).0)

since-since-requires : tie.Need-since-since-requires
since-since-requires c κs = (c.requires.3 c.if-step.false).1

on_data-requires : tie.Need-on_data-requires
on_data-requires c κs = search rules

shape_of-out : tie.Need-shape_of-out
shape_of-out c = search rules

returns : tie.Need-returns
returns c = (
  rw (
    c.if-step.false,
    c.since-since.ensures,
    c.put_step-pen.ensures.0,
    c.on_data.ensures,
  ) refl,
  rw c.if-step.false
      c.put_step-pen.ensures.1,
)

pub on_step_spec : {M : Type 1} → statement M
on_step_spec =
    tie.close
    (tie.spec begun-since-requires overflow_add-bad returns-then-step put_step-pen-requires since-since-requires on_data-requires shape_of-out returns)
