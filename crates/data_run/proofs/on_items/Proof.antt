use native.Mathlib.Omega.{arith}
use mathlib.Core.Path.{refl}
use borrow.Author.Rules.{rules}
use Rattle.data_run.proofs.on_items.Statement.{statement}
use Rattle.data_run.proofs.on_items.Tie as tie

overflow_add-since : tie.Need-overflow_add-since
overflow_add-since c = omega (arith, c.requires.1)

overflow_sub-since : tie.Need-overflow_sub-since
overflow_sub-since c = omega (arith, c.requires.0)

on_data-requires : tie.Need-on_data-requires
on_data-requires c κs = search rules

returns : tie.Need-returns
returns c = rw c.on_data.ensures refl

pub on_items_spec : {M : Type 1} → statement M
on_items_spec = tie.close (tie.spec overflow_add-since overflow_sub-since on_data-requires returns)
