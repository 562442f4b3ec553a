use mathlib.Core.Path.{refl}
use borrow.Author.Rules.{rules}
use Rattle.data_run.proofs.fill.on_fill.Statement.{statement}
use Rattle.data_run.proofs.fill.on_fill.Tie as tie

or_place-first-requires : tie.Need-or_place-first-requires
or_place-first-requires c κs = search rules

or_place-requires : tie.Need-or_place-requires
or_place-requires c κs = search rules

returns-then-odd : tie.Need-returns-then-odd
returns-then-odd c = rw (c.or_place-first.ensures, c.or_place.ensures, c.if-odd.true) refl

returns : tie.Need-returns
returns c = rw (c.or_place-first.ensures, c.if-odd.false) refl

pub on_fill_spec : {M : Type 1} → statement M
on_fill_spec = tie.close (tie.spec or_place-first-requires or_place-requires returns-then-odd returns)
