use mathlib.Core.Path.{refl}
use borrow.Author.Rules.{rules}
use Rattle.log_events.proofs.refusals.first_of.Statement.{statement}
use Rattle.log_events.proofs.refusals.first_of.Tie as tie

returns-then-bounded : tie.Need-returns-then-bounded
returns-then-bounded c = rw c.if-bounded.true refl

enum_told-1 : tie.Need-enum_told-1
enum_told-1 c = search rules

enum_known-mark : tie.Need-enum_known-mark
enum_known-mark c = search rules

returns-in-May : tie.Need-returns-in-May
returns-in-May c = rw (c.if-bounded.false, c.in-May.is) refl

returns-in-Not : tie.Need-returns-in-Not
returns-in-Not c = rw (c.if-bounded.false, c.in-Not.is) refl

pub first_of_spec : {M : Type 1} → statement M
first_of_spec = tie.close (tie.spec returns-then-bounded enum_told-1 enum_known-mark returns-in-May returns-in-Not)
