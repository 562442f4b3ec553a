use mathlib.Core.Path.{refl}
use Rattle.from_c.proofs.both.Statement.{statement}
use Rattle.from_c.proofs.both.Tie as tie

returns-then-a : tie.Need-returns-then-a
returns-then-a c = rw c.if-a.true refl

returns-else-a : tie.Need-returns-else-a
returns-else-a c = rw c.if-a.false refl

pub both_spec : {M : Type 1} → statement M
both_spec = tie.close (tie.spec returns-then-a returns-else-a)
