use mathlib.Core.Path.{refl}
use Rattle.data_items.proofs.tops_of.Statement.{statement}
use Rattle.data_items.proofs.tops_of.Tie as tie

returns-then-parity : tie.Need-returns-then-parity
returns-then-parity c = rw c.if-parity.true refl

returns-else-parity : tie.Need-returns-else-parity
returns-else-parity c = rw c.if-parity.false refl

pub tops_of_spec : {M : Type 1} → statement M
tops_of_spec = tie.close (tie.spec returns-then-parity returns-else-parity)
