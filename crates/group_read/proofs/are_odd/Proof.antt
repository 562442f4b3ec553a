use mathlib.Core.Path.{refl}
use borrow.Author.Rules.{rules}
use Rattle.group_read.proofs.are_odd.Statement.{statement}
use Rattle.group_read.proofs.are_odd.Tie as tie

is_odd-requires : tie.Need-is_odd-requires
is_odd-requires c κs = search rules

is_odd-requires-then-is_odd : tie.Need-is_odd-requires-then-is_odd
is_odd-requires-then-is_odd c κs = search rules

returns-then-is_odd : tie.Need-returns-then-is_odd
returns-then-is_odd c = rw (c.if-parity.true, ← c.is_odd.ensures, c.if-is_odd.true) c.is_odd-then-is_odd.ensures

returns-else-is_odd : tie.Need-returns-else-is_odd
returns-else-is_odd c = rw (c.if-parity.true, ← c.is_odd.ensures, c.if-is_odd.false) refl

returns-else-parity : tie.Need-returns-else-parity
returns-else-parity c = rw c.if-parity.false refl

pub are_odd_spec : {M : Type 1} → statement M
are_odd_spec = tie.close (tie.spec is_odd-requires is_odd-requires-then-is_odd returns-then-is_odd returns-else-is_odd returns-else-parity)
