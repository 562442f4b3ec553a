use borrow.Author.Rules.{rules}
use Rattle.group_read.proofs.parity_number.Statement.{statement}
use Rattle.group_read.proofs.parity_number.Tie as tie

is_odd-requires : tie.Need-is_odd-requires
is_odd-requires c κs = search rules

returns-then-is_odd : tie.Need-returns-then-is_odd
returns-then-is_odd c = rw (c.if-parity.true, ← c.is_odd.ensures, c.if-is_odd.true)

returns-else-is_odd : tie.Need-returns-else-is_odd
returns-else-is_odd c = rw (c.if-parity.true, ← c.is_odd.ensures, c.if-is_odd.false)

returns-else-parity : tie.Need-returns-else-parity
returns-else-parity c = rw c.if-parity.false

pub parity_number_spec : {M : Type 1} → statement M
parity_number_spec = tie.close (tie.spec is_odd-requires returns-then-is_odd returns-else-is_odd returns-else-parity)
