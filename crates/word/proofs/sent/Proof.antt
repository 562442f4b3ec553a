use borrow.Author.Rules.{rules}
use Rattle.format.specs.Word.{sent}
use Rattle.word.proofs.sent.Statement.{statement}
use Rattle.word.proofs.sent.Tie as tie

is_odd-requires : tie.Need-is_odd-requires
is_odd-requires c κs = search rules

overflow_add-result : tie.Need-overflow_add-result
overflow_add-result c = search rules

returns-then-is_odd : tie.Need-returns-then-is_odd
unfolding sent
returns-then-is_odd c = rw (c.if-parity.true, ← c.is_odd.ensures, c.if-is_odd.true)

returns-else-is_odd : tie.Need-returns-else-is_odd
unfolding sent
returns-else-is_odd c = rw (c.if-parity.true, ← c.is_odd.ensures, c.if-is_odd.false)

returns-else-parity : tie.Need-returns-else-parity
unfolding sent
returns-else-parity c = rw c.if-parity.false

pub sent_spec : {M : Type 1} → statement M
sent_spec = tie.close (tie.spec is_odd-requires overflow_add-result returns-then-is_odd returns-else-is_odd returns-else-parity)
