use borrow.Author.Tests.{eq-eqb, ne_eqb}
use borrow.Author.Rules.{rules}
use Rattle.stream_state.proofs.one_used.Statement.{statement}
use Rattle.stream_state.proofs.one_used.Tie as tie
use Rattle.stream_state.proofs.one_used.Reads as reads
use Rattle.stream_state.proofs.one_used.Lts as lts

returns-then-number-eq0 : tie.Need-returns-then-number-eq0
returns-then-number-eq0 c = rw (eq-eqb _ _ c.if-number-eq0.true)

returns-else-number-eq0 : tie.Need-returns-else-number-eq0
returns-else-number-eq0 c = rw (ne_eqb _ _ c.if-number-eq0.false)

pub one_used_spec : {M : Type 1} → statement M
one_used_spec = tie.close (tie.spec returns-then-number-eq0 returns-else-number-eq0)
