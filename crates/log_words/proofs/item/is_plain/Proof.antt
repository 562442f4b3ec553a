use borrow.Author.Tests.{eq-eqb, ne_eqb}
use borrow.Author.Rules.{rules}
use Rattle.log_words.proofs.item.is_plain.Statement.{statement}
use Rattle.log_words.proofs.item.is_plain.Tie as tie

returns-then-number-eq4 : tie.Need-returns-then-number-eq4
returns-then-number-eq4 c =
    rw (eq-eqb _ 4 c.if-number-eq4.true)

returns-else-number-eq4 : tie.Need-returns-else-number-eq4
returns-else-number-eq4 c =
    rw (ne_eqb _ 4 c.if-number-eq4.false)

pub is_plain_spec : {M : Type 1} → statement M
is_plain_spec = tie.close (tie.spec returns-then-number-eq4 returns-else-number-eq4)
