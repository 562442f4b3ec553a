use Rattle.group_read.proofs.Search.{check_word_low}
use borrow.Author.Tests.{eq-eqb, ne_eqb}
use borrow.Author.Rules.{rules}
use Rattle.group_read.proofs.check_number.Statement.{statement}
use Rattle.group_read.proofs.check_number.Tie as tie

join-requires : tie.Need-join-requires
join-requires c κs = search rules

sent-requires : tie.Need-sent-requires
sent-requires c κs = rw c.join.ensures (check_word_low c.args.label c.args.check c.requires.0 c.requires.1)

returns-then-word-sent : tie.Need-returns-then-word-sent
returns-then-word-sent c = rw (← c.join.ensures, ← c.sent.ensures, eq-eqb _ _ c.if-word-sent.true)

returns-else-word-sent : tie.Need-returns-else-word-sent
returns-else-word-sent c = rw (← c.join.ensures, ← c.sent.ensures, ne_eqb _ _ c.if-word-sent.false)

pub check_number_spec : {M : Type 1} → statement M
check_number_spec = tie.close (tie.spec join-requires sent-requires returns-then-word-sent returns-else-word-sent)
