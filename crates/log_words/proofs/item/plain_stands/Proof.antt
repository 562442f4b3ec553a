use borrow.Author.Tests.{lt-ltb, le-ltb}
use borrow.Author.Rules.{rules}
use Rattle.log_words.proofs.item.plain_stands.Statement.{statement}
use Rattle.log_words.proofs.item.plain_stands.Tie as tie

is_1553-requires : tie.Need-is_1553-requires
is_1553-requires c κs = search rules

returns-then-number-lt7 : tie.Need-returns-then-number-lt7
returns-then-number-lt7 c =
    rw (lt-ltb _ 7 c.if-number-lt7.true) c.is_1553.ensures

is_used-requires : tie.Need-is_used-requires
is_used-requires c κs = search rules

returns : tie.Need-returns
returns c =
    rw (le-ltb _ 7 c.if-number-lt7.false) c.is_used.ensures

pub plain_stands_spec : {M : Type 1} → statement M
plain_stands_spec = tie.close (tie.spec is_1553-requires returns-then-number-lt7 is_used-requires returns)
