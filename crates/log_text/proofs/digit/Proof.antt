use borrow.Author.Tests.{lt-ltb, le-ltb}
use borrow.Author.Rules.{rules}
use Rattle.log_text.proofs.digit.Statement.{statement}
use Rattle.log_text.proofs.digit.Tie as tie
use Rattle.log_text.proofs.digit.Reads as reads
use Rattle.log_text.proofs.digit.Lts as lts

overflow_cast-result : tie.Need-overflow_cast-result
overflow_cast-result c = search rules

overflow_add-result : tie.Need-overflow_add-result
overflow_add-result c = search rules

overflow_cast-result-else-n-lt10 : tie.Need-overflow_cast-result-else-n-lt10
overflow_cast-result-else-n-lt10 c = search rules

overflow_add-result-else-n-lt10 : tie.Need-overflow_add-result-else-n-lt10
overflow_add-result-else-n-lt10 c = search rules

returns-then-n-lt10 : tie.Need-returns-then-n-lt10
returns-then-n-lt10 c = rw (lt-ltb _ _ c.if-n-lt10.true)

returns-else-n-lt10 : tie.Need-returns-else-n-lt10
returns-else-n-lt10 c = rw (le-ltb _ _ c.if-n-lt10.false)

pub digit_spec : {M : Type 1} → statement M
digit_spec =
    tie.close (tie.spec overflow_cast-result overflow_add-result overflow_cast-result-else-n-lt10 overflow_add-result-else-n-lt10 returns-then-n-lt10 returns-else-n-lt10)
