use Rattle.format.specs.Lists.{text, list}
use borrow.Author.Rules.{rules}
use Rattle.log_text.proofs.side_letter.Statement.{statement}
use Rattle.log_text.proofs.side_letter.Tie as tie
use Rattle.log_text.proofs.side_letter.Reads as reads
use Rattle.log_text.proofs.side_letter.Lts as lts

returns-then-second : tie.Need-returns-then-second
unfolding text list
returns-then-second c = rw c.if-second.true

returns-else-second : tie.Need-returns-else-second
unfolding text list
returns-else-second c = rw c.if-second.false

pub side_letter_spec : {M : Type 1} → statement M
side_letter_spec = tie.close (tie.spec returns-then-second returns-else-second)
