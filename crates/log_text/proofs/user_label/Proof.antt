use Rattle.format.specs.Listing.{decimal, decimal_in}
use borrow.Author.Rules.{rules}
use Rattle.log_text.proofs.user_label.Statement.{statement}
use Rattle.log_text.proofs.user_label.Tie as tie
use Rattle.log_text.proofs.user_label.Reads as reads
use Rattle.log_text.proofs.user_label.Lts as lts

returns-then-three : tie.Need-returns-then-three
unfolding decimal decimal_in
returns-then-three c = rw c.if-three.true

returns-else-three : tie.Need-returns-else-three
unfolding decimal decimal_in
returns-else-three c = rw c.if-three.false

pub user_label_spec : {M : Type 1} → statement M
user_label_spec = tie.close (tie.spec returns-then-three returns-else-three)
