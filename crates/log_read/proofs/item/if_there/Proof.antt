use lib.ListN.{length}
use native.Mathlib.Omega.{arith}
use borrow.Author.Tests.{le-leb, lt-leb}
use borrow.Author.Rules.{rules}
use Rattle.log_read.proofs.item.if_there.Statement.{statement}
use Rattle.log_read.proofs.item.if_there.Tie as tie

returns-then-total-behind : tie.Need-returns-then-total-behind
returns-then-total-behind c =
    λ s e. rw (lt-leb c.args.behind (length s) (omega (arith, e)))

returns : tie.Need-returns
returns c =
    λ s e. rw (le-leb c.args.behind (length s) (omega (arith, e)))

pub if_there_spec : {M : Type 1} → statement M
if_there_spec = tie.close (tie.spec returns-then-total-behind returns)
