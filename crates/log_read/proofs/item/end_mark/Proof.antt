use borrow.Author.Rules.{rules}
use Rattle.log_read.proofs.item.end_mark.Statement.{statement}
use Rattle.log_read.proofs.item.end_mark.Tie as tie

ends-requires : tie.Need-ends-requires
ends-requires c κs = search rules

returns-then-ends : tie.Need-returns-then-ends
returns-then-ends c =
    rw (← c.ends.ensures, c.if-ends.true)

returns : tie.Need-returns
returns c =
    rw (← c.ends.ensures, c.if-ends.false)

pub end_mark_spec : {M : Type 1} → statement M
end_mark_spec = tie.close (tie.spec ends-requires returns-then-ends returns)
