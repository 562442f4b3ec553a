use borrow.Author.Rules.{rules}
use Rattle.data_start.proofs.ends.Statement.{statement}
use Rattle.data_start.proofs.ends.Tie as tie

nothing-requires : tie.Need-nothing-requires
nothing-requires c κs = search rules

returns : tie.Need-returns
returns c = rw c.nothing.ensures

pub ends_spec : {M : Type 1} → statement M
ends_spec = tie.close (tie.spec nothing-requires returns)
