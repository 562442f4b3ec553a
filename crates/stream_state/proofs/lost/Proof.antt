use mathlib.Core.Path.{refl}
use borrow.Author.Rules.{rules}
use Rattle.stream_state.proofs.lost.Statement.{statement}
use Rattle.stream_state.proofs.lost.Tie as tie
use Rattle.stream_state.proofs.lost.Reads as reads
use Rattle.stream_state.proofs.lost.Lts as lts
use Rattle.data_start.proofs.nothing.Reads as nothing-reads

nothing-requires : tie.Need-nothing-requires
nothing-requires c κs = search rules

returns : tie.Need-returns
returns c = rw c.nothing.ensures refl

pub lost_spec : {M : Type 1} → statement M
lost_spec = tie.close (tie.spec nothing-requires returns)
