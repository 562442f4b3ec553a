use mathlib.Core.Path.{refl}
use borrow.Author.Rules.{rules}
use Rattle.stream_state.proofs.ended.Statement.{statement}
use Rattle.stream_state.proofs.ended.Tie as tie
use Rattle.stream_state.proofs.ended.Reads as reads
use Rattle.stream_state.proofs.ended.Lts as lts
use Rattle.stream_state.proofs.no_stand.Reads as no-stand-reads

no_stand-requires : tie.Need-no_stand-requires
no_stand-requires c κs = search rules

returns : tie.Need-returns
returns c = rw c.no_stand.ensures refl

pub ended_spec : {M : Type 1} → statement M
ended_spec = tie.close (tie.spec no_stand-requires returns)
