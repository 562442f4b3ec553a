use borrow.Author.Rules.{rules}
use mathlib.Core.Path.{refl}
use Rattle.salvage_groups.proofs.start_walk.Statement.{statement}
use Rattle.salvage_groups.proofs.start_walk.Tie as tie
use Rattle.salvage_groups.proofs.start_walk.Reads as reads
use Rattle.salvage_groups.proofs.start_walk.Lts as lts
use Rattle.salvage_run.proofs.start_pass.Reads as start-pass-reads

start_pass-requires : tie.Need-start_pass-requires
start_pass-requires c κs = search rules

returns : tie.Need-returns
returns c = rw c.start_pass.ensures refl

pub start_walk_spec : {M : Type 1} → statement M
start_walk_spec = tie.close (tie.spec start_pass-requires returns)
