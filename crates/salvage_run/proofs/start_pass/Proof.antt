use borrow.Author.Rules.{rules}
use mathlib.Core.Path.{refl}
use Rattle.salvage_run.proofs.start_pass.Statement.{statement}
use Rattle.salvage_run.proofs.start_pass.Tie as tie
use Rattle.salvage_run.proofs.start_pass.Reads as reads
use Rattle.salvage_run.proofs.start_pass.Lts as lts
use Rattle.data_start.proofs.nothing.Reads as nothing-reads
use Rattle.log_write.proofs.Pen.start.Reads as start-reads

nothing-requires : tie.Need-nothing-requires
nothing-requires c κs = search rules

start-requires : tie.Need-start-requires
start-requires c κs = search rules

returns : tie.Need-returns
returns c = rw (c.nothing.ensures, c.start.ensures) refl

pub start_pass_spec : {M : Type 1} → statement M
start_pass_spec = tie.close (tie.spec nothing-requires start-requires returns)
