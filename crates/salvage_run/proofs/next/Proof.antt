use mathlib.Core.Path.{refl}
use Rattle.salvage_run.proofs.next.Statement.{statement}
use Rattle.salvage_run.proofs.next.Tie as tie

returns : tie.Need-returns
returns c = refl

pub next_spec : {M : Type 1} → statement M
next_spec = tie.close (tie.spec returns)
