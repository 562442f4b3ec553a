use mathlib.Core.Path.{refl}
use Rattle.format.specs.Word.{sync}
use Rattle.word.proofs.sync.Statement.{statement}
use Rattle.word.proofs.sync.Tie as tie

returns : tie.Need-returns
unfolding sync
returns c = refl

pub sync_spec : {M : Type 1} → statement M
sync_spec = tie.close (tie.spec returns)
