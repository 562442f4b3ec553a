use mathlib.Core.Path.{refl}
use Rattle.format.specs.Word.{info_of}
use Rattle.word.proofs.information_of.Statement.{statement}
use Rattle.word.proofs.information_of.Tie as tie

returns : tie.Need-returns
unfolding info_of
returns c = refl

pub information_of_spec : {M : Type 1} → statement M
information_of_spec = tie.close (tie.spec returns)
