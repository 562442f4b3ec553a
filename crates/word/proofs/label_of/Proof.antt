use mathlib.Core.Path.{refl}
use Rattle.format.specs.Word.{label_of}
use Rattle.word.proofs.label_of.Statement.{statement}
use Rattle.word.proofs.label_of.Tie as tie

returns : tie.Need-returns
unfolding label_of
returns c = refl

pub label_of_spec : {M : Type 1} → statement M
label_of_spec = tie.close (tie.spec returns)
