use mathlib.Core.Path.{refl}
use borrow.Author.Rules.{rules}
use Rattle.word.proofs.high_label.Statement.{statement}
use Rattle.word.proofs.high_label.Tie as tie

overflow_mul-result : tie.Need-overflow_mul-result
overflow_mul-result c = search rules

overflow_add-result : tie.Need-overflow_add-result
overflow_add-result c = search rules

returns : tie.Need-returns
returns c = refl

pub high_label_spec : {M : Type 1} → statement M
high_label_spec = tie.close (tie.spec overflow_mul-result overflow_add-result returns)
