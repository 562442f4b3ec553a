use mathlib.Core.Path.{refl}
use borrow.Author.Rules.{rules}
use Rattle.format.specs.Word.{word_of}
use Rattle.word.proofs.join.Statement.{statement}
use Rattle.word.proofs.join.Tie as tie

overflow_mul-result : tie.Need-overflow_mul-result
overflow_mul-result c = search rules

overflow_mul-result-2 : tie.Need-overflow_mul-result-2
overflow_mul-result-2 c = search rules

overflow_add-result : tie.Need-overflow_add-result
overflow_add-result c = search rules

overflow_add-result-2 : tie.Need-overflow_add-result-2
overflow_add-result-2 c = search rules

returns : tie.Need-returns
unfolding word_of
returns c = refl

pub join_spec : {M : Type 1} → statement M
join_spec = tie.close (tie.spec overflow_mul-result overflow_mul-result-2 overflow_add-result overflow_add-result-2 returns)
