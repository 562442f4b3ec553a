use mathlib.Core.Path.{refl}
use Rattle.format.specs.Word.{word_of}
use borrow.Author.Rules.{rules}
use Rattle.stream_state.proofs.word.Statement.{statement}
use Rattle.stream_state.proofs.word.Tie as tie
use Rattle.stream_state.proofs.word.Reads as reads
use Rattle.stream_state.proofs.word.Lts as lts

overflow_mul-result : tie.Need-overflow_mul-result
overflow_mul-result c = search rules

overflow_mul-result-2 : tie.Need-overflow_mul-result-2
overflow_mul-result-2 c = search rules

overflow_add-result : tie.Need-overflow_add-result
overflow_add-result c = search rules

overflow_add-result-2 : tie.Need-overflow_add-result-2
overflow_add-result-2 c = search rules

returns : tie.Need-returns
unfolding word_of
returns c = refl

pub word_spec : {M : Type 1} → statement M
word_spec = tie.close (tie.spec overflow_mul-result overflow_mul-result-2 overflow_add-result overflow_add-result-2 returns)
