use Rattle.word.proofs.Stored.{word_at_is_three}
use mathlib.Core.Path.{sym, ◌∙◌}
use borrow.Author.Rules.{rules}
use Rattle.group_read.proofs.stored_word.Statement.{statement}
use Rattle.group_read.proofs.stored_word.Tie as tie

overflow_mul-place : tie.Need-overflow_mul-place
overflow_mul-place c = search rules

word_at-requires : tie.Need-word_at-requires
word_at-requires c κs = search rules

returns : tie.Need-returns
returns c = (c.word_at.ensures.0 ∙ sym (word_at_is_three _ _), c.word_at.ensures.1)

pub stored_word_spec : {M : Type 1} → statement M
stored_word_spec = tie.close (tie.spec overflow_mul-place word_at-requires returns)
