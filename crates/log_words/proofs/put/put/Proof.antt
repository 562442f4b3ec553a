use Rattle.log_words.proofs.Row.{one_written}
use mathlib.Core.Path.{refl}
use native.Mathlib.Omega.{arith}
use borrow.Author.Rules.{rules}
use Rattle.log_words.proofs.put.put.Statement.{statement}
use Rattle.log_words.proofs.put.put.Tie as tie

offset_bounds-words-count : tie.Need-offset_bounds-words-count
offset_bounds-words-count c = search rules

bounds-words-count : tie.Need-bounds-words-count
bounds-words-count c = search rules

overflow_add-result : tie.Need-overflow_add-result
overflow_add-result c = search rules

shape_of-words : tie.Need-shape_of-words
shape_of-words c = search rules

returns : tie.Need-returns
returns c =
    record { next = refl; is = one_written c.args.count c.args.word c.args.words.now (omega arith) }

pub put_spec : {M : Type 1} → statement M
put_spec = tie.close (tie.spec offset_bounds-words-count bounds-words-count overflow_add-result shape_of-words returns)
