use borrow.Author.Rules.{rules}
use Rattle.vinculampe.proofs.split.vin_read_words.Statement.{statement}
use Rattle.vinculampe.proofs.split.vin_read_words.Tie as tie

words_from-requires : tie.Need-words_from-requires
words_from-requires c κs = search rules

shape_of-words_out : tie.Need-shape_of-words_out
shape_of-words_out c = search rules

shape_of-times : tie.Need-shape_of-times
shape_of-times c = search rules

returns : tie.Need-returns
returns c = c.words_from.ensures

pub vin_read_words_spec : {M : Type 1} → statement M
vin_read_words_spec = tie.close (tie.spec words_from-requires shape_of-words_out shape_of-times returns)
