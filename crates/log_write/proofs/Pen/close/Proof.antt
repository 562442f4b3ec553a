use Rattle.log_write.specs.Pen.{closed_size, closed_in}
use mathlib.Core.Path.{refl}
use borrow.Author.Rules.{rules}
use Rattle.log_write.proofs.Pen.close.Statement.{statement}
use Rattle.log_write.proofs.Pen.close.Tie as tie
use Rattle.log_write.proofs.Pen.close.Reads as reads
use Rattle.log_write.proofs.Pen.close.Lts as lts
use Rattle.log_write.proofs.Pen.put.Reads as put_reads

put-requires : tie.Need-put-requires
put-requires c κs = search rules

overflow_add-result : tie.Need-overflow_add-result
overflow_add-result c = search rules

shape_of-out : tie.Need-shape_of-out
shape_of-out c = search rules

returns : tie.Need-returns
unfolding closed_size closed_in
returns c = (refl, c.put.ensures.1)

pub close_spec : {M : Type 1} → statement M
close_spec = tie.close (tie.spec put-requires overflow_add-result shape_of-out returns)
