use native.Mathlib.Omega.{arith}
use Rattle.log_write.specs.Pen.{pen_put, pen_in}
use Rattle.log_write.proofs.Writing.{joined_low}
use mathlib.Core.Path.{refl}
use borrow.Author.Rules.{rules}
use Rattle.log_write.proofs.Pen.put.Statement.{statement}
use Rattle.log_write.proofs.Pen.put.Tie as tie
use Rattle.log_write.proofs.Pen.put.Reads as reads
use Rattle.log_write.proofs.Pen.put.Lts as lts
use Rattle.log_write.proofs.put_eight.Reads as put-eight-reads

overflow_shl-last : tie.Need-overflow_shl-last
overflow_shl-last c = search rules

overflow_add-last : tie.Need-overflow_add-last
overflow_add-last c = omega (arith, joined_low c.args.self c.args.value c.args.width c.requires.1 c.requires.2)

overflow_cast-part : tie.Need-overflow_cast-part
overflow_cast-part c = search rules

overflow_add-part : tie.Need-overflow_add-part
overflow_add-part c = search rules

overflow_sub-part : tie.Need-overflow_sub-part
overflow_sub-part c = search rules

overflow_cast-part-2 : tie.Need-overflow_cast-part-2
overflow_cast-part-2 c = search rules

overflow_shl-last-2 : tie.Need-overflow_shl-last-2
overflow_shl-last-2 c = search rules

put_eight-requires : tie.Need-put_eight-requires
put_eight-requires c κs = search rules

overflow_add-result : tie.Need-overflow_add-result
overflow_add-result c = search rules

shape_of-out : tie.Need-shape_of-out
shape_of-out c = search rules

returns : tie.Need-returns
unfolding pen_put pen_in
returns c = (refl, c.put_eight.ensures)

pub put_spec : {M : Type 1} → statement M
put_spec =
    tie.close
    (tie.spec
    overflow_shl-last
    overflow_add-last
    overflow_cast-part
    overflow_add-part
    overflow_sub-part
    overflow_cast-part-2
    overflow_shl-last-2
    put_eight-requires
    overflow_add-result
    shape_of-out
    returns)
