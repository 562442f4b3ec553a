use borrow.Author.Tests.{lt-leb}
use mathlib.Core.Path.{refl}
use Rattle.log_write.specs.Pen.{eight_in}
use borrow.Author.Rules.{rules}
use Rattle.log_write.proofs.put_eight.Statement.{statement}
use Rattle.log_write.proofs.put_eight.Tie as tie
use Rattle.log_write.proofs.put_eight.Reads as reads
use Rattle.log_write.proofs.put_eight.Lts as lts
use Rattle.log_write.proofs.set_eight.Reads as set-eight-reads

overflow_add-at : tie.Need-overflow_add-at
overflow_add-at c = search rules

set_eight-requires : tie.Need-set_eight-requires
set_eight-requires c κs = search rules

shape_of-out : tie.Need-shape_of-out
shape_of-out c = search rules

returns-then-at-out : tie.Need-returns-then-at-out
returns-then-at-out c = search rules

returns-else-at-out : tie.Need-returns-else-at-out
unfolding eight_in
returns-else-at-out c = rw (lt-leb _ _ c.if-at-out.false) refl

pub put_eight_spec : {M : Type 1} → statement M
put_eight_spec = tie.close (tie.spec overflow_add-at set_eight-requires shape_of-out returns-then-at-out returns-else-at-out)
