use Rattle.log_text.proofs.Adding.{adds_two}
use lib.ListN.{length-set}
use native.Mathlib.Omega.{arith}
use borrow.Author.Rules.{rules}
use Rattle.log_text.proofs.two.Statement.{statement}
use Rattle.log_text.proofs.two.Tie as tie
use Rattle.log_text.proofs.two.Reads as reads
use Rattle.log_text.proofs.two.Lts as lts

bounds-out-at : tie.Need-bounds-out-at
bounds-out-at c = search rules

overflow_add-out : tie.Need-overflow_add-out
overflow_add-out c = search rules

bounds-out-at-2 : tie.Need-bounds-out-at-2
bounds-out-at-2 c = simp length-set (omega arith)

overflow_add-result : tie.Need-overflow_add-result
overflow_add-result c = search rules

shape_of-out : tie.Need-shape_of-out
shape_of-out c = simp length-set

returns : tie.Need-returns
returns c = adds_two c.args.out.now c.args.at _ _ c.requires

pub two_spec : {M : Type 1} → statement M
two_spec =
    tie.close (tie.spec bounds-out-at overflow_add-out bounds-out-at-2 overflow_add-result shape_of-out returns)
