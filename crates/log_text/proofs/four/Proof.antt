use Rattle.log_text.proofs.Adding.{adds_four}
use lib.ListN.{length-set}
use native.Mathlib.Omega.{arith}
use borrow.Author.Rules.{rules}
use Rattle.log_text.proofs.four.Statement.{statement}
use Rattle.log_text.proofs.four.Tie as tie
use Rattle.log_text.proofs.four.Reads as reads
use Rattle.log_text.proofs.four.Lts as lts

bounds-out-at : tie.Need-bounds-out-at
bounds-out-at c = search rules

overflow_add-out : tie.Need-overflow_add-out
overflow_add-out c = search rules

bounds-out-at-2 : tie.Need-bounds-out-at-2
bounds-out-at-2 c = simp length-set (omega arith)

overflow_add-out-2 : tie.Need-overflow_add-out-2
overflow_add-out-2 c = search rules

bounds-out-at-3 : tie.Need-bounds-out-at-3
bounds-out-at-3 c = simp length-set (omega arith)

overflow_add-out-3 : tie.Need-overflow_add-out-3
overflow_add-out-3 c = search rules

bounds-out-at-4 : tie.Need-bounds-out-at-4
bounds-out-at-4 c = simp length-set (omega arith)

overflow_add-result : tie.Need-overflow_add-result
overflow_add-result c = search rules

shape_of-out : tie.Need-shape_of-out
shape_of-out c = simp length-set

returns : tie.Need-returns
returns c = adds_four c.args.out.now c.args.at _ _ _ _ c.requires

pub four_spec : {M : Type 1} → statement M
four_spec =
    tie.close
    (tie.spec
    bounds-out-at
    overflow_add-out
    bounds-out-at-2
    overflow_add-out-2
    bounds-out-at-3
    overflow_add-out-3
    bounds-out-at-4
    overflow_add-result
    shape_of-out
    returns)
