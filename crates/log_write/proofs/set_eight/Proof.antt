use Rattle.log_write.specs.Pen.{eight_in}
use Rattle.log_write.proofs.Writing.{eight_sets}
use native.Mathlib.Omega.{arith}
use lib.ListN.{length-set}
use borrow.Author.Tests.{le-leb}
use borrow.Author.Rules.{rules}
use Rattle.log_write.proofs.set_eight.Statement.{statement}
use Rattle.log_write.proofs.set_eight.Tie as tie
use Rattle.log_write.proofs.set_eight.Reads as reads
use Rattle.log_write.proofs.set_eight.Lts as lts

overflow_cast-out : tie.Need-overflow_cast-out
overflow_cast-out c = search rules

bounds-out-at : tie.Need-bounds-out-at
bounds-out-at c = search rules

overflow_cast-out-2 : tie.Need-overflow_cast-out-2
overflow_cast-out-2 c = search rules

overflow_add-out : tie.Need-overflow_add-out
overflow_add-out c = search rules

bounds-out-at-2 : tie.Need-bounds-out-at-2
bounds-out-at-2 c = simp length-set (omega arith)

overflow_cast-out-3 : tie.Need-overflow_cast-out-3
overflow_cast-out-3 c = search rules

overflow_add-out-2 : tie.Need-overflow_add-out-2
overflow_add-out-2 c = search rules

bounds-out-at-3 : tie.Need-bounds-out-at-3
bounds-out-at-3 c = simp length-set (omega arith)

overflow_cast-out-4 : tie.Need-overflow_cast-out-4
overflow_cast-out-4 c = search rules

overflow_add-out-3 : tie.Need-overflow_add-out-3
overflow_add-out-3 c = search rules

bounds-out-at-4 : tie.Need-bounds-out-at-4
bounds-out-at-4 c = simp length-set (omega arith)

overflow_cast-out-5 : tie.Need-overflow_cast-out-5
overflow_cast-out-5 c = search rules

overflow_add-out-4 : tie.Need-overflow_add-out-4
overflow_add-out-4 c = search rules

bounds-out-at-5 : tie.Need-bounds-out-at-5
bounds-out-at-5 c = simp length-set (omega arith)

overflow_cast-out-6 : tie.Need-overflow_cast-out-6
overflow_cast-out-6 c = search rules

overflow_add-out-5 : tie.Need-overflow_add-out-5
overflow_add-out-5 c = search rules

bounds-out-at-6 : tie.Need-bounds-out-at-6
bounds-out-at-6 c = simp length-set (omega arith)

overflow_cast-out-7 : tie.Need-overflow_cast-out-7
overflow_cast-out-7 c = search rules

overflow_add-out-6 : tie.Need-overflow_add-out-6
overflow_add-out-6 c = search rules

bounds-out-at-7 : tie.Need-bounds-out-at-7
bounds-out-at-7 c = simp length-set (omega arith)

overflow_cast-out-8 : tie.Need-overflow_cast-out-8
overflow_cast-out-8 c = search rules

overflow_add-out-7 : tie.Need-overflow_add-out-7
overflow_add-out-7 c = search rules

bounds-out-at-8 : tie.Need-bounds-out-at-8
bounds-out-at-8 c = simp length-set (omega arith)

shape_of-out : tie.Need-shape_of-out
shape_of-out c = simp length-set

returns : tie.Need-returns
unfolding eight_in
returns c = rw (le-leb _ _ c.requires) (eight_sets c.args.out.now c.args.at c.args.w c.requires)

pub set_eight_spec : {M : Type 1} → statement M
set_eight_spec =
    tie.close
    (tie.spec
    overflow_cast-out
    bounds-out-at
    overflow_cast-out-2
    overflow_add-out
    bounds-out-at-2
    overflow_cast-out-3
    overflow_add-out-2
    bounds-out-at-3
    overflow_cast-out-4
    overflow_add-out-3
    bounds-out-at-4
    overflow_cast-out-5
    overflow_add-out-4
    bounds-out-at-5
    overflow_cast-out-6
    overflow_add-out-5
    bounds-out-at-6
    overflow_cast-out-7
    overflow_add-out-6
    bounds-out-at-7
    overflow_cast-out-8
    overflow_add-out-7
    bounds-out-at-8
    shape_of-out
    returns)
