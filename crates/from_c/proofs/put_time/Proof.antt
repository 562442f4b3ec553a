use native.Mathlib.Omega.{arith}
use lib.ListN.{length-set}
use Rattle.from_c.specs.Numbers.{time_bytes}
use Rattle.from_c.proofs.Times.{eight_set}
use borrow.Author.Rules.{rules}
use Rattle.from_c.proofs.put_time.Statement.{statement}
use Rattle.from_c.proofs.put_time.Tie as tie

overflow_cast-bytes : tie.Need-overflow_cast-bytes
overflow_cast-bytes c = search rules

bounds-bytes-0 : tie.Need-bounds-bytes-0
bounds-bytes-0 c = search rules

overflow_cast-bytes-2 : tie.Need-overflow_cast-bytes-2
overflow_cast-bytes-2 c = search rules

bounds-bytes-1 : tie.Need-bounds-bytes-1
bounds-bytes-1 c = simp length-set (omega arith)

overflow_cast-bytes-3 : tie.Need-overflow_cast-bytes-3
overflow_cast-bytes-3 c = search rules

bounds-bytes-2 : tie.Need-bounds-bytes-2
bounds-bytes-2 c = simp length-set (omega arith)

overflow_cast-bytes-4 : tie.Need-overflow_cast-bytes-4
overflow_cast-bytes-4 c = search rules

bounds-bytes-3 : tie.Need-bounds-bytes-3
bounds-bytes-3 c = simp length-set (omega arith)

overflow_cast-bytes-5 : tie.Need-overflow_cast-bytes-5
overflow_cast-bytes-5 c = search rules

bounds-bytes-4 : tie.Need-bounds-bytes-4
bounds-bytes-4 c = simp length-set (omega arith)

overflow_cast-bytes-6 : tie.Need-overflow_cast-bytes-6
overflow_cast-bytes-6 c = search rules

bounds-bytes-5 : tie.Need-bounds-bytes-5
bounds-bytes-5 c = simp length-set (omega arith)

overflow_cast-bytes-7 : tie.Need-overflow_cast-bytes-7
overflow_cast-bytes-7 c = search rules

bounds-bytes-6 : tie.Need-bounds-bytes-6
bounds-bytes-6 c = simp length-set (omega arith)

overflow_cast-bytes-8 : tie.Need-overflow_cast-bytes-8
overflow_cast-bytes-8 c = search rules

bounds-bytes-7 : tie.Need-bounds-bytes-7
bounds-bytes-7 c = simp length-set (omega arith)

shape_of-bytes : tie.Need-shape_of-bytes
shape_of-bytes c = search rules

returns : tie.Need-returns
unfolding time_bytes
returns c = eight_set _ _ _ _ _ _ _ _ c.args.bytes.now c.requires

pub put_time_spec : {M : Type 1} → statement M
put_time_spec =
    tie.close
    (tie.spec
    overflow_cast-bytes
    bounds-bytes-0
    overflow_cast-bytes-2
    bounds-bytes-1
    overflow_cast-bytes-3
    bounds-bytes-2
    overflow_cast-bytes-4
    bounds-bytes-3
    overflow_cast-bytes-5
    bounds-bytes-4
    overflow_cast-bytes-6
    bounds-bytes-5
    overflow_cast-bytes-7
    bounds-bytes-6
    overflow_cast-bytes-8
    bounds-bytes-7
    shape_of-bytes
    returns)
