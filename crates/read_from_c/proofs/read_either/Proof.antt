use borrow.Author.Rules.{rules}
use Rattle.read_from_c.proofs.read_either.Statement.{statement}
use Rattle.read_from_c.proofs.read_either.Tie as tie

read_closed-requires : tie.Need-read_closed-requires
read_closed-requires c κs = search rules

shape_of-log-then-closed : tie.Need-shape_of-log-then-closed
shape_of-log-then-closed c = search rules

shape_of-times-then-closed : tie.Need-shape_of-times-then-closed
shape_of-times-then-closed c = search rules

returns-then-closed : tie.Need-returns-then-closed
returns-then-closed c = rw c.if-closed.true c.read_closed.ensures

read-requires : tie.Need-read-requires
read-requires c κs = search rules

shape_of-log : tie.Need-shape_of-log
shape_of-log c = search rules

shape_of-times : tie.Need-shape_of-times
shape_of-times c = search rules

returns : tie.Need-returns
returns c = rw c.if-closed.false c.read.ensures

pub read_either_spec : {M : Type 1} → statement M
read_either_spec =
    tie.close
    (tie.spec
    read_closed-requires
    shape_of-log-then-closed
    shape_of-times-then-closed
    returns-then-closed
    read-requires
    shape_of-log
    shape_of-times
    returns)
