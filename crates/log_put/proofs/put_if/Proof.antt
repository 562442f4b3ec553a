use Rattle.log_put.proofs.Putting.{picked_yes, picked_no}
use native.Mathlib.Omega.{arith}
use borrow.Author.Rules.{rules}
use Rattle.log_put.proofs.put_if.Statement.{statement}
use Rattle.log_put.proofs.put_if.Tie as tie
use Rattle.log_put.proofs.put_if.Reads as reads
use Rattle.log_put.proofs.put_if.Lts as lts
use Rattle.log_put.proofs.in_set.Reads as in-set-reads
use Rattle.log_put.proofs.put_packed.Reads as put-packed-reads
use Rattle.log_walk.proofs.bus_in.Reads as bus-in-reads

bus_in-requires : tie.Need-bus_in-requires
bus_in-requires c κs = let f = c.requires.1 in (omega (arith, f.first_many), f.first_few)

in_set-requires : tie.Need-in_set-requires
in_set-requires c κs = search rules

put_packed-requires : tie.Need-put_packed-requires
put_packed-requires c κs = c.requires

shape_of-built-then-in_set : tie.Need-shape_of-built-then-in_set
shape_of-built-then-in_set c = search rules

returns-then-in_set : tie.Need-returns-then-in_set
returns-then-in_set c =
    let t = c.before.before.before.before in
    let s = t.before.before.before.before in
    picked_yes s.args.buses _ s.args.item t.bus_in.ensures.0 t.in_set.ensures t.if-in_set.true c.put_packed.ensures

returns : tie.Need-returns
returns c = picked_no c.args.buses _ c.args.item _ _ c.bus_in.ensures.0 c.in_set.ensures c.if-in_set.false

pub put_if_spec : {M : Type 1} → statement M
put_if_spec =
    tie.close
    (tie.spec bus_in-requires in_set-requires put_packed-requires shape_of-built-then-in_set returns-then-in_set returns)
