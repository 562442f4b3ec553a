use Rattle.log_edit.specs.Rows.{picks_of}
use Prim.Native.Nat.{◌*◌}
use Rattle.log_edit.proofs.Rows.{picked_is, told_finishes, told_stands}
use Rattle.format.specs.Log.{on_no_plan, parsed}
use lib.ListN.{length}
use native.Mathlib.Omega.{arith}
use borrow.Author.Rules.{rules}
use Rattle.log_edit.proofs.pick_in.Statement.{statement}
use Rattle.log_edit.proofs.pick_in.Tie as tie
use Rattle.log_edit.proofs.pick_in.Reads as reads
use Rattle.log_edit.proofs.pick_in.Lts as lts
use Rattle.log_close.proofs.finish.Reads as finish-reads
use Rattle.log_put.proofs.put_items.Reads as put-items-reads

put_items-put-requires : tie.Need-put_items-put-requires
put_items-put-requires c κs = λ h. c.requires h

finish-requires : tie.Need-finish-requires
finish-requires c κs = let a = c.args in
    told_finishes (parsed on_no_plan a.log.now) a.buses (length a.log.now) _ _ _ c.put_items-put.ensures (λ h. omega
    (arith, c.requires h, c.built-1.given))

shape_of-out : tie.Need-shape_of-out
shape_of-out c = search rules

shape_of-built : tie.Need-shape_of-built
shape_of-built c = search rules

returns : tie.Need-returns
returns c = let a = c.args in
    let row = picks_of a.buses (parsed on_no_plan a.log.now) in
    let t = told_stands (parsed on_no_plan a.log.now) a.buses (length a.log.now * 8) _ _
    c.put_items-put.ensures in
    rw (picked_is a.log.now a.buses (length a.out.now)) (c.finish.ensures row (length a.log.now * 8) t)

pub pick_in_spec : {M : Type 1} → statement M
pick_in_spec = tie.close (tie.spec put_items-put-requires finish-requires shape_of-out shape_of-built returns)
