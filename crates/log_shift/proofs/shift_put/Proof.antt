use mathlib.Core.Path.{subst}
use lib.ListN.{length}
use Rattle.log_put.specs.declared.Put.{Put}
use Rattle.log_close.specs.Made.{Finishable}
use Rattle.log_shift.proofs.Shifting.{put_all, put_fault}
use mir.Facts.{to_z-of_z}
use borrow.Author.Rules.{rules}
use Rattle.log_shift.proofs.shift_put.Statement.{statement}
use Rattle.log_shift.proofs.shift_put.Tie as tie
use Rattle.log_shift.proofs.shift_put.Reads as reads
use Rattle.log_shift.proofs.shift_put.Lts as lts
use Rattle.log_close.proofs.refusal.Reads as refusal-reads
use Rattle.log_shift.proofs.shift_row.Reads as shift-row-reads

abbrev all : tie.After-shift_row-arg-in-All-2-1 → tie.In-All
all c = c.before.before.before

abbrev start : tie.In-All → tie.Start
start c = c.before.before.before.before

enum_known-put : tie.Need-enum_known-put
enum_known-put c = search rules

shift_row-requires : tie.Need-shift_row-requires
shift_row-requires c κs =
    let s = start (all c) in
    (rw (to_z-of_z s.ranges.by) s.requires.0, subst (λ (q : Put). Finishable q (length s.args.built.now)) (all c).in-All.is s.requires.1)

enum_known-put-in-Fault-1 : tie.Need-enum_known-put-in-Fault-1
enum_known-put-in-Fault-1 c = search rules

refusal-requires : tie.Need-refusal-requires
refusal-requires c κs = search rules

shape_of-times : tie.Need-shape_of-times
shape_of-times c = search rules

shape_of-out : tie.Need-shape_of-out
shape_of-out c = search rules

shape_of-built : tie.Need-shape_of-built
shape_of-built c = search rules

returns-in-All : tie.Need-returns-in-All
returns-in-All c =
    let r = c.before.before.before.before.before.before in
    let p = all r.before in
    let shifts = rw (to_z-of_z (start p).ranges.by) at r.shift_row.ensures in
    λ row most stands. put_all (start p).args.by row most _ _ _ _ _ _ _ _ _ stands p.in-All.is shifts

returns-in-Fault : tie.Need-returns-in-Fault
returns-in-Fault c =
    let p = c.before in
    let by = p.args.by in
    λ row most stands. put_fault by row most _ _ _ _ _ _ _ _ stands p.in-Fault.is c.refusal.ensures

pub shift_put_spec : {M : Type 1} → statement M
shift_put_spec =
    tie.close
    (tie.spec
    enum_known-put
    shift_row-requires
    enum_known-put-in-Fault-1
    refusal-requires
    shape_of-times
    shape_of-out
    shape_of-built
    returns-in-All
    returns-in-Fault)
