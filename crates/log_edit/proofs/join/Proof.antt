use Rattle.log_edit.proofs.Joining.{bad, good, join_first}
use Rattle.format.specs.Laws.Word.Bytes.{all_bytes}
use native.Mathlib.Omega.{arith}
use borrow.Author.Rules.{rules}
use Rattle.log_edit.proofs.join.Statement.{statement}
use Rattle.log_edit.proofs.join.Tie as tie
use Rattle.log_edit.proofs.join.Reads as reads
use Rattle.log_edit.proofs.join.Lts as lts
use Rattle.log_close.proofs.refusal.Reads as refusal-reads
use Rattle.log_edit.proofs.join_second.Reads as join-second-reads
use Rattle.log_pass.proofs.pass.Reads as pass-reads

pass-requires : tie.Need-pass-requires
pass-requires c κs = search rules

enum_known-one : tie.Need-enum_known-one
enum_known-one c = search rules

join_second-requires : tie.Need-join_second-requires
join_second-requires c κs = let log = c.args.first.now in
    good log _ _ (all_bytes log (λ i. omega (arith, c.shared_slice_known-1.given i)))
    c.pass.ensures c.in-All.is

enum_known-number : tie.Need-enum_known-number
enum_known-number c = search rules

refusal-requires : tie.Need-refusal-requires
refusal-requires c κs = search rules

shape_of-out : tie.Need-shape_of-out
shape_of-out c = search rules

returns-in-All : tie.Need-returns-in-All
returns-in-All c = c.join_second.ensures

returns-in-Fault : tie.Need-returns-in-Fault
returns-in-Fault c = let a = c.args in
    join_first a.first.now a.second.now _ _ _ a.out.now (bad a.first.now _ _ _ c.pass.ensures
    c.in-Fault.is) c.refusal.ensures

pub join_spec : {M : Type 1} → statement M
join_spec =
    tie.close
    (tie.spec
    pass-requires
    enum_known-one
    join_second-requires
    enum_known-number
    refusal-requires
    shape_of-out
    returns-in-All
    returns-in-Fault)
