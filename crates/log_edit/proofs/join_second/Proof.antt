use Rattle.log_edit.specs.Join.{Good}
use Rattle.log_edit.proofs.Joining.{bad, good, good_ends, join_good, join_second}
use Rattle.format.specs.Laws.Word.Bytes.{all_bytes}
use native.Mathlib.Omega.{arith}
use borrow.Author.Rules.{rules}
use Rattle.log_edit.proofs.join_second.Statement.{statement}
use Rattle.log_edit.proofs.join_second.Tie as tie
use Rattle.log_edit.proofs.join_second.Reads as reads
use Rattle.log_edit.proofs.join_second.Lts as lts
use Rattle.log_close.proofs.refusal.Reads as refusal-reads
use Rattle.log_edit.proofs.join_good.Reads as join-good-reads
use Rattle.log_pass.proofs.pass.Reads as pass-reads

pass-requires : tie.Need-pass-requires
pass-requires c κs = search rules

enum_known-two : tie.Need-enum_known-two
enum_known-two c = search rules

second_good : (c : tie.After-join_good-arg-1) → Good c.args.second.now c.in-All.two
second_good c =
    let log = c.args.second.now in
    good log _ _ (all_bytes log (λ i. omega (arith, c.shared_slice_known-2-1.given i)))
    c.pass.ensures c.in-All.is

join_good-requires : tie.Need-join_good-requires
join_good-requires c κs = (good_ends c.requires, good_ends (second_good c))

enum_known-number : tie.Need-enum_known-number
enum_known-number c = search rules

refusal-requires : tie.Need-refusal-requires
refusal-requires c κs = search rules

shape_of-out : tie.Need-shape_of-out
shape_of-out c = search rules

returns-in-All : tie.Need-returns-in-All
returns-in-All c = let a = c.args in
    join_good a.first.now a.second.now _ _ _ a.out.now _
    c.requires (second_good c.before.before.before)
    c.join_good.ensures

returns-in-Fault : tie.Need-returns-in-Fault
returns-in-Fault c = let a = c.args in
    join_second a.first.now a.second.now _ _ _ _ a.out.now c.requires (bad
    a.second.now _ _ _ c.pass.ensures c.in-Fault.is) c.refusal.ensures

pub join_second_spec : {M : Type 1} → statement M
join_second_spec =
    tie.close
    (tie.spec
    pass-requires
    enum_known-two
    join_good-requires
    enum_known-number
    refusal-requires
    shape_of-out
    returns-in-All
    returns-in-Fault)
