use borrow.Author.Rules.{rules}
use Rattle.salvage_run.proofs.Steps.{tape_gap}
use Rattle.salvage_run.proofs.Sounds.{places_few}
use Rattle.salvage_run.specs.Tape.{Tape, tape}
use mathlib.Core.List.{[]}
use mathlib.Core.Path.{ap}
use native.Mathlib.Omega.{arith}
use Rattle.salvage_run.proofs.drop_group.Statement.{statement}
use Rattle.salvage_run.proofs.drop_group.Tie as tie
use Rattle.salvage_run.proofs.drop_group.Reads as reads
use Rattle.salvage_run.proofs.drop_group.Lts as lts
use Rattle.salvage_run.proofs.drop_held.Reads as drop-held-reads
use Rattle.salvage_run.proofs.put_at.Reads as put-at-reads

drop_held-free-requires : tie.Need-drop_held-free-requires
drop_held-free-requires c κs = search rules

overflow_mul-number : tie.Need-overflow_mul-number
overflow_mul-number c = search rules

overflow_add-number : tie.Need-overflow_add-number
overflow_add-number c = search rules

put_at-requires : tie.Need-put_at-requires
put_at-requires c κs = search rules

overflow_add-result : tie.Need-overflow_add-result
overflow_add-result c =
    let s = c.before.before.before.before.before.before.before.before.before.before.before.before in
    let n = ap (λ (t : Tape). t.pass.entries) (c.drop_held-free.ensures []) in
    omega (arith, n, places_few s.args.plan s.args.pass, s.requires.4)

shape_of-report : tie.Need-shape_of-report
shape_of-report c = search rules

returns : tie.Need-returns
returns c = λ out.
    let a = c.args in
    rw c.put_at.ensures (tape_gap a.plan a.number a.index (tape a.pass out a.report.now) _ (c.drop_held-free.ensures out))

pub drop_group_spec : {M : Type 1} → statement M
drop_group_spec =
    tie.close
    (tie.spec drop_held-free-requires overflow_mul-number overflow_add-number put_at-requires overflow_add-result shape_of-report returns)
