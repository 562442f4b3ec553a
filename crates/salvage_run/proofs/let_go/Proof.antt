use borrow.Author.Rules.{rules}
use Rattle.salvage_run.proofs.Steps.{freed_fits, let_dropped, let_put}
use Rattle.salvage_run.specs.Tape.{tape}
use mathlib.Core.Path.{◌∙◌}
use Rattle.salvage_run.proofs.let_go.Statement.{statement}
use Rattle.salvage_run.proofs.let_go.Tie as tie
use Rattle.salvage_run.proofs.let_go.Reads as reads
use Rattle.salvage_run.proofs.let_go.Lts as lts
use Rattle.data_word.proofs.finish.Reads as finish-reads
use Rattle.salvage_run.proofs.drop_held.Reads as drop-held-reads
use Rattle.salvage_run.proofs.put_items.Reads as put-items-reads

finish-step-requires : tie.Need-finish-step-requires
finish-step-requires c κs = search rules

drop_held-requires : tie.Need-drop_held-requires
drop_held-requires c κs = search rules

shape_of-report-then-step : tie.Need-shape_of-report-then-step
shape_of-report-then-step c = search rules

returns-then-step : tie.Need-returns-then-step
returns-then-step c =
    let s = c.before.before.before.before.before.before.before.before in
    let a = s.args in
    c.drop_held.ensures a.out.now ∙ let_dropped a.plan (tape a.pass a.out.now a.report.now) (c.finish-step.ensures 0) c.if-step.true

put_items-requires : tie.Need-put_items-requires
put_items-requires c κs = let s = c.before.before.before.before.before.before in (s.requires.5, freed_fits s.args.pass s.requires.2 (c.finish-step.ensures 0) c.if-step.false)

shape_of-out : tie.Need-shape_of-out
shape_of-out c = search rules

returns : tie.Need-returns
returns c =
    let s = c.before.before.before.before.before.before.before.before.before in
    let a = s.args in
    c.put_items.ensures a.report.now ∙ let_put a.plan (tape a.pass a.out.now a.report.now) (c.finish-step.ensures 0) c.if-step.false

pub let_go_spec : {M : Type 1} → statement M
let_go_spec =
    tie.close
    (tie.spec
    finish-step-requires
    drop_held-requires
    shape_of-report-then-step
    returns-then-step
    put_items-requires
    shape_of-out
    returns)
