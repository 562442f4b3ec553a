use borrow.Author.Rules.{rules}
use mathlib.Core.Path.{refl}
use Rattle.salvage_run.proofs.put_items.Statement.{statement}
use Rattle.salvage_run.proofs.put_items.Tie as tie
use Rattle.salvage_run.proofs.put_items.Reads as reads
use Rattle.salvage_run.proofs.put_items.Lts as lts
use Rattle.data_put.proofs.put_step.Reads as put-step-reads

put_step-pen-requires : tie.Need-put_step-pen-requires
put_step-pen-requires c κs = search rules

shape_of-out : tie.Need-shape_of-out
shape_of-out c = search rules

returns : tie.Need-returns
returns c = λ report. rw (c.put_step-pen.ensures.0, c.put_step-pen.ensures.1) refl

pub put_items_spec : {M : Type 1} → statement M
put_items_spec = tie.close (tie.spec put_step-pen-requires shape_of-out returns)
