use Rattle.log_text.proofs.Adding.{adds_one}
use borrow.Author.Rules.{rules}
use Rattle.log_text.proofs.put.Statement.{statement}
use Rattle.log_text.proofs.put.Tie as tie
use Rattle.log_text.proofs.put.Reads as reads
use Rattle.log_text.proofs.put.Lts as lts

bounds-out-at : tie.Need-bounds-out-at
bounds-out-at c = search rules

overflow_add-result : tie.Need-overflow_add-result
overflow_add-result c = search rules

shape_of-out : tie.Need-shape_of-out
shape_of-out c = search rules

returns : tie.Need-returns
returns c = adds_one c.args.out.now c.args.at c.args.b c.requires

pub put_spec : {M : Type 1} → statement M
put_spec = tie.close (tie.spec bounds-out-at overflow_add-result shape_of-out returns)
