use Rattle.data_items.proofs.Words.{top_masked}
use Rattle.data_items.proofs.top_of.Statement.{statement}
use Rattle.data_items.proofs.top_of.Tie as tie

returns : tie.Need-returns
returns c = top_masked c.args.tops c.args.word c.requires.0 c.requires.1

pub top_of_spec : {M : Type 1} → statement M
top_of_spec = tie.close (tie.spec returns)
