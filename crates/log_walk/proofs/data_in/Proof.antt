use Rattle.log_walk.proofs.Whole.{whole_data}
use native.Mathlib.Omega.{arith}
use mathlib.Core.Path.{refl}
use borrow.Author.Rules.{rules}
use Rattle.log_walk.proofs.data_in.Statement.{statement}
use Rattle.log_walk.proofs.data_in.Tie as tie
use Rattle.log_walk.proofs.data_in.Reads as reads
use Rattle.log_walk.proofs.data_in.Lts as lts

returns : tie.Need-returns
returns c = (whole_data c.args.log.now c.args.at c.args.w c.requires.0 (omega arith) c.requires.1.0 c.requires.1.1, refl, refl, refl)

pub data_in_spec : {M : Type 1} → statement M
data_in_spec = tie.close (tie.spec returns)
