use Rattle.log_move.proofs.Times.{sum_seen, fits_sum}
use mir.Facts.{to_z-of_z}
use borrow.Author.Rules.{rules}
use Rattle.log_move.proofs.sum.Statement.{statement}
use Rattle.log_move.proofs.sum.Tie as tie
use Rattle.log_move.proofs.sum.Reads as reads
use Rattle.log_move.proofs.sum.Lts as lts

overflow_cast-result : tie.Need-overflow_cast-result
overflow_cast-result c = search rules

overflow_add-result : tie.Need-overflow_add-result
overflow_add-result c = rw (sum_seen c.args.time c.args.by c.requires.0 c.ranges.by) (fits_sum c.args.time c.args.by c.requires.0 c.requires.1)

returns : tie.Need-returns
returns c = rw (sum_seen c.args.time c.args.by c.requires.0 c.ranges.by) (to_z-of_z (fits_sum c.args.time c.args.by c.requires.0 c.requires.1))

pub sum_spec : {M : Type 1} → statement M
sum_spec = tie.close (tie.spec overflow_cast-result overflow_add-result returns)
