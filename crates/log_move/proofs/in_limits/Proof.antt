use Rattle.log_move.proofs.Times.{below_limits, above_limits}
use mir.Facts.{to_z-of_z}
use mathlib.Core.Path.{sym}
use Rattle.log_move.proofs.in_limits.Statement.{statement}
use Rattle.log_move.proofs.in_limits.Tie as tie
use Rattle.log_move.proofs.in_limits.Reads as reads
use Rattle.log_move.proofs.in_limits.Lts as lts

returns-then-by-ltminus31622400000000 : tie.Need-returns-then-by-ltminus31622400000000
returns-then-by-ltminus31622400000000 c = sym (below_limits c.args.by (rw (to_z-of_z c.ranges.by) at c.if-by-ltminus31622400000000.true))

returns : tie.Need-returns
returns c = rw (to_z-of_z c.ranges.by) (above_limits c.args.by (rw (to_z-of_z c.ranges.by) at c.if-by-ltminus31622400000000.false))

pub in_limits_spec : {M : Type 1} → statement M
in_limits_spec = tie.close (tie.spec returns-then-by-ltminus31622400000000 returns)
