use Rattle.log_move.proofs.Times.{below_z, time_z, past_z}
use mir.Facts.{to_z-of_z}
use native.Mathlib.Omega.{arith}
use Rattle.log_move.proofs.time_of.Statement.{statement}
use Rattle.log_move.proofs.time_of.Tie as tie
use Rattle.log_move.proofs.time_of.Reads as reads
use Rattle.log_move.proofs.time_of.Lts as lts

returns-then-sum-lt0 : tie.Need-returns-then-sum-lt0
returns-then-sum-lt0 c = below_z c.args.sum (rw (to_z-of_z c.ranges.sum) at c.if-sum-lt0.true)

overflow_cast-result : tie.Need-overflow_cast-result
overflow_cast-result c = let q = time_z c.args.sum (rw (to_z-of_z c.ranges.sum) at c.if-sum-lt0.false) (rw (to_z-of_z c.ranges.sum) at c.if-sum-lt42949672960000.true) in rw (to_z-of_z c.ranges.sum) (q.0, record { fits = omega (arith, q.1) })

returns-then-sum-lt42949672960000 : tie.Need-returns-then-sum-lt42949672960000
returns-then-sum-lt42949672960000 c = rw (to_z-of_z c.ranges.sum) (time_z c.args.sum (rw (to_z-of_z c.ranges.sum) at c.if-sum-lt0.false) (rw (to_z-of_z c.ranges.sum) at c.if-sum-lt42949672960000.true)).2

returns : tie.Need-returns
returns c = past_z c.args.sum (rw (to_z-of_z c.ranges.sum) at c.if-sum-lt0.false) (rw (to_z-of_z c.ranges.sum) at c.if-sum-lt42949672960000.false)

pub time_of_spec : {M : Type 1} → statement M
time_of_spec = tie.close (tie.spec returns-then-sum-lt0 overflow_cast-result returns-then-sum-lt42949672960000 returns)
