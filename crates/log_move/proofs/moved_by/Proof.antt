use Rattle.log_move.proofs.Times.{too_late, fits_sum}
use mathlib.Core.Path.{◌≡◌}
use lib.IntN.{pos, ◌+ℤ◌}
use mir.Facts.{to_z-of_z}
use mir.Val.{SFits}
use mir.Syntax.{w64}
use borrow.Author.Rules.{rules}
use Rattle.log_move.proofs.moved_by.Statement.{statement}
use Rattle.log_move.proofs.moved_by.Tie as tie
use Rattle.log_move.proofs.moved_by.Reads as reads
use Rattle.log_move.proofs.moved_by.Lts as lts
use Rattle.log_move.proofs.sum.Reads as sum-reads
use Rattle.log_move.proofs.time_of.Reads as time-of-reads

returns-then-time-ge74572072960000 : tie.Need-returns-then-time-ge74572072960000
returns-then-time-ge74572072960000 c = too_late c.args.time c.args.by c.if-time-ge74572072960000.true c.requires

sum-requires : tie.Need-sum-requires
sum-requires c κs = search rules

time_of-requires : tie.Need-time_of-requires
time_of-requires c κs = search rules

returns : tie.Need-returns
returns c =
    let b = c.before.before.before in
    let e : c.sum.result ≡ pos b.args.time +ℤ b.args.by = rw (to_z-of_z b.ranges.by) at c.sum.ensures in
    let f : SFits w64 c.sum.result = rw e (fits_sum b.args.time b.args.by c.if-time-ge74572072960000.false b.requires) in
    rw (to_z-of_z f, e) at c.time_of.ensures

pub moved_by_spec : {M : Type 1} → statement M
moved_by_spec = tie.close (tie.spec returns-then-time-ge74572072960000 sum-requires time_of-requires returns)
