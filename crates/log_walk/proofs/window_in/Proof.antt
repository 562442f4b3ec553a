use Rattle.log_read.proofs.Eight.{filled_ahead}
use Rattle.log_read.proofs.Taken.{ahead_window}
use borrow.Author.Rules.{rules}
use Rattle.log_walk.proofs.window_in.Statement.{statement}
use Rattle.log_walk.proofs.window_in.Tie as tie
use Rattle.log_walk.proofs.window_in.Reads as reads
use Rattle.log_walk.proofs.window_in.Lts as lts
use Rattle.log_read.proofs.Cursor.filled_in.Reads as filled-in-reads

filled_in-requires : tie.Need-filled_in-requires
filled_in-requires c κs = search rules

returns : tie.Need-returns
returns c = ahead_window (filled_ahead _ _ c.filled_in.ensures.0)

pub window_in_spec : {M : Type 1} → statement M
window_in_spec = tie.close (tie.spec filled_in-requires returns)
