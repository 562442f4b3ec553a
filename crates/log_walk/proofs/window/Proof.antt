use Rattle.log_read.proofs.Eight.{filled_ahead}
use Rattle.log_read.proofs.Taken.{ahead_window}
use borrow.Author.Rules.{rules}
use Rattle.log_walk.proofs.window.Statement.{statement}
use Rattle.log_walk.proofs.window.Tie as tie

filled-requires : tie.Need-filled-requires
filled-requires c κs = search rules

returns : tie.Need-returns
returns c = ahead_window (filled_ahead _ _ c.filled.ensures.0)

pub window_spec : {M : Type 1} → statement M
window_spec = tie.close (tie.spec filled-requires returns)
