use borrow.Author.Tests.{eq-eqb, ne_eqb}
use mathlib.Core.Path.{refl}
use borrow.Author.Rules.{rules}
use Rattle.log_move.proofs.with_time.Statement.{statement}
use Rattle.log_move.proofs.with_time.Tie as tie
use Rattle.log_move.proofs.with_time.Reads as reads
use Rattle.log_move.proofs.with_time.Lts as lts
use Rattle.log_move.proofs.time_number.Reads as time-number-reads

returns-then-piece-ne46 : tie.Need-returns-then-piece-ne46
returns-then-piece-ne46 c = rw (ne_eqb _ _ c.if-piece-ne46.true) refl

time_number-requires : tie.Need-time_number-requires
time_number-requires c κs = search rules

returns : tie.Need-returns
returns c = rw (eq-eqb _ _ c.if-piece-ne46.false, c.time_number.ensures.0) refl

pub with_time_spec : {M : Type 1} → statement M
with_time_spec = tie.close (tie.spec returns-then-piece-ne46 time_number-requires returns)
