use native.Mathlib.Omega.{arith}
use borrow.Author.Rules.{rules}
use mathlib.Core.Path.{refl}
use Rattle.log_write.proofs.Pen.words_in.Statement.{statement}
use Rattle.log_write.proofs.Pen.words_in.Tie as tie

overflow_add-used : tie.Need-overflow_add-used
overflow_add-used c = search rules

returns-then-room-used : tie.Need-returns-then-room-used
returns-then-room-used c = omega (arith, c.if-room-used.true)

returns : tie.Need-returns
returns c = refl

pub words_in_spec : {M : Type 1} → statement M
words_in_spec = tie.close (tie.spec overflow_add-used returns-then-room-used returns)
