use Rattle.log_read.specs.Fields.{sided_of}
use native.Mathlib.Omega.{arith}
use borrow.Author.Rules.{rules}
use Rattle.log_read.proofs.Cursor.sided.Statement.{statement}
use Rattle.log_read.proofs.Cursor.sided.Tie as tie

take-side-requires : tie.Need-take-side-requires
take-side-requires c κs = search rules

take-word-requires : tie.Need-take-word-requires
take-word-requires c κs = search rules

returns : tie.Need-returns
unfolding sided_of
returns c =
    let side = c.take-side.ensures in
    let word = c.take-word.ensures in
    (rw (word.0, side.0), omega arith, omega arith, omega arith)

pub sided_spec : {M : Type 1} → statement M
sided_spec = tie.close (tie.spec take-side-requires take-word-requires returns)
