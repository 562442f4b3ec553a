use Rattle.log_read.specs.Fields.{marked_of}
use native.Mathlib.Omega.{arith}
use borrow.Author.Rules.{rules}
use Rattle.log_read.proofs.Cursor.marked.Statement.{statement}
use Rattle.log_read.proofs.Cursor.marked.Tie as tie

take-side-requires : tie.Need-take-side-requires
take-side-requires c κs = search rules

take-mark-requires : tie.Need-take-mark-requires
take-mark-requires c κs = search rules

take-word-requires : tie.Need-take-word-requires
take-word-requires c κs = search rules

returns : tie.Need-returns
unfolding marked_of
returns c =
    let side = c.take-side.ensures in
    let mark = c.take-mark.ensures in
    let word = c.take-word.ensures in
    (rw (word.0, mark.0, side.0), omega arith, omega arith, omega arith, omega arith)

pub marked_spec : {M : Type 1} → statement M
marked_spec = tie.close (tie.spec take-side-requires take-mark-requires take-word-requires returns)
