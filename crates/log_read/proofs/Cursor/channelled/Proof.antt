use Rattle.log_read.specs.Fields.{channelled_of}
use native.Mathlib.Omega.{arith}
use borrow.Author.Rules.{rules}
use Rattle.log_read.proofs.Cursor.channelled.Statement.{statement}
use Rattle.log_read.proofs.Cursor.channelled.Tie as tie

take-channel-requires : tie.Need-take-channel-requires
take-channel-requires c κs = search rules

take-mark-requires : tie.Need-take-mark-requires
take-mark-requires c κs = search rules

take-word-requires : tie.Need-take-word-requires
take-word-requires c κs = search rules

returns : tie.Need-returns
unfolding channelled_of
returns c =
    let channel = c.take-channel.ensures in
    let mark = c.take-mark.ensures in
    let word = c.take-word.ensures in
    (rw (word.0, mark.0, channel.0), omega arith, omega arith, omega arith)

pub channelled_spec : {M : Type 1} → statement M
channelled_spec = tie.close (tie.spec take-channel-requires take-mark-requires take-word-requires returns)
