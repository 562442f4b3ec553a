use Rattle.log_read.specs.Fields.{noticed_of}
use native.Mathlib.Omega.{arith}
use borrow.Author.Rules.{rules}
use Rattle.log_read.proofs.Cursor.noticed.Statement.{statement}
use Rattle.log_read.proofs.Cursor.noticed.Tie as tie

take-channel-requires : tie.Need-take-channel-requires
take-channel-requires c κs = search rules

take-diagnostics-requires : tie.Need-take-diagnostics-requires
take-diagnostics-requires c κs = search rules

returns : tie.Need-returns
unfolding noticed_of
returns c =
    let channel = c.take-channel.ensures in
    let diagnostics = c.take-diagnostics.ensures in
    (rw (diagnostics.0, channel.0), omega arith, omega arith, omega arith)

pub noticed_spec : {M : Type 1} → statement M
noticed_spec = tie.close (tie.spec take-channel-requires take-diagnostics-requires returns)
