use mathlib.Core.Path.{refl}
use native.Mathlib.Omega.{arith}
use Rattle.log_read.specs.Fields.{head_of}
use borrow.Author.Rules.{rules}
use Rattle.log_read.proofs.Cursor.head.Statement.{statement}
use Rattle.log_read.proofs.Cursor.head.Tie as tie

take-kind-requires : tie.Need-take-kind-requires
take-kind-requires c κs = search rules

take-bus-requires : tie.Need-take-bus-requires
take-bus-requires c κs = search rules

returns : tie.Need-returns
unfolding head_of
returns c =
    let kind = c.take-kind.ensures in
    let bus = c.take-bus.ensures in
    (rw (bus.0, kind.0), omega arith, omega arith, omega arith)

pub head_spec : {M : Type 1} → statement M
head_spec = tie.close (tie.spec take-kind-requires take-bus-requires returns)
