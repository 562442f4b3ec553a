use Rattle.log_read.specs.Fields.{tagged_of}
use native.Mathlib.Omega.{arith}
use borrow.Author.Rules.{rules}
use Rattle.log_read.proofs.Cursor.tagged.Statement.{statement}
use Rattle.log_read.proofs.Cursor.tagged.Tie as tie

take-high-requires : tie.Need-take-high-requires
take-high-requires c κs = search rules

take-low-requires : tie.Need-take-low-requires
take-low-requires c κs = search rules

take-micro-requires : tie.Need-take-micro-requires
take-micro-requires c κs = search rules

returns : tie.Need-returns
unfolding tagged_of
returns c =
    let high = c.take-high.ensures in
    let low = c.take-low.ensures in
    let micro = c.take-micro.ensures in
    (rw (micro.0, low.0, high.0), omega arith, omega arith, omega arith, omega arith)

pub tagged_spec : {M : Type 1} → statement M
tagged_spec = tie.close (tie.spec take-high-requires take-low-requires take-micro-requires returns)
