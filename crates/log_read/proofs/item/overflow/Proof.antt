use Rattle.log_read.proofs.Items.{overflow_at}
use native.Mathlib.Omega.{arith}
use mathlib.Core.Path.{◌≡◌}
use Prim.Native.Nat.{◌+◌}
use borrow.Author.Rules.{rules}
use Rattle.log_read.proofs.item.overflow.Statement.{statement}
use Rattle.log_read.proofs.item.overflow.Tie as tie

-- where the fields were read
abbrev read : tie.After-if_there → tie.After-take-took
read c = c.before.before.before

take-took-requires : tie.Need-take-took-requires
take-took-requires c κs = search rules

overflow_cast-bus : tie.Need-overflow_cast-bus
overflow_cast-bus c = search rules

overflow_cast-word : tie.Need-overflow_cast-word
overflow_cast-word c = search rules

if_there-requires : tie.Need-if_there-requires
if_there-requires c κs = search rules

returns : tie.Need-returns
returns c =
    let f = read c in
    λ s e p g.
    let q : f.take-took.result.next.at ≡ p + 24 = omega (arith, f.take-took.ensures.2, g.next.place) in
    rw (overflow_at g, ← f.take-took.ensures.0, ← q) (c.if_there.ensures s e)

pub overflow_spec : {M : Type 1} → statement M
overflow_spec = tie.close (tie.spec take-took-requires overflow_cast-bus overflow_cast-word if_there-requires returns)
