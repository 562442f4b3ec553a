use Rattle.log_read.proofs.Items.{data_at}
use native.Mathlib.Omega.{arith}
use mathlib.Core.Path.{◌≡◌}
use Prim.Native.Nat.{◌+◌}
use borrow.Author.Rules.{rules}
use Rattle.log_read.proofs.item.data.Statement.{statement}
use Rattle.log_read.proofs.item.data.Tie as tie

-- where the fields were read
abbrev read : tie.After-if_there → tie.After-sided-fields
read c = c.before.before.before.before

sided-fields-requires : tie.Need-sided-fields-requires
sided-fields-requires c κs = search rules

overflow_cast-bus : tie.Need-overflow_cast-bus
overflow_cast-bus c = search rules

overflow_cast-word : tie.Need-overflow_cast-word
overflow_cast-word c = search rules

if_there-requires : tie.Need-if_there-requires
if_there-requires c κs = search rules

returns : tie.Need-returns
returns c =
    let f = read c in
    λ s e p g.
    let q : f.sided-fields.result.next.at ≡ p + 25 = omega (arith, f.sided-fields.ensures.3, g.next.place) in
    rw (data_at g, ← f.sided-fields.ensures.0, ← q) (c.if_there.ensures s e)

pub data_spec : {M : Type 1} → statement M
data_spec = tie.close (tie.spec sided-fields-requires overflow_cast-bus overflow_cast-word if_there-requires returns)
