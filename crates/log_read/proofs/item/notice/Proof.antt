use Rattle.log_read.proofs.Items.{notice_at}
use native.Mathlib.Omega.{arith}
use mathlib.Core.Path.{◌≡◌}
use Prim.Native.Nat.{◌+◌}
use borrow.Author.Rules.{rules}
use Rattle.log_read.proofs.item.notice.Statement.{statement}
use Rattle.log_read.proofs.item.notice.Tie as tie

-- where the fields were read
abbrev read : tie.After-if_there → tie.After-noticed-fields
read c = c.before.before.before.before

noticed-fields-requires : tie.Need-noticed-fields-requires
noticed-fields-requires c κs = search rules

overflow_cast-bus : tie.Need-overflow_cast-bus
overflow_cast-bus c = search rules

overflow_cast-channel : tie.Need-overflow_cast-channel
overflow_cast-channel c = search rules

overflow_cast-diagnostics : tie.Need-overflow_cast-diagnostics
overflow_cast-diagnostics c = search rules

if_there-requires : tie.Need-if_there-requires
if_there-requires c κs = search rules

returns : tie.Need-returns
returns c =
    let f = read c in
    λ s e p g.
    let q : f.noticed-fields.result.next.at ≡ p + 18 = omega (arith, f.noticed-fields.ensures.3, g.next.place) in
    rw (notice_at g, ← f.noticed-fields.ensures.0, ← q) (c.if_there.ensures s e)

pub notice_spec : {M : Type 1} → statement M
notice_spec =
    tie.close
    (tie.spec noticed-fields-requires overflow_cast-bus overflow_cast-channel overflow_cast-diagnostics if_there-requires returns)
