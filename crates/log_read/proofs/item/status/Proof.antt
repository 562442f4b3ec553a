use Rattle.log_read.proofs.Items.{status_timed, status_plain}
use native.Mathlib.Omega.{arith}
use mathlib.Core.Path.{◌≡◌}
use Prim.Native.Nat.{◌+◌}
use borrow.Author.Rules.{rules}
use Rattle.log_read.proofs.item.status.Statement.{statement}
use Rattle.log_read.proofs.item.status.Tie as tie

-- where the fields were read, with a response time behind them and without
abbrev timed : tie.After-if_there → tie.After-marked-fields
timed c = c.before.before.before.before.before.before.before.before.before

abbrev plain : tie.After-if_there-2 → tie.After-marked-fields
plain c = c.before.before.before.before.before.before.before

marked-fields-requires : tie.Need-marked-fields-requires
marked-fields-requires c κs = search rules

overflow_cast-bus : tie.Need-overflow_cast-bus
overflow_cast-bus c = search rules

overflow_cast-word : tie.Need-overflow_cast-word
overflow_cast-word c = search rules

take-after-requires : tie.Need-take-after-requires
take-after-requires c κs = search rules

overflow_cast-response : tie.Need-overflow_cast-response
overflow_cast-response c = search rules

if_there-requires : tie.Need-if_there-requires
if_there-requires c κs = search rules

returns-then-fields-eq1 : tie.Need-returns-then-fields-eq1
returns-then-fields-eq1 c =
    let f = timed c in
    let r = c.take-after in
    λ s e p g.
    let q : r.result.next.at ≡ p + 26 + 14 = omega (arith, f.marked-fields.ensures.4, r.ensures.2, g.next.place) in
    rw (status_timed g (rw f.marked-fields.ensures.0 at c.if-fields-eq1.true), ← f.marked-fields.ensures.0, ← r.ensures.0, ← q)
    (c.if_there.ensures s e)

if_there-requires-2 : tie.Need-if_there-requires-2
if_there-requires-2 c κs = search rules

returns : tie.Need-returns
returns c =
    let f = plain c in
    λ s e p g.
    let q : f.marked-fields.result.next.at ≡ p + 26 = omega (arith, f.marked-fields.ensures.4, g.next.place) in
    rw (status_plain g (rw f.marked-fields.ensures.0 at c.if-fields-eq1.false), ← f.marked-fields.ensures.0, ← q) (c.if_there-2.ensures s e)

pub status_spec : {M : Type 1} → statement M
status_spec =
    tie.close
    (tie.spec
    marked-fields-requires
    overflow_cast-bus
    overflow_cast-word
    take-after-requires
    overflow_cast-response
    if_there-requires
    returns-then-fields-eq1
    if_there-requires-2
    returns)
