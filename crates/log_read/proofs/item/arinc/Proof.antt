use Rattle.log_read.proofs.Items.{arinc_tagged, arinc_plain}
use Rattle.log_read.specs.Found.{time_at}
use Rattle.format.specs.Laws.Bits.{length_bytes}
use Rattle.format.specs.Bits.{bytes_bits}
use native.Mathlib.Omega.{arith}
use mathlib.Core.Path.{◌≡◌, sym}
use lib.ListN.{length}
use Prim.Native.Nat.{◌+◌, ◌≤◌}
use borrow.Author.Rules.{rules}
use Rattle.log_read.proofs.item.arinc.Statement.{statement}
use Rattle.log_read.proofs.item.arinc.Tie as tie

-- where the fields were read, with a tag behind them and without, and the function's entry
abbrev timed : tie.After-if_there → tie.After-channelled-fields
timed c = c.before.before.before.before.before.before.before.before

abbrev plain : tie.After-if_there-2 → tie.After-channelled-fields
plain c = c.before.before.before.before.before.before

abbrev entry : tie.After-channelled-fields → tie.Start
entry c = c.before.before.before

overflow_mul-total : tie.Need-overflow_mul-total
overflow_mul-total c = search rules

channelled-fields-requires : tie.Need-channelled-fields-requires
channelled-fields-requires c κs = search rules

overflow_cast-bus : tie.Need-overflow_cast-bus
overflow_cast-bus c = search rules

overflow_cast-channel : tie.Need-overflow_cast-channel
overflow_cast-channel c = search rules

time_at-requires : tie.Need-time_at-requires
time_at-requires c κs = search rules

overflow_add-behind : tie.Need-overflow_add-behind
overflow_add-behind c = search rules

if_there-requires : tie.Need-if_there-requires
if_there-requires c κs = search rules

returns-then-fields-eq1 : tie.Need-returns-then-fields-eq1
returns-then-fields-eq1 c =
    let f = timed c in
    let log = (entry f).args.log.now in
    λ p g.
    let q : f.channelled-fields.result.next.at ≡ p + 43 = omega (arith, f.channelled-fields.ensures.3, g.next.place) in
    let t : p + 43 + 46 ≤ length (bytes_bits log) → time_at (bytes_bits log) (p + 43) ≡ c.time_at.result =
    λ l. sym (rw q at (c.time_at.ensures (omega (arith, l, length_bytes log, q)))) in
    rw (arinc_tagged g (rw f.channelled-fields.ensures.0 at c.if-fields-eq1.true) _ t, ← f.channelled-fields.ensures.0, ← q) (c.if_there.ensures (bytes_bits log) (length_bytes log))

if_there-requires-2 : tie.Need-if_there-requires-2
if_there-requires-2 c κs = search rules

returns : tie.Need-returns
returns c =
    let f = plain c in
    λ p g.
    let q : f.channelled-fields.result.next.at ≡ p + 43 = omega (arith, f.channelled-fields.ensures.3, g.next.place) in
    rw (arinc_plain g (rw f.channelled-fields.ensures.0 at c.if-fields-eq1.false), ← f.channelled-fields.ensures.0, ← q)
    (c.if_there-2.ensures (bytes_bits (entry f).args.log.now) (length_bytes (entry f).args.log.now))

pub arinc_spec : {M : Type 1} → statement M
arinc_spec =
    tie.close
    (tie.spec
    overflow_mul-total
    channelled-fields-requires
    overflow_cast-bus
    overflow_cast-channel
    time_at-requires
    overflow_add-behind
    if_there-requires
    returns-then-fields-eq1
    if_there-requires-2
    returns)
