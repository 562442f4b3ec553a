use Rattle.log_read.proofs.Items.{command_tagged, command_plain}
use Rattle.log_read.specs.Found.{time_at}
use Rattle.format.specs.Laws.Bits.{length_bytes}
use Rattle.format.specs.Bits.{bytes_bits}
use native.Mathlib.Omega.{arith}
use mathlib.Core.Path.{◌≡◌, sym}
use lib.ListN.{length}
use Prim.Native.Nat.{◌+◌, ◌≤◌}
use borrow.Author.Rules.{rules}
use Rattle.log_read.proofs.item.command.Statement.{statement}
use Rattle.log_read.proofs.item.command.Tie as tie

-- where the fields were read, with a tag behind them and without, and the function's entry
abbrev timed : tie.After-if_there → tie.After-marked-fields
timed c = c.before.before.before.before.before.before.before.before.before

abbrev plain : tie.After-if_there-2 → tie.After-marked-fields
plain c = c.before.before.before.before.before.before.before

abbrev entry : tie.After-marked-fields → tie.Start
entry c = c.before.before.before

overflow_mul-total : tie.Need-overflow_mul-total
overflow_mul-total c = search rules

marked-fields-requires : tie.Need-marked-fields-requires
marked-fields-requires c κs = search rules

overflow_cast-bus : tie.Need-overflow_cast-bus
overflow_cast-bus c = search rules

overflow_cast-word : tie.Need-overflow_cast-word
overflow_cast-word c = search rules

time_at-requires : tie.Need-time_at-requires
time_at-requires c κs = search rules

overflow_add-behind : tie.Need-overflow_add-behind
overflow_add-behind c = search rules

if_there-requires : tie.Need-if_there-requires
if_there-requires c κs = search rules

returns-then-fields-eq1 : tie.Need-returns-then-fields-eq1
returns-then-fields-eq1 c =
    let f = timed c in
    let log = (entry f).args.log.now in
    λ p g.
    let q : f.marked-fields.result.next.at ≡ p + 26 = omega (arith, f.marked-fields.ensures.4, g.next.place) in
    let t : p + 26 + 46 ≤ length (bytes_bits log) → time_at (bytes_bits log) (p + 26) ≡ c.time_at.result =
    λ l. sym (rw q at (c.time_at.ensures (omega (arith, l, length_bytes log, q)))) in
    rw (command_tagged g (rw f.marked-fields.ensures.0 at c.if-fields-eq1.true) _ t, ← f.marked-fields.ensures.0, ← q) (c.if_there.ensures (bytes_bits log) (length_bytes log))

if_there-requires-2 : tie.Need-if_there-requires-2
if_there-requires-2 c κs = search rules

returns : tie.Need-returns
returns c =
    let f = plain c in
    λ p g.
    let q : f.marked-fields.result.next.at ≡ p + 26 = omega (arith, f.marked-fields.ensures.4, g.next.place) in
    rw (command_plain g (rw f.marked-fields.ensures.0 at c.if-fields-eq1.false), ← f.marked-fields.ensures.0, ← q)
    (c.if_there-2.ensures (bytes_bits (entry f).args.log.now) (length_bytes (entry f).args.log.now))

pub command_spec : {M : Type 1} → statement M
command_spec =
    tie.close
    (tie.spec
    overflow_mul-total
    marked-fields-requires
    overflow_cast-bus
    overflow_cast-word
    time_at-requires
    overflow_add-behind
    if_there-requires
    returns-then-fields-eq1
    if_there-requires-2
    returns)
