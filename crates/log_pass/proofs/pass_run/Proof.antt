use Rattle.log_pass.proofs.Walking.{next_fits, not_false, passing_fits, passing_item}
use Rattle.log_walk.proofs.Ends.{pos_of}
use Rattle.log_walk.proofs.Items.{Holds, holds}
use Rattle.log_walk.proofs.Whole.{whole_data}
use Rattle.log_write.specs.declared.Packed.{Packed}
use Prim.Native.Nat.{◌/◌, ◌^◌, ◌+◌}
use Rattle.log_pass.specs.Pass.{Passing}
use lib.ListN.{length}
use mathlib.Core.Path.{◌≡◌, refl, sym, ◌∙◌}
use Prim.Native.Nat.{◌*◌, ◌-◌, ◌≤◌}
use native.Mathlib.Omega.{arith}
use borrow.Author.Rules.{rules}
use Rattle.log_pass.proofs.pass_run.Statement.{statement}
use Rattle.log_pass.proofs.pass_run.Tie as tie
use Rattle.log_pass.proofs.pass_run.Reads as reads
use Rattle.log_pass.proofs.pass_run.Lts as lts
use Rattle.log_walk.proofs.in_time.Reads as in-time-reads
use Rattle.log_walk.proofs.item_in.Reads as item-in-reads
use Rattle.log_walk.proofs.window_in.Reads as window-in-reads

abbrev invariant-loop-at : tie.invariant-loop-at
invariant-loop-at log from at₀ stop at = (length log ≤ 32768) × (stop ≡ length log * 8) × (from ≤ at) × Passing log at

abbrev decreases-loop-at : tie.decreases-loop-at
decreases-loop-at log from at₀ stop at = length log * 8 - at

-- a data word, and an item of any kind
abbrev data_of : tie.Then-kind-eq3 invariant-loop-at decreases-loop-at → Packed
data_of c = record { first = c.window_in-w.result / 2 ^ 39; first_bits = 25; behind = 0; behind_bits = 0 }

data_here : (c : tie.Then-kind-eq3 invariant-loop-at decreases-loop-at) → Holds c.args.log.now c.loop-at.at (data_of c)
data_here c =
    holds _ _ _ (data_of c)
    (whole_data c.args.log.now c.loop-at.at _ c.window_in-w.ensures (omega arith)
    (omega (arith, c.loop-at-test.true)) c.if-kind-eq3.true) refl

item_here : (c : tie.After-struct_known-1 invariant-loop-at decreases-loop-at) → Holds
    c.args.log.now
    c.loop-at.at c.item_in-item.result
item_here c = holds _ _ _ c.item_in-item.result c.item_in-item.ensures refl

overflow_mul-stop : tie.Need-overflow_mul-stop invariant-loop-at decreases-loop-at
overflow_mul-stop c = search rules

loop-at-init : tie.Need-loop-at-init invariant-loop-at decreases-loop-at
loop-at-init c = (c.requires.0, refl, omega arith, c.requires.1)

overflow_add-at : tie.Need-overflow_add-at invariant-loop-at decreases-loop-at
overflow_add-at c = search rules

window_in-w-requires : tie.Need-window_in-w-requires invariant-loop-at decreases-loop-at
window_in-w-requires c κs = search rules

overflow_add-at-then-kind-eq3 : tie.Need-overflow_add-at-then-kind-eq3 invariant-loop-at decreases-loop-at
overflow_add-at-then-kind-eq3 c = search rules

loop-at-smaller-then-kind-eq3 : tie.Need-loop-at-smaller-then-kind-eq3 invariant-loop-at decreases-loop-at
loop-at-smaller-then-kind-eq3 c = omega (arith, c.loop-at-test.true, c.loop-at.invariant.1)

loop-at-preserved-then-kind-eq3 : tie.Need-loop-at-preserved-then-kind-eq3 invariant-loop-at decreases-loop-at
loop-at-preserved-then-kind-eq3 c = let o = c.loop-at.invariant in (o.0, refl, omega (arith, o.2), passing_item o.3 (data_here c) refl)

item_in-item-requires : tie.Need-item_in-item-requires invariant-loop-at decreases-loop-at
item_in-item-requires c κs = (
  c.window_in-w.ensures,
  (
    omega (arith, c.loop-at-test.true),
    omega
        (arith, c.loop-at.invariant.0),
    pos_of _ c.if-kind-eq0.false,
    c.if-kind-gt8.false,
  ),
)

in_time-requires : tie.Need-in_time-requires invariant-loop-at decreases-loop-at
in_time-requires c κs = search rules

overflow_add-at-in-loop-at : tie.Need-overflow_add-at-in-loop-at invariant-loop-at decreases-loop-at
overflow_add-at-in-loop-at c = omega (arith, (item_here c).says.first_few, (item_here c).says.behind_few)

overflow_cast-at : tie.Need-overflow_cast-at invariant-loop-at decreases-loop-at
overflow_cast-at c = search rules

overflow_add-at-in-loop-at-2 : tie.Need-overflow_add-at-in-loop-at-2 invariant-loop-at decreases-loop-at
overflow_add-at-in-loop-at-2 c = omega (
  arith,
  c.loop-at.invariant.0,
  next_fits
      c.loop-at.invariant.3.walk (item_here c),
)

loop-at-smaller : tie.Need-loop-at-smaller invariant-loop-at decreases-loop-at
loop-at-smaller c = omega (arith, (item_here c).many, next_fits c.loop-at.invariant.3.walk (item_here c))

loop-at-preserved : tie.Need-loop-at-preserved invariant-loop-at decreases-loop-at
loop-at-preserved c = let o = c.loop-at.invariant in (
  o.0,
  refl,
  omega (arith, o.2),
  passing_item
      o.3 (item_here c) (sym c.in_time.ensures ∙ c.if-not-in_time.false),
)

returns-after-loop-at : tie.Need-returns-after-loop-at invariant-loop-at decreases-loop-at
returns-after-loop-at c = (c.loop-at.invariant.2, c.loop-at.invariant.3)

returns-then-kind-eq0 : tie.Need-returns-then-kind-eq0 invariant-loop-at decreases-loop-at
returns-then-kind-eq0 c = (c.loop-at.invariant.2, c.loop-at.invariant.3)

returns-then-kind-gt8 : tie.Need-returns-then-kind-gt8 invariant-loop-at decreases-loop-at
returns-then-kind-gt8 c = (c.loop-at.invariant.2, c.loop-at.invariant.3)

returns-then-not-in_time : tie.Need-returns-then-not-in_time invariant-loop-at decreases-loop-at
returns-then-not-in_time c = (c.loop-at.invariant.2, c.loop-at.invariant.3)

pub pass_run_spec : {M : Type 1} → statement M
pass_run_spec =
    tie.close
    (tie.spec
    invariant-loop-at
    decreases-loop-at
    overflow_mul-stop
    loop-at-init
    overflow_add-at
    window_in-w-requires
    overflow_add-at-then-kind-eq3
    loop-at-smaller-then-kind-eq3
    loop-at-preserved-then-kind-eq3
    item_in-item-requires
    in_time-requires
    overflow_add-at-in-loop-at
    overflow_cast-at
    overflow_add-at-in-loop-at-2
    loop-at-smaller
    loop-at-preserved
    returns-after-loop-at
    returns-then-kind-eq0
    returns-then-kind-gt8
    returns-then-not-in_time)
