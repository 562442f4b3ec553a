use Rattle.log_put.proofs.Putting.{picking_data, picking_more, picking_room}
use Rattle.log_pass.proofs.Walking.{next_fits, not_false}
use Rattle.log_walk.proofs.Ends.{pos_of}
use Rattle.log_walk.proofs.Items.{Holds, holds}
use Rattle.log_put.specs.Put.{Picking}
use lib.ListN.{length}
use mathlib.Core.Path.{◌≡◌, refl, sym, ◌∙◌}
use Prim.Native.Nat.{◌+◌, ◌*◌, ◌-◌, ◌≤◌}
use native.Mathlib.Omega.{arith}
use borrow.Author.Rules.{rules}
use Rattle.log_put.proofs.put_run.Statement.{statement}
use Rattle.log_put.proofs.put_run.Tie as tie
use Rattle.log_put.proofs.put_run.Reads as reads
use Rattle.log_put.proofs.put_run.Lts as lts
use Rattle.log_put.proofs.put_if.Reads as put-if-reads
use Rattle.log_walk.proofs.data_in.Reads as data-in-reads
use Rattle.log_walk.proofs.in_time.Reads as in-time-reads
use Rattle.log_walk.proofs.item_in.Reads as item-in-reads
use Rattle.log_walk.proofs.window_in.Reads as window-in-reads

abbrev invariant-loop-at : tie.invariant-loop-at
invariant-loop-at log buses built₀ at₀ to₀ stop built at to =
    (length log ≤ 32768) × (length log + 8 ≤ length built₀) × (stop ≡ length log * 8) × (at₀ ≤ at) × (length built ≡ length built₀) × Picking log buses built at to

abbrev decreases-loop-at : tie.decreases-loop-at
decreases-loop-at log buses built₀ at₀ to₀ stop built at to = length log * 8 - at

-- a data word, and an item of any kind
data_here : (c : tie.After-data_in invariant-loop-at decreases-loop-at) → Holds c.args.log.now
    c.loop-at.at c.data_in.result
data_here c = holds _ _ _ c.data_in.result c.data_in.ensures.0 refl

item_here : (c : tie.After-put_if-arg-in-loop-at-1 invariant-loop-at decreases-loop-at) → Holds
    c.args.log.now
    c.loop-at.at c.item_in-item.result
item_here c = holds _ _ _ c.item_in-item.result c.item_in-item.ensures refl

overflow_mul-stop : tie.Need-overflow_mul-stop invariant-loop-at decreases-loop-at
overflow_mul-stop c = search rules

loop-at-init : tie.Need-loop-at-init invariant-loop-at decreases-loop-at
loop-at-init c = let q = c.requires in (q.0, q.1, refl, omega arith, refl, q.2)

overflow_add-at : tie.Need-overflow_add-at invariant-loop-at decreases-loop-at
overflow_add-at c = search rules

window_in-w-requires : tie.Need-window_in-w-requires invariant-loop-at decreases-loop-at
window_in-w-requires c κs = search rules

data_in-requires : tie.Need-data_in-requires invariant-loop-at decreases-loop-at
data_in-requires c κs = (c.window_in-w.ensures, (omega (arith, c.loop-at-test.true), c.if-kind-eq3.true))

put_if-to-requires : tie.Need-put_if-to-requires invariant-loop-at decreases-loop-at
put_if-to-requires c κs = let o = c.loop-at.invariant in picking_room o.5 (data_here c) _ o.0 (omega (arith, o.1, o.4))

overflow_add-at-then-kind-eq3 : tie.Need-overflow_add-at-then-kind-eq3 invariant-loop-at decreases-loop-at
overflow_add-at-then-kind-eq3 c = search rules

loop-at-smaller-then-kind-eq3 : tie.Need-loop-at-smaller-then-kind-eq3 invariant-loop-at decreases-loop-at
loop-at-smaller-then-kind-eq3 c = omega (arith, c.loop-at-test.true)

loop-at-preserved-then-kind-eq3 : tie.Need-loop-at-preserved-then-kind-eq3 invariant-loop-at decreases-loop-at
loop-at-preserved-then-kind-eq3 c = let o = c.loop-at.invariant in
    let d = c.data_in.ensures in (
      o.0,
      o.1,
      refl,
      omega (arith, o.3),
      c.put_if-to.ensures.long ∙ o.4,
      picking_data o.5 (data_here c.before.before.before) d.1
          d.2 d.3 c.put_if-to.ensures,
    )

item_in-item-requires : tie.Need-item_in-item-requires invariant-loop-at decreases-loop-at
item_in-item-requires c κs = (
  c.window_in-w.ensures,
  (
    omega (arith, c.loop-at-test.true),
    omega
        (arith, c.loop-at.invariant.0),
    pos_of _ c.if-kind-eq0.false,
    c.if-kind-gt8.false,
  ),
)

in_time-requires : tie.Need-in_time-requires invariant-loop-at decreases-loop-at
in_time-requires c κs = search rules

put_if-to-requires-in-loop-at : tie.Need-put_if-to-requires-in-loop-at invariant-loop-at decreases-loop-at
put_if-to-requires-in-loop-at c κs = let o = c.loop-at.invariant in picking_room o.5 (item_here c) _ o.0
    (omega (arith, o.1, o.4))

overflow_add-at-in-loop-at : tie.Need-overflow_add-at-in-loop-at invariant-loop-at decreases-loop-at
overflow_add-at-in-loop-at c = let h = item_here c.before.before.before.before in omega (arith, h.says.first_few, h.says.behind_few)

overflow_cast-at : tie.Need-overflow_cast-at invariant-loop-at decreases-loop-at
overflow_cast-at c = search rules

overflow_add-at-in-loop-at-2 : tie.Need-overflow_add-at-in-loop-at-2 invariant-loop-at decreases-loop-at
overflow_add-at-in-loop-at-2 c = let o = c.loop-at.invariant in omega
    (arith, o.0, next_fits o.5.walk (item_here c.before.before.before.before))

loop-at-smaller : tie.Need-loop-at-smaller invariant-loop-at decreases-loop-at
loop-at-smaller c = let h = item_here c.before.before.before.before in omega (
  arith,
  h.many,
  next_fits
      c.loop-at.invariant.5.walk h,
)

loop-at-preserved : tie.Need-loop-at-preserved invariant-loop-at decreases-loop-at
loop-at-preserved c = let o = c.loop-at.invariant in
    let t = sym c.in_time.ensures ∙ c.if-not-in_time.false in (
      o.0,
      o.1,
      refl,
      omega (arith, o.3),
      c.put_if-to-in-loop-at.ensures.long ∙ o.4,
      picking_more o.5 (item_here
          c.before.before.before.before) t c.put_if-to-in-loop-at.ensures,
    )

shape_of-built-after-loop-at : tie.Need-shape_of-built-after-loop-at invariant-loop-at decreases-loop-at
shape_of-built-after-loop-at c = c.loop-at.invariant.4

returns-after-loop-at : tie.Need-returns-after-loop-at invariant-loop-at decreases-loop-at
returns-after-loop-at c = (c.loop-at.invariant.3, c.loop-at.invariant.5)

shape_of-built-then-kind-eq0 : tie.Need-shape_of-built-then-kind-eq0 invariant-loop-at decreases-loop-at
shape_of-built-then-kind-eq0 c = c.loop-at.invariant.4

returns-then-kind-eq0 : tie.Need-returns-then-kind-eq0 invariant-loop-at decreases-loop-at
returns-then-kind-eq0 c = (c.loop-at.invariant.3, c.loop-at.invariant.5)

shape_of-built-then-kind-gt8 : tie.Need-shape_of-built-then-kind-gt8 invariant-loop-at decreases-loop-at
shape_of-built-then-kind-gt8 c = c.loop-at.invariant.4

returns-then-kind-gt8 : tie.Need-returns-then-kind-gt8 invariant-loop-at decreases-loop-at
returns-then-kind-gt8 c = (c.loop-at.invariant.3, c.loop-at.invariant.5)

shape_of-built-then-not-in_time : tie.Need-shape_of-built-then-not-in_time invariant-loop-at decreases-loop-at
shape_of-built-then-not-in_time c = c.loop-at.invariant.4

returns-then-not-in_time : tie.Need-returns-then-not-in_time invariant-loop-at decreases-loop-at
returns-then-not-in_time c = (c.loop-at.invariant.3, c.loop-at.invariant.5)

pub put_run_spec : {M : Type 1} → statement M
put_run_spec =
    tie.close
    (tie.spec
    invariant-loop-at
    decreases-loop-at
    overflow_mul-stop
    loop-at-init
    overflow_add-at
    window_in-w-requires
    data_in-requires
    put_if-to-requires
    overflow_add-at-then-kind-eq3
    loop-at-smaller-then-kind-eq3
    loop-at-preserved-then-kind-eq3
    item_in-item-requires
    in_time-requires
    put_if-to-requires-in-loop-at
    overflow_add-at-in-loop-at
    overflow_cast-at
    overflow_add-at-in-loop-at-2
    loop-at-smaller
    loop-at-preserved
    shape_of-built-after-loop-at
    returns-after-loop-at
    shape_of-built-then-kind-eq0
    returns-then-kind-eq0
    shape_of-built-then-kind-gt8
    returns-then-kind-gt8
    shape_of-built-then-not-in_time
    returns-then-not-in_time)
