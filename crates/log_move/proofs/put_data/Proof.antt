use Rattle.log_move.specs.Moved.{Moving}
use Rattle.log_move.proofs.Moving.{moving_data}
use Rattle.log_put.proofs.Putting.{holds_fits}
use Rattle.log_walk.proofs.Items.{Holds, holds}
use lib.IntN.{ℤ}
use lib.ListN.{length}
use mathlib.Core.Path.{◌≡◌, refl, ◌∙◌}
use Prim.Native.Nat.{◌+◌, ◌*◌, ◌-◌, ◌≤◌}
use native.Mathlib.Omega.{arith}
use borrow.Author.Rules.{rules}
use Rattle.log_move.proofs.put_data.Statement.{statement}
use Rattle.log_move.proofs.put_data.Tie as tie
use Rattle.log_move.proofs.put_data.Reads as reads
use Rattle.log_move.proofs.put_data.Lts as lts
use Rattle.log_put.proofs.put_packed.Reads as put-packed-reads
use Rattle.log_walk.proofs.data_in.Reads as data-in-reads
use Rattle.log_walk.proofs.window_in.Reads as window-in-reads

abbrev invariant-loop-at : tie.invariant-loop-at
invariant-loop-at log built₀ at₀ to₀ stop built at to =
    (length log ≤ 32768) × (length log + 8 ≤ length built₀) × (stop ≡ length log * 8) × (at₀ ≤ at) × (at ≤ length log * 8) × (to.bits ≤ at) × (length built ≡ length built₀)
    × ((by : ℤ) → Moving log by built₀ at₀ to₀ → Moving log by built at to)

abbrev decreases-loop-at : tie.decreases-loop-at
decreases-loop-at log built₀ at₀ to₀ stop built at to = length log * 8 - at

-- the data word that was found
data_here : (c : tie.After-data_in invariant-loop-at decreases-loop-at) → Holds c.args.log.now
    c.loop-at.at c.data_in.result
data_here c = holds _ _ _ c.data_in.result c.data_in.ensures.0 refl

overflow_mul-stop : tie.Need-overflow_mul-stop invariant-loop-at decreases-loop-at
overflow_mul-stop c = search rules

loop-at-init : tie.Need-loop-at-init invariant-loop-at decreases-loop-at
loop-at-init c = let q = c.requires in (q.0, q.1, refl, omega arith, q.3, q.2, refl, λ by m. m)

overflow_add-at : tie.Need-overflow_add-at invariant-loop-at decreases-loop-at
overflow_add-at c = search rules

window_in-w-requires : tie.Need-window_in-w-requires invariant-loop-at decreases-loop-at
window_in-w-requires c κs = search rules

data_in-requires : tie.Need-data_in-requires invariant-loop-at decreases-loop-at
data_in-requires c κs = (c.window_in-w.ensures, (omega (arith, c.loop-at-test.true), c.if-w-ne3.false))

put_packed-to-requires : tie.Need-put_packed-to-requires invariant-loop-at decreases-loop-at
put_packed-to-requires c κs = let o = c.loop-at.invariant in
    let d = c.data_in.ensures in
    (omega (arith, o.0, o.4, o.5), holds_fits (data_here c), omega (arith, o.1, o.5, o.6, d.1, c.loop-at-test.true))

overflow_add-at-in-loop-at : tie.Need-overflow_add-at-in-loop-at invariant-loop-at decreases-loop-at
overflow_add-at-in-loop-at c = search rules

loop-at-smaller : tie.Need-loop-at-smaller invariant-loop-at decreases-loop-at
loop-at-smaller c = omega (arith, c.loop-at-test.true)

loop-at-preserved : tie.Need-loop-at-preserved invariant-loop-at decreases-loop-at
loop-at-preserved c = let o = c.loop-at.invariant in
    let d = c.data_in.ensures in
    let x = c.put_packed-to.ensures in (
      o.0,
      o.1,
      refl,
      omega (arith, o.3),
      omega (arith, c.loop-at-test.true),
      omega (arith, o.5, x.few, d.1, d.3),
      x.long ∙ o.6,
      λ by m. moving_data (o.7 by m) (data_here c.before.before.before) d.1 d.2 d.3 x,
    )

shape_of-built-after-loop-at : tie.Need-shape_of-built-after-loop-at invariant-loop-at decreases-loop-at
shape_of-built-after-loop-at c = c.loop-at.invariant.6

returns-after-loop-at : tie.Need-returns-after-loop-at invariant-loop-at decreases-loop-at
returns-after-loop-at c = let o = c.loop-at.invariant in record { on = o.3; within = o.4; moves = o.7 }

shape_of-built-then-w-ne3 : tie.Need-shape_of-built-then-w-ne3 invariant-loop-at decreases-loop-at
shape_of-built-then-w-ne3 c = c.loop-at.invariant.6

returns-then-w-ne3 : tie.Need-returns-then-w-ne3 invariant-loop-at decreases-loop-at
returns-then-w-ne3 c = let o = c.loop-at.invariant in record { on = o.3; within = o.4; moves = o.7 }

pub put_data_spec : {M : Type 1} → statement M
put_data_spec =
    tie.close
    (tie.spec
    invariant-loop-at
    decreases-loop-at
    overflow_mul-stop
    loop-at-init
    overflow_add-at
    window_in-w-requires
    data_in-requires
    put_packed-to-requires
    overflow_add-at-in-loop-at
    loop-at-smaller
    loop-at-preserved
    shape_of-built-after-loop-at
    returns-after-loop-at
    shape_of-built-then-w-ne3
    returns-then-w-ne3)
