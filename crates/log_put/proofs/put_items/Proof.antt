use Rattle.log_put.proofs.Putting.{picking_more, picking_over, picking_room, picking_start}
use Rattle.log_pass.proofs.Walking.{next_fits, not_false, not_true, walk_late}
use Rattle.log_rules.specs.Laws.Checking.{walk_long, walk_wrong}
use Rattle.format.specs.Log.{on_no_plan}
use Rattle.log_walk.proofs.Items.{ends_there, Holds, holds, wrong_there}
use Rattle.log_put.specs.Put.{Picking}
use lib.ListN.{length}
use mathlib.Core.Path.{◌≡◌, refl, sym, ◌∙◌}
use Prim.Native.Nat.{◌+◌, ◌*◌, ◌-◌, ◌≤◌}
use native.Mathlib.Omega.{arith}
use borrow.Author.Rules.{rules}
use Rattle.log_put.proofs.put_items.Statement.{statement}
use Rattle.log_put.proofs.put_items.Tie as tie
use Rattle.log_put.proofs.put_items.Reads as reads
use Rattle.log_put.proofs.put_items.Lts as lts
use Rattle.log_put.proofs.put_if.Reads as put-if-reads
use Rattle.log_put.proofs.put_run.Reads as put-run-reads
use Rattle.log_walk.proofs.in_time.Reads as in-time-reads
use Rattle.log_walk.proofs.piece_at.Reads as piece-at-reads
use Rattle.log_write.proofs.Pen.start.Reads as start-reads

abbrev invariant-loop-item : tie.invariant-loop-item
invariant-loop-item log buses built₀ spot₀ built spot =
    (length log ≤ 32768) × (length log + 8 ≤ length built₀) × (length built ≡ length built₀) × Picking log buses built spot.at spot.pen

abbrev decreases-loop-item : tie.decreases-loop-item
decreases-loop-item log buses built₀ spot₀ built spot = length log * 8 - spot.at

-- the item that was found
late_here : (c : tie.Then-not-in_time invariant-loop-item decreases-loop-item) → Holds
    c.args.log.now
    c.put_run-here.result.at c.in-Item.item
late_here c = holds _ _ _ c.in-Item.item c.piece_at.ensures c.in-Item.is

item_here : (c : tie.After-struct_known-1 invariant-loop-item decreases-loop-item) → Holds
    c.args.log.now
    c.put_run-here.result.at c.in-Item.item
item_here c = holds _ _ _ c.in-Item.item c.piece_at.ensures
    c.in-Item.is

returns-then-log-gt32768 : tie.Need-returns-then-log-gt32768 invariant-loop-item decreases-loop-item
returns-then-log-gt32768 c = rw (walk_long on_no_plan c.args.log.now c.if-log-gt32768.true) refl

start-requires : tie.Need-start-requires invariant-loop-item decreases-loop-item
start-requires c κs = search rules

loop-item-init : tie.Need-loop-item-init invariant-loop-item decreases-loop-item
loop-item-init c = let a = c.args in rw c.start.ensures (
  c.if-log-gt32768.false,
  c.requires
      c.if-log-gt32768.false,
  refl,
  picking_start a.log.now a.buses a.built.now c.if-log-gt32768.false,
)

put_run-here-requires : tie.Need-put_run-here-requires invariant-loop-item decreases-loop-item
put_run-here-requires c κs = let o = c.loop-item.invariant in (o.0, omega (arith, o.1, o.2), o.3)

piece_at-requires : tie.Need-piece_at-requires invariant-loop-item decreases-loop-item
piece_at-requires c κs = (c.put_run-here.ensures.1.walk.fits, omega (arith, c.loop-item.invariant.0))

enum_known-item : tie.Need-enum_known-item invariant-loop-item decreases-loop-item
enum_known-item c = search rules

in_time-requires : tie.Need-in_time-requires invariant-loop-item decreases-loop-item
in_time-requires c κs = search rules

shape_of-built-then-not-in_time : tie.Need-shape_of-built-then-not-in_time invariant-loop-item decreases-loop-item
shape_of-built-then-not-in_time c = c.built-1.given ∙ c.loop-item.invariant.2

returns-then-not-in_time : tie.Need-returns-then-not-in_time invariant-loop-item decreases-loop-item
returns-then-not-in_time c = rw (walk_late c.put_run-here.ensures.1.walk (late_here c) (sym
    c.in_time.ensures ∙ c.if-not-in_time.true)) refl

overflow_add-spot : tie.Need-overflow_add-spot invariant-loop-item decreases-loop-item
overflow_add-spot c = let h = item_here c in omega (arith, h.says.first_few, h.says.behind_few)

overflow_cast-spot : tie.Need-overflow_cast-spot invariant-loop-item decreases-loop-item
overflow_cast-spot c = search rules

overflow_add-spot-in-Item : tie.Need-overflow_add-spot-in-Item invariant-loop-item decreases-loop-item
overflow_add-spot-in-Item c = search rules

put_if-requires : tie.Need-put_if-requires invariant-loop-item decreases-loop-item
put_if-requires c κs = let o = c.loop-item.invariant in
    picking_room c.put_run-here.ensures.1 (item_here c.before) _ o.0
    (omega (arith, o.1, o.2, c.built-1.given))

loop-item-smaller : tie.Need-loop-item-smaller invariant-loop-item decreases-loop-item
loop-item-smaller c = let r = c.put_run-here.ensures in let h =
    item_here c.before.before.before.before in omega (arith, r.0, h.many, next_fits r.1.walk h)

loop-item-preserved : tie.Need-loop-item-preserved invariant-loop-item decreases-loop-item
loop-item-preserved c = let o = c.loop-item.invariant in
    let r = c.put_run-here.ensures in
    let t = sym c.in_time.ensures ∙ c.if-not-in_time.false in (
      o.0,
      o.1,
      c.put_if.ensures.long ∙ c.built-1.given ∙ o.2,
      picking_more r.1 (item_here c.before.before.before.before) t c.put_if.ensures,
    )

enum_told-1 : tie.Need-enum_told-1 invariant-loop-item decreases-loop-item
enum_told-1 c = search rules

shape_of-built-in-End : tie.Need-shape_of-built-in-End invariant-loop-item decreases-loop-item
shape_of-built-in-End c = c.built-1.given ∙ c.loop-item.invariant.2

returns-in-End : tie.Need-returns-in-End invariant-loop-item decreases-loop-item
returns-in-End c = picking_over c.put_run-here.ensures.1
    c.loop-item.invariant.0 (ends_there _ (sym c.piece_at.ensures ∙ c.in-End.is))

enum_told-in-Wrong : tie.Need-enum_told-in-Wrong invariant-loop-item decreases-loop-item
enum_told-in-Wrong c = search rules

shape_of-built-in-Wrong : tie.Need-shape_of-built-in-Wrong invariant-loop-item decreases-loop-item
shape_of-built-in-Wrong c = c.built-1.given ∙ c.loop-item.invariant.2

returns-in-Wrong : tie.Need-returns-in-Wrong invariant-loop-item decreases-loop-item
returns-in-Wrong c = rw (walk_wrong on_no_plan c.args.log.now
    c.put_run-here.ensures.1.walk (wrong_there _ (sym
    c.piece_at.ensures ∙ c.in-Wrong.is))) refl

pub put_items_spec : {M : Type 1} → statement M
put_items_spec =
    tie.close
    (tie.spec
    invariant-loop-item
    decreases-loop-item
    returns-then-log-gt32768
    start-requires
    loop-item-init
    put_run-here-requires
    piece_at-requires
    enum_known-item
    in_time-requires
    shape_of-built-then-not-in_time
    returns-then-not-in_time
    overflow_add-spot
    overflow_cast-spot
    overflow_add-spot-in-Item
    put_if-requires
    loop-item-smaller
    loop-item-preserved
    enum_told-1
    shape_of-built-in-End
    returns-in-End
    enum_told-in-Wrong
    shape_of-built-in-Wrong
    returns-in-Wrong)
