use mir.Val.{of_z}
use Rattle.log_walk.proofs.Items.{Holds}
use Rattle.log_move.specs.Moved.{Moving}
use mir.Facts.{to_z-of_z}
use Rattle.log_move.proofs.Moving.{can_move, cannot_move, moved_is, moved_size, moving_fails, moving_more, moving_over, moving_room, moving_start}
use Rattle.log_walk.proofs.Items.{ends_there, holds, wrong_there}
use Rattle.log_put.proofs.Putting.{holds_fits}
use Rattle.log_pass.proofs.Walking.{next_fits, not_false, not_true, walk_late}
use Rattle.log_rules.specs.Laws.Checking.{walk_long, walk_wrong}
use Rattle.format.specs.Log.{on_no_plan}
use mir.Val.{to_z}
use mir.Syntax.{w64}
use lib.ListN.{length}
use mathlib.Core.Path.{◌≡◌, refl, sym, ◌∙◌}
use Prim.Native.Nat.{◌+◌, ◌*◌, ◌-◌, ◌≤◌}
use native.Mathlib.Omega.{arith}
use borrow.Author.Rules.{rules}
use Rattle.log_move.proofs.put_moved.Statement.{statement}
use Rattle.log_move.proofs.put_moved.Tie as tie
use Rattle.log_move.proofs.put_moved.Reads as reads
use Rattle.log_move.proofs.put_moved.Lts as lts
use Rattle.log_move.proofs.judged.Reads as judged-reads
use Rattle.log_move.proofs.moved_tag.Reads as moved-tag-reads
use Rattle.log_move.proofs.with_time.Reads as with-time-reads
use Rattle.log_put.proofs.put_packed.Reads as put-packed-reads
use Rattle.log_walk.proofs.in_time.Reads as in-time-reads
use Rattle.log_walk.proofs.piece_at.Reads as piece-at-reads
use Rattle.log_write.proofs.Pen.start.Reads as start-reads

abbrev invariant-loop-item : tie.invariant-loop-item
invariant-loop-item log by built₀ at₀ to₀ built at to =
    (length log ≤ 32768) × (length built ≡ length built₀) × Moving log (to_z w64 by) built at to × (length log + 8 ≤ length built₀)

abbrev decreases-loop-item : tie.decreases-loop-item
decreases-loop-item log by built₀ at₀ to₀ built at to = length log * 8 - at

returns-then-log-gt32768 : tie.Need-returns-then-log-gt32768 invariant-loop-item decreases-loop-item
returns-then-log-gt32768 c = rw (walk_long on_no_plan c.args.log.now c.if-log-gt32768.true) refl

start-to-requires : tie.Need-start-to-requires invariant-loop-item decreases-loop-item
start-to-requires c κs = search rules

loop-item-init : tie.Need-loop-item-init invariant-loop-item decreases-loop-item
loop-item-init c = (
  c.if-log-gt32768.false,
  refl,
  moving_start c.args.log.now _ _ _ c.if-log-gt32768.false
      c.start-to.ensures,
  c.requires.1 c.if-log-gt32768.false,
)

piece_at-requires : tie.Need-piece_at-requires invariant-loop-item decreases-loop-item
piece_at-requires c κs = let o = c.loop-item.invariant in (o.2.walk.fits, omega (arith, o.0))

enum_known-item : tie.Need-enum_known-item invariant-loop-item decreases-loop-item
enum_known-item c = search rules

in_time-requires : tie.Need-in_time-requires invariant-loop-item decreases-loop-item
in_time-requires c κs = search rules

shape_of-built-then-not-in_time : tie.Need-shape_of-built-then-not-in_time invariant-loop-item decreases-loop-item
shape_of-built-then-not-in_time c = c.loop-item.invariant.1

returns-then-not-in_time : tie.Need-returns-then-not-in_time invariant-loop-item decreases-loop-item
returns-then-not-in_time c =
    let o = c.loop-item in
    let i = c.in-Item in
    let h = holds c.args.log.now o.at
    c.piece_at.result i.item c.piece_at.ensures i.is in
    rw (walk_late o.invariant.2.walk h (sym c.in_time.ensures ∙ c.if-not-in_time.true)) refl

moved_tag-time-requires : tie.Need-moved_tag-time-requires invariant-loop-item decreases-loop-item
moved_tag-time-requires c κs =
    let o = c.loop-item in
    let i = c.in-Item in
    let h = holds c.args.log.now o.at
    c.piece_at.result i.item c.piece_at.ensures i.is in (
      rw (to_z-of_z c.ranges.by)
          c.requires.0,
      holds_fits h,
    )

judged-requires : tie.Need-judged-requires invariant-loop-item decreases-loop-item
judged-requires c κs = search rules

shape_of-built-then-time-ge42949672960000 : tie.Need-shape_of-built-then-time-ge42949672960000 invariant-loop-item decreases-loop-item
shape_of-built-then-time-ge42949672960000 c = c.loop-item.invariant.1

returns-then-time-ge42949672960000 : tie.Need-returns-then-time-ge42949672960000 invariant-loop-item decreases-loop-item
returns-then-time-ge42949672960000 c =
    let o = c.loop-item in
    let i = c.in-Item in
    let h = holds c.args.log.now o.at
    c.piece_at.result i.item
    c.piece_at.ensures i.is in
    let t = sym c.in_time.ensures ∙ c.if-not-in_time.false in
    let f = cannot_move _ h _ c.moved_tag-time.ensures c.if-time-ge42949672960000.true in
    rw c.judged.ensures (rw (to_z-of_z c.ranges.by) at (moving_fails o.invariant.2 h t o.built f))

with_time-requires : tie.Need-with_time-requires invariant-loop-item decreases-loop-item
with_time-requires c κs = omega (arith, c.if-time-ge42949672960000.false)

put_packed-to-requires : tie.Need-put_packed-to-requires invariant-loop-item decreases-loop-item
put_packed-to-requires c κs =
    let o = c.loop-item in
    let i = c.in-Item in
    let h = holds c.args.log.now
    o.at c.piece_at.result i.item
    c.piece_at.ensures i.is in
    moving_room o.invariant.2 h _ _ _ c.with_time.ensures c.if-time-ge42949672960000.false (omega (arith, o.invariant.1, o.invariant.3))

overflow_add-at : tie.Need-overflow_add-at invariant-loop-item decreases-loop-item
overflow_add-at c =
    let o = c.loop-item in
    let i = c.in-Item in
    let a = c in
    let h = holds a.args.log.now o.at a.piece_at.result i.item a.piece_at.ensures i.is in
    omega (arith, h.says.first_few, h.says.behind_few)

overflow_cast-at : tie.Need-overflow_cast-at invariant-loop-item decreases-loop-item
overflow_cast-at c = search rules

overflow_add-at-in-Item : tie.Need-overflow_add-at-in-Item invariant-loop-item decreases-loop-item
overflow_add-at-in-Item c =
    let o = c.loop-item in
    let i = c.in-Item in
    let a = c in
    let h = holds a.args.log.now o.at a.piece_at.result i.item a.piece_at.ensures i.is in
    omega (arith, o.invariant.0, next_fits o.invariant.2.walk h)

-- the item that was found, and what is put with it
item_here : (c : tie.After-put_data-arg-1 invariant-loop-item decreases-loop-item) → Holds
    c.args.log.now c.loop-item.at
    c.in-Item.item
item_here c = holds _ _ _ c.in-Item.item
    c.piece_at.ensures
    c.in-Item.is

moved_here : (c : tie.After-put_data-arg-1 invariant-loop-item decreases-loop-item)
    → Moving c.args.log.now (to_z w64 (of_z w64
    c.args.by)) c.put_packed-to.new.built
    (c.loop-item.at +
    (c.in-Item.item.first_bits + c.in-Item.item.behind_bits))
    c.put_packed-to.result
moved_here c =
    let h = item_here c in
    let t = sym c.in_time.ensures ∙ c.if-not-in_time.false in
    let e = c.moved_tag-time.ensures in
    let m = moved_is _ h _ e _ c.if-time-ge42949672960000.false c.with_time.ensures in
    let l = moved_size _ c.in-Item.item _
    c.with_time.ensures in
    moving_more c.loop-item.invariant.2 h t _
    (can_move _ h _ e c.if-time-ge42949672960000.false) m l c.put_packed-to.ensures

put_data-here-requires : tie.Need-put_data-here-requires invariant-loop-item decreases-loop-item
put_data-here-requires c κs = let o = c.loop-item.invariant in
    let m = moved_here c in
    (o.0, omega (arith, o.1, o.3, c.put_packed-to.ensures.long), m.few, m.walk.fits)

loop-item-smaller : tie.Need-loop-item-smaller invariant-loop-item decreases-loop-item
loop-item-smaller c = let d = c.put_data-here.ensures in omega (arith, d.on, d.within, (item_here c.before.before.before.before).many)

loop-item-preserved : tie.Need-loop-item-preserved invariant-loop-item decreases-loop-item
loop-item-preserved c = let o = c.loop-item.invariant in (
  o.0,
  c.built-in-Item-1.given ∙ c.put_packed-to.ensures.long ∙ o.1,
  c.put_data-here.ensures.moves _ (moved_here c.before.before.before.before),
  o.3,
)

enum_told-1 : tie.Need-enum_told-1 invariant-loop-item decreases-loop-item
enum_told-1 c = search rules

shape_of-built-in-End : tie.Need-shape_of-built-in-End invariant-loop-item decreases-loop-item
shape_of-built-in-End c = c.loop-item.invariant.1

returns-in-End : tie.Need-returns-in-End invariant-loop-item decreases-loop-item
returns-in-End c = rw (to_z-of_z c.ranges.by) at (moving_over c.loop-item.invariant.2
    (ends_there _ (sym c.piece_at.ensures ∙ c.in-End.is)))

enum_told-in-Wrong : tie.Need-enum_told-in-Wrong invariant-loop-item decreases-loop-item
enum_told-in-Wrong c = search rules

shape_of-built-in-Wrong : tie.Need-shape_of-built-in-Wrong invariant-loop-item decreases-loop-item
shape_of-built-in-Wrong c = c.loop-item.invariant.1

returns-in-Wrong : tie.Need-returns-in-Wrong invariant-loop-item decreases-loop-item
returns-in-Wrong c = rw (walk_wrong on_no_plan _ c.loop-item.invariant.2.walk (wrong_there _ (sym c.piece_at.ensures ∙ c.in-Wrong.is))) refl

pub put_moved_spec : {M : Type 1} → statement M
put_moved_spec =
    tie.close
    (tie.spec
    invariant-loop-item
    decreases-loop-item
    returns-then-log-gt32768
    start-to-requires
    loop-item-init
    piece_at-requires
    enum_known-item
    in_time-requires
    shape_of-built-then-not-in_time
    returns-then-not-in_time
    moved_tag-time-requires
    judged-requires
    shape_of-built-then-time-ge42949672960000
    returns-then-time-ge42949672960000
    with_time-requires
    put_packed-to-requires
    overflow_add-at
    overflow_cast-at
    overflow_add-at-in-Item
    put_data-here-requires
    loop-item-smaller
    loop-item-preserved
    enum_told-1
    shape_of-built-in-End
    returns-in-End
    enum_told-in-Wrong
    shape_of-built-in-Wrong
    returns-in-Wrong)
