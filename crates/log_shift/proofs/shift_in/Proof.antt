use Rattle.log_shift.proofs.Shifting.{put_finishes, room_for, within_limits}
use Rattle.log_move.specs.Moved.{moved_row}
use Rattle.from_c.specs.Numbers.{times_from}
use Rattle.format.specs.Log.{on_no_plan, parsed}
use mir.Facts.{to_z-of_z}
use lib.ListN.{length}
use Prim.Native.Nat.{◌*◌}
use native.Mathlib.Omega.{arith}
use borrow.Author.Rules.{rules}
use Rattle.log_shift.proofs.shift_in.Statement.{statement}
use Rattle.log_shift.proofs.shift_in.Tie as tie
use Rattle.log_shift.proofs.shift_in.Reads as reads
use Rattle.log_shift.proofs.shift_in.Lts as lts
use Rattle.log_move.proofs.put_moved.Reads as put-moved-reads
use Rattle.log_shift.proofs.shift_put.Reads as shift-put-reads

put_moved-put-requires : tie.Need-put_moved-put-requires
put_moved-put-requires c κs = (
  rw (to_z-of_z c.ranges.by)
      c.requires.0,
  λ h. room_for _ _ c.requires.1 h,
)

shift_put-requires : tie.Need-shift_put-requires
shift_put-requires c κs = let a = c.args in
    let s = rw (to_z-of_z c.ranges.by) at
    c.put_moved-put.ensures in (
      rw (to_z-of_z c.ranges.by)
          c.requires.0,
      put_finishes (moved_row a.by (parsed on_no_plan a.log.now)) (length a.log.now) _ _ _ s
          (λ h. omega (
            arith,
            c.requires.1 (omega
                (arith, h, c.built-1.given)),
            c.built-1.given,
          )),
    )

shape_of-times : tie.Need-shape_of-times
shape_of-times c = search rules

shape_of-out : tie.Need-shape_of-out
shape_of-out c = search rules

shape_of-built : tie.Need-shape_of-built
shape_of-built c = search rules

returns : tie.Need-returns
returns c = let a = c.args in
    let s = rw (to_z-of_z c.ranges.by) at c.put_moved-put.ensures in
    let f = rw (to_z-of_z c.ranges.by) at c.shift_put.ensures in
    rw (within_limits a.log.now (times_from a.times.now) a.by (length a.out.now)
    c.requires.0)
    (f (moved_row a.by (parsed on_no_plan a.log.now)) (length a.log.now * 8) s)

pub shift_in_spec : {M : Type 1} → statement M
shift_in_spec =
    tie.close
    (tie.spec
    put_moved-put-requires
    shift_put-requires
    shape_of-times
    shape_of-out
    shape_of-built
    returns)
