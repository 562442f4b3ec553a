use Rattle.log_shift.proofs.Shifting.{beyond_limits, never_all}
use Rattle.format.specs.Log.{on_no_plan, parsed}
use mir.Facts.{to_z-of_z}
use mathlib.Core.Path.{sym, ◌∙◌}
use native.Mathlib.Omega.{arith}
use borrow.Author.Rules.{rules}
use Rattle.log_shift.proofs.shift.Statement.{statement}
use Rattle.log_shift.proofs.shift.Tie as tie
use Rattle.log_shift.proofs.shift.Reads as reads
use Rattle.log_shift.proofs.shift.Lts as lts
use Rattle.log_close.proofs.refusal.Reads as refusal-reads
use Rattle.log_move.proofs.in_limits.Reads as in-limits-reads
use Rattle.log_move.proofs.judged.Reads as judged-reads
use Rattle.log_shift.proofs.shift_moved.Reads as shift-moved-reads

in_limits-requires : tie.Need-in_limits-requires
in_limits-requires c κs = search rules

shift_moved-requires : tie.Need-shift_moved-requires
shift_moved-requires c κs = rw (to_z-of_z c.ranges.by) (sym (rw (to_z-of_z c.ranges.by) at c.in_limits.ensures) ∙ c.if-in_limits.true)

shape_of-times-then-in_limits : tie.Need-shape_of-times-then-in_limits
shape_of-times-then-in_limits c = search rules

shape_of-out-then-in_limits : tie.Need-shape_of-out-then-in_limits
shape_of-out-then-in_limits c = search rules

returns-then-in_limits : tie.Need-returns-then-in_limits
returns-then-in_limits c = rw (to_z-of_z c.ranges.by) at c.shift_moved.ensures

judged-requires : tie.Need-judged-requires
judged-requires c κs = search rules

enum_told-1 : tie.Need-enum_told-1
enum_told-1 c = search rules

refusal-requires : tie.Need-refusal-requires
refusal-requires c κs = search rules

enum_known-number : tie.Need-enum_known-number
enum_known-number c = search rules

refusal-requires-in-Fault : tie.Need-refusal-requires-in-Fault
refusal-requires-in-Fault c κs = search rules

returns-in-All : tie.Need-returns-in-All
returns-in-All c = never_all (parsed on_no_plan c.args.log.now) 0 _ _ c.judged.ensures c.in-All.is

returns-in-Fault : tie.Need-returns-in-Fault
returns-in-Fault c =
    let a = c.args in
    let l = sym (rw (to_z-of_z c.ranges.by) at c.in_limits.ensures) ∙ c.if-in_limits.false in
    beyond_limits a.log.now _ a.by _ _ _ _ _ _ _ l c.judged.ensures c.in-Fault.is c.refusal-in-Fault.ensures

pub shift_spec : {M : Type 1} → statement M
shift_spec =
    tie.close
    (tie.spec
    in_limits-requires
    shift_moved-requires
    shape_of-times-then-in_limits
    shape_of-out-then-in_limits
    returns-then-in_limits
    judged-requires
    enum_told-1
    refusal-requires
    enum_known-number
    refusal-requires-in-Fault
    returns-in-All
    returns-in-Fault)
