use Rattle.log_pass.proofs.Walking.{next_fits, not_false, not_true, passing_item, passing_start, pass_late, pass_long, pass_over, pass_wrong}
use Rattle.log_walk.proofs.Items.{ends_there, Holds, holds, wrong_there}
use Rattle.log_pass.specs.Pass.{Passing}
use lib.ListN.{length}
use mathlib.Core.Path.{◌≡◌, refl, sym, ◌∙◌}
use Prim.Native.Nat.{◌*◌, ◌-◌, ◌≤◌}
use native.Mathlib.Omega.{arith}
use borrow.Author.Rules.{rules}
use Rattle.log_pass.proofs.pass.Statement.{statement}
use Rattle.log_pass.proofs.pass.Tie as tie
use Rattle.log_pass.proofs.pass.Reads as reads
use Rattle.log_pass.proofs.pass.Lts as lts
use Rattle.log_pass.proofs.pass_run.Reads as pass-run-reads
use Rattle.log_walk.proofs.in_time.Reads as in-time-reads
use Rattle.log_walk.proofs.piece_at.Reads as piece-at-reads

abbrev invariant-loop-item : tie.invariant-loop-item
invariant-loop-item log from₀ from = (length log ≤ 32768) × Passing log from

abbrev decreases-loop-item : tie.decreases-loop-item
decreases-loop-item log from₀ from = length log * 8 - from

-- the item that was found
late_here : (c : tie.Then-not-in_time invariant-loop-item decreases-loop-item) → Holds c.args.log.now
    c.pass_run-at.result c.in-Item.item
late_here c = holds _ _ _ c.in-Item.item c.piece_at.ensures c.in-Item.is

item_here : (c : tie.After-struct_known-1 invariant-loop-item decreases-loop-item) → Holds
    c.args.log.now
    c.pass_run-at.result c.in-Item.item
item_here c = holds _ _ _ c.in-Item.item c.piece_at.ensures
    c.in-Item.is

returns-then-log-gt32768 : tie.Need-returns-then-log-gt32768 invariant-loop-item decreases-loop-item
returns-then-log-gt32768 c = pass_long c.args.log.now c.if-log-gt32768.true

loop-item-init : tie.Need-loop-item-init invariant-loop-item decreases-loop-item
loop-item-init c = (c.if-log-gt32768.false, passing_start c.args.log.now c.if-log-gt32768.false)

pass_run-at-requires : tie.Need-pass_run-at-requires invariant-loop-item decreases-loop-item
pass_run-at-requires c κs = c.loop-item.invariant

piece_at-requires : tie.Need-piece_at-requires invariant-loop-item decreases-loop-item
piece_at-requires c κs = search rules

enum_known-item : tie.Need-enum_known-item invariant-loop-item decreases-loop-item
enum_known-item c = search rules

in_time-requires : tie.Need-in_time-requires invariant-loop-item decreases-loop-item
in_time-requires c κs = search rules

returns-then-not-in_time : tie.Need-returns-then-not-in_time invariant-loop-item decreases-loop-item
returns-then-not-in_time c = pass_late c.pass_run-at.ensures.1 (late_here c) (sym c.in_time.ensures ∙ c.if-not-in_time.true)

overflow_add-from : tie.Need-overflow_add-from invariant-loop-item decreases-loop-item
overflow_add-from c = omega (arith, (item_here c).says.first_few, (item_here c).says.behind_few)

overflow_cast-from : tie.Need-overflow_cast-from invariant-loop-item decreases-loop-item
overflow_cast-from c = search rules

overflow_add-from-in-Item : tie.Need-overflow_add-from-in-Item invariant-loop-item decreases-loop-item
overflow_add-from-in-Item c = omega (
  arith,
  c.loop-item.invariant.0,
  next_fits
      c.pass_run-at.ensures.1.walk (item_here c),
)

loop-item-smaller : tie.Need-loop-item-smaller invariant-loop-item decreases-loop-item
loop-item-smaller c = omega (
  arith,
  c.pass_run-at.ensures.0,
  (item_here c).many,
  next_fits
      c.pass_run-at.ensures.1.walk (item_here c),
)

loop-item-preserved : tie.Need-loop-item-preserved invariant-loop-item decreases-loop-item
loop-item-preserved c = (
  c.loop-item.invariant.0,
  passing_item
      c.pass_run-at.ensures.1 (item_here c) (sym c.in_time.ensures ∙ c.if-not-in_time.false),
)

enum_told-1 : tie.Need-enum_told-1 invariant-loop-item decreases-loop-item
enum_told-1 c = search rules

returns-in-End : tie.Need-returns-in-End invariant-loop-item decreases-loop-item
returns-in-End c = pass_over c.pass_run-at.ensures.1 (ends_there _ (sym c.piece_at.ensures ∙ c.in-End.is))

enum_told-in-Wrong : tie.Need-enum_told-in-Wrong invariant-loop-item decreases-loop-item
enum_told-in-Wrong c = search rules

returns-in-Wrong : tie.Need-returns-in-Wrong invariant-loop-item decreases-loop-item
returns-in-Wrong c = pass_wrong c.pass_run-at.ensures.1 (wrong_there _ (sym c.piece_at.ensures ∙ c.in-Wrong.is))

pub pass_spec : {M : Type 1} → statement M
pass_spec =
    tie.close
    (tie.spec
    invariant-loop-item
    decreases-loop-item
    returns-then-log-gt32768
    loop-item-init
    pass_run-at-requires
    piece_at-requires
    enum_known-item
    in_time-requires
    returns-then-not-in_time
    overflow_add-from
    overflow_cast-from
    overflow_add-from-in-Item
    loop-item-smaller
    loop-item-preserved
    enum_told-1
    returns-in-End
    enum_told-in-Wrong
    returns-in-Wrong)
