use borrow.Author.Rules.{rules}
use native.Mathlib.Omega.{arith}
use mathlib.Core.Path.{ap, sym}
use Prim.Native.Nat.{ℕ, ◌+◌}
use Rattle.stream_piece.proofs.Laid.{needs_none, needs_one, no_time_laid, time_laid}
use Rattle.stream_piece.proofs.put_time.Statement.{statement}
use Rattle.stream_piece.proofs.put_time.Tie as tie
use Rattle.stream_piece.proofs.put_time.Reads as reads
use Rattle.stream_piece.proofs.put_time.Lts as lts
use Rattle.group_read.proofs.group_time.Reads as group-time-reads

abbrev start : tie.After-group_time → tie.Start
start c = c.before.before.before.before

group_time-requires : tie.Need-group_time-requires
group_time-requires c κs = search rules

offset_bounds-times-at : tie.Need-offset_bounds-times-at
offset_bounds-times-at c = search rules

bounds-times-at : tie.Need-bounds-times-at
bounds-times-at c = let s = start c in omega (arith, s.requires.2, needs_one s.args.plan c.if-plan.true)

overflow_add-result : tie.Need-overflow_add-result
overflow_add-result c = search rules

shape_of-times-then-plan : tie.Need-shape_of-times-then-plan
shape_of-times-then-plan c = search rules

returns-then-plan : tie.Need-returns-then-plan
returns-then-plan c =
    let s = start c in
    let e = c.if-plan.true in (
      ap (λ (n : ℕ). s.args.at + n) (sym (needs_one s.args.plan e)),
      time_laid _ s.args.at _ _ s.args.times.now e c.group_time.ensures
          (omega (arith, s.requires.2, needs_one s.args.plan e)),
    )

returns : tie.Need-returns
returns c =
    let s = c.before.before.before in
    (omega (arith, needs_none s.args.plan c.if-plan.false), no_time_laid _ s.args.at _ s.args.times.now c.if-plan.false)

pub put_time_spec : {M : Type 1} → statement M
put_time_spec =
    tie.close
    (tie.spec
    group_time-requires
    offset_bounds-times-at
    bounds-times-at
    overflow_add-result
    shape_of-times-then-plan
    returns-then-plan
    returns)
