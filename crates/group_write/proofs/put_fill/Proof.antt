use borrow.Author.Rules.{rules}
use native.Mathlib.Omega.{arith}
use Rattle.group_write.specs.Writing.{same_rows}
use Rattle.group_write.proofs.Laws.{length_list}
use Rattle.group_write.proofs.Words.{Written, written_length, written_over}
use Rattle.group_write.proofs.Tops.{blank_is, blank_tails}
use Rattle.group_write.proofs.put_fill.Statement.{statement}
use Rattle.group_write.proofs.put_fill.Tie as tie

-- where fill is on bus 0, and where it is not; the function's entry
abbrev start-then : tie.Then-plan-eq0 → tie.Start
start-then c = c.before.before.before.before.before.before.before

abbrev start-else : tie.Else-plan-eq0 → tie.Start
start-else c = c.before.before.before.before.before.before.before

-- the rows of fill on bus 0 are written there
blanked : (c : tie.Else-plan-eq0)
    → let s = start-else c in Written (same_rows 0x01AAAA s.args.rows) s.args.rows s.args.out.now c.fill_rows.new.out
blanked c =
    let s = start-else c in
    record { is = c.fill_rows.ensures; count = length_list (λ r. 0x01AAAA) 0 s.args.rows; fits = s.requires.1 }

-- and then those of fill on the plan's code
abbrev filled : tie.After-top_rows → tie.After-fill-fill
filled c = c.before.before

topped : (c : tie.After-top_rows)
    → let f = filled c in
    let s = start-else f.before in Written (same_rows f.fill-fill.result s.args.rows) s.args.rows s.args.out.now c.top_rows.new.out
topped c =
    let f = filled c in
    let s = start-else f.before in
    let n = s.args.rows in
    let b = blanked f.before in
    written_over b
    (record { is = c.top_rows.ensures; count = length_list (λ r. f.fill-fill.result) 0 n; fits = omega (arith, written_length b, s.requires.1) })
    (omega arith)

fill_rows-requires : tie.Need-fill_rows-requires
fill_rows-requires c κs = let s = c.before.before in (s.requires.1, s.requires.2, omega arith)

with_same-requires : tie.Need-with_same-requires
with_same-requires c κs = ((start-then c).requires.3, omega arith)

shape_of-out-then-plan-eq0 : tie.Need-shape_of-out-then-plan-eq0
shape_of-out-then-plan-eq0 c = search rules

returns-then-plan-eq0 : tie.Need-returns-then-plan-eq0
returns-then-plan-eq0 c =
    let t = c.before in
    let s = start-then t in
    rw (← (blank_is s.args.plan.parity s.args.plan.fill_bus t.if-plan-eq0.true)) (c.with_same.ensures, t.fill_rows.ensures)

fill-fill-requires : tie.Need-fill-fill-requires
fill-fill-requires c κs = (start-else c).requires.0.filling

top_rows-requires : tie.Need-top_rows-requires
top_rows-requires c κs =
    let f = c.before in
    let s = start-else f.before in
    let p = s.args.plan in (
      omega (arith, written_length (blanked f.before), s.requires.1),
      s.requires.2,
      f.fill-fill.ensures.1,
      blank_tails p.parity p.fill_bus s.args.rows _ s.requires.0.filling f.fill-fill.ensures.0 (blanked f.before).is,
    )

with_same-requires-2 : tie.Need-with_same-requires-2
with_same-requires-2 c κs = let f = c.before.before.before.before in ((start-else f.before).requires.3, f.fill-fill.ensures.1)

shape_of-out : tie.Need-shape_of-out
shape_of-out c = written_length (topped c.before.before.before)

returns : tie.Need-returns
returns c =
    let t = c.before.before.before in
    rw (← (filled t).fill-fill.ensures.0) (c.with_same-2.ensures, (topped t).is)

pub put_fill_spec : {M : Type 1} → statement M
put_fill_spec = tie.close (tie.spec fill_rows-requires with_same-requires shape_of-out-then-plan-eq0 returns-then-plan-eq0 fill-fill-requires top_rows-requires with_same-requires-2 shape_of-out returns)
