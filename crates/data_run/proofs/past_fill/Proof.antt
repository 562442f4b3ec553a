use native.Mathlib.Omega.{arith}
use mathlib.Core.Path.{sym, ◌∙◌}
use lib.ListN.{length}
use Prim.Native.Nat.{◌-◌}
use Rattle.data_run.proofs.Rows.{Filled, filled_four, filled_none, filled_one, past_first, past_front, past_some}
use borrow.Author.Rules.{rules}
use Rattle.data_run.proofs.past_fill.Statement.{statement}
use Rattle.data_run.proofs.past_fill.Tie as tie

abbrev invariant-loop-slot : tie.invariant-loop-slot
invariant-loop-slot parity code row i slot₀ blank slot = Filled blank row i slot

abbrev decreases-loop-slot : tie.decreases-loop-slot
decreases-loop-slot parity code row i slot₀ blank slot = length row - slot

abbrev invariant-loop-slot-2 : tie.invariant-loop-slot-2
invariant-loop-slot-2 parity code row i slot₀ blank slot = Filled blank row i slot

abbrev decreases-loop-slot-2 : tie.decreases-loop-slot-2
decreases-loop-slot-2 parity code row i slot₀ blank slot = length row - slot

abbrev before-else1 : tie.Else-fills-eq0 invariant-loop-slot decreases-loop-slot invariant-loop-slot-2 decreases-loop-slot-2 → tie.Start invariant-loop-slot decreases-loop-slot invariant-loop-slot-2 decreases-loop-slot-2
before-else1 c = c.before.before.before

abbrev before-else2 : tie.Else-slot-eq0 invariant-loop-slot decreases-loop-slot invariant-loop-slot-2 decreases-loop-slot-2 → tie.Else-fills-eq0 invariant-loop-slot decreases-loop-slot invariant-loop-slot-2 decreases-loop-slot-2
before-else2 c = c.before

abbrev before-fill : tie.After-fill-blank invariant-loop-slot decreases-loop-slot invariant-loop-slot-2 decreases-loop-slot-2 → tie.Else-slot-eq0 invariant-loop-slot decreases-loop-slot invariant-loop-slot-2 decreases-loop-slot-2
before-fill c = c.before

abbrev filled : tie.At-loop-slot invariant-loop-slot decreases-loop-slot invariant-loop-slot-2 decreases-loop-slot-2 → tie.After-fill-blank invariant-loop-slot decreases-loop-slot invariant-loop-slot-2 decreases-loop-slot-2
filled c = c.before

abbrev before_at : tie.At-loop-slot invariant-loop-slot decreases-loop-slot invariant-loop-slot-2 decreases-loop-slot-2 → tie.Else-slot-eq0 invariant-loop-slot decreases-loop-slot invariant-loop-slot-2 decreases-loop-slot-2
before_at c = before-fill (filled c)

abbrev before-in : tie.In-loop-slot invariant-loop-slot decreases-loop-slot invariant-loop-slot-2 decreases-loop-slot-2 → tie.At-loop-slot invariant-loop-slot decreases-loop-slot invariant-loop-slot-2 decreases-loop-slot-2
before-in c = c.before

abbrev before-are_fill : tie.After-are_fill invariant-loop-slot decreases-loop-slot invariant-loop-slot-2 decreases-loop-slot-2 → tie.In-loop-slot invariant-loop-slot decreases-loop-slot invariant-loop-slot-2 decreases-loop-slot-2
before-are_fill c = c.before.before.before.before.before

abbrev before-at2 : tie.At-loop-slot-2 invariant-loop-slot decreases-loop-slot invariant-loop-slot-2 decreases-loop-slot-2 → tie.At-loop-slot invariant-loop-slot decreases-loop-slot invariant-loop-slot-2 decreases-loop-slot-2
before-at2 c = c.before.before

abbrev before-in2 : tie.In-loop-slot-2 invariant-loop-slot decreases-loop-slot invariant-loop-slot-2 decreases-loop-slot-2 → tie.At-loop-slot-2 invariant-loop-slot decreases-loop-slot invariant-loop-slot-2 decreases-loop-slot-2
before-in2 c = c.before

abbrev before-else4 : tie.Else-row-slot invariant-loop-slot decreases-loop-slot invariant-loop-slot-2 decreases-loop-slot-2 → tie.In-loop-slot-2 invariant-loop-slot decreases-loop-slot invariant-loop-slot-2 decreases-loop-slot-2
before-else4 c = c.before.before

abbrev before-then4 : tie.Then-row-slot invariant-loop-slot decreases-loop-slot invariant-loop-slot-2 decreases-loop-slot-2 → tie.In-loop-slot-2 invariant-loop-slot decreases-loop-slot invariant-loop-slot-2 decreases-loop-slot-2
before-then4 c = c.before.before

abbrev start-else2 : tie.Else-slot-eq0 invariant-loop-slot decreases-loop-slot invariant-loop-slot-2 decreases-loop-slot-2 → tie.Start invariant-loop-slot decreases-loop-slot invariant-loop-slot-2 decreases-loop-slot-2
start-else2 c = c.before.before.before.before

abbrev start_at : tie.At-loop-slot invariant-loop-slot decreases-loop-slot invariant-loop-slot-2 decreases-loop-slot-2 → tie.Start invariant-loop-slot decreases-loop-slot invariant-loop-slot-2 decreases-loop-slot-2
start_at c = start-else2 (before_at c)

abbrev entry : tie.In-loop-slot invariant-loop-slot decreases-loop-slot invariant-loop-slot-2 decreases-loop-slot-2 → tie.Start invariant-loop-slot decreases-loop-slot invariant-loop-slot-2 decreases-loop-slot-2
entry c = start_at (before-in c)

abbrev start-in2 : tie.In-loop-slot-2 invariant-loop-slot decreases-loop-slot invariant-loop-slot-2 decreases-loop-slot-2 → tie.Start invariant-loop-slot decreases-loop-slot invariant-loop-slot-2 decreases-loop-slot-2
start-in2 c = start_at (before-at2 (before-in2 c))

abbrev start-else4 : tie.Else-row-slot invariant-loop-slot decreases-loop-slot invariant-loop-slot-2 decreases-loop-slot-2 → tie.Start invariant-loop-slot decreases-loop-slot invariant-loop-slot-2 decreases-loop-slot-2
start-else4 c = start-in2 (before-else4 c)

returns-then-fills-eq0 : tie.Need-returns-then-fills-eq0 invariant-loop-slot decreases-loop-slot invariant-loop-slot-2 decreases-loop-slot-2
returns-then-fills-eq0 c = past_first _ _ _ _ c.requires.0 c.if-fills-eq0.true

returns-then-slot-eq0 : tie.Need-returns-then-slot-eq0 invariant-loop-slot decreases-loop-slot invariant-loop-slot-2 decreases-loop-slot-2
returns-then-slot-eq0 c = past_front _ _ _ _ (before-else1 c.before).requires.0 c.if-slot-eq0.true

fill-blank-requires : tie.Need-fill-blank-requires invariant-loop-slot decreases-loop-slot invariant-loop-slot-2 decreases-loop-slot-2
fill-blank-requires c κs = (start-else2 c).requires.2

loop-slot-init : tie.Need-loop-slot-init invariant-loop-slot decreases-loop-slot invariant-loop-slot-2 decreases-loop-slot-2
loop-slot-init c = filled_none _ _ _ (start-else2 (before-fill c)).requires.0

overflow_add-slot : tie.Need-overflow_add-slot invariant-loop-slot decreases-loop-slot invariant-loop-slot-2 decreases-loop-slot-2
overflow_add-slot c = omega (arith, c.loop-slot.invariant.room, (start_at c).requires.1)

offset_bounds-row-slot : tie.Need-offset_bounds-row-slot invariant-loop-slot decreases-loop-slot invariant-loop-slot-2 decreases-loop-slot-2
offset_bounds-row-slot c = omega (arith, c.loop-slot-test.true, (entry c).requires.1)

bounds-row-slot : tie.Need-bounds-row-slot invariant-loop-slot decreases-loop-slot invariant-loop-slot-2 decreases-loop-slot-2
bounds-row-slot c = omega (arith, c.loop-slot-test.true, (entry c.before).requires.1)

overflow_add-slot-in-loop-slot : tie.Need-overflow_add-slot-in-loop-slot invariant-loop-slot decreases-loop-slot invariant-loop-slot-2 decreases-loop-slot-2
overflow_add-slot-in-loop-slot c = omega (arith, c.loop-slot-test.true, (entry c.before).requires.1)

offset_bounds-row-slot-in-loop-slot : tie.Need-offset_bounds-row-slot-in-loop-slot invariant-loop-slot decreases-loop-slot invariant-loop-slot-2 decreases-loop-slot-2
offset_bounds-row-slot-in-loop-slot c = omega (arith, c.loop-slot-test.true, (entry c.before).requires.1)

bounds-row-slot-in-loop-slot :
    tie.Need-bounds-row-slot-in-loop-slot invariant-loop-slot decreases-loop-slot invariant-loop-slot-2 decreases-loop-slot-2
bounds-row-slot-in-loop-slot c = omega (arith, c.loop-slot-test.true, (entry c.before.before).requires.1)

overflow_add-slot-in-loop-slot-2 : tie.Need-overflow_add-slot-in-loop-slot-2 invariant-loop-slot decreases-loop-slot invariant-loop-slot-2 decreases-loop-slot-2
overflow_add-slot-in-loop-slot-2 c = omega (arith, c.loop-slot-test.true, (entry c.before.before).requires.1)

offset_bounds-row-slot-in-loop-slot-2 : tie.Need-offset_bounds-row-slot-in-loop-slot-2 invariant-loop-slot decreases-loop-slot invariant-loop-slot-2 decreases-loop-slot-2
offset_bounds-row-slot-in-loop-slot-2 c = omega (arith, c.loop-slot-test.true, (entry c.before.before).requires.1)

bounds-row-slot-in-loop-slot-2 :
    tie.Need-bounds-row-slot-in-loop-slot-2 invariant-loop-slot decreases-loop-slot invariant-loop-slot-2 decreases-loop-slot-2
bounds-row-slot-in-loop-slot-2 c = omega (arith, c.loop-slot-test.true, (entry c.before.before.before).requires.1)

overflow_add-slot-in-loop-slot-3 : tie.Need-overflow_add-slot-in-loop-slot-3 invariant-loop-slot decreases-loop-slot invariant-loop-slot-2 decreases-loop-slot-2
overflow_add-slot-in-loop-slot-3 c = omega (arith, c.loop-slot-test.true, (entry c.before.before.before).requires.1)

offset_bounds-row-slot-in-loop-slot-3 : tie.Need-offset_bounds-row-slot-in-loop-slot-3 invariant-loop-slot decreases-loop-slot invariant-loop-slot-2 decreases-loop-slot-2
offset_bounds-row-slot-in-loop-slot-3 c = omega (arith, c.loop-slot-test.true, (entry c.before.before.before).requires.1)

bounds-row-slot-in-loop-slot-3 :
    tie.Need-bounds-row-slot-in-loop-slot-3 invariant-loop-slot decreases-loop-slot invariant-loop-slot-2 decreases-loop-slot-2
bounds-row-slot-in-loop-slot-3 c = omega (arith, c.loop-slot-test.true, (entry c.before.before.before.before).requires.1)

are_fill-requires : tie.Need-are_fill-requires invariant-loop-slot decreases-loop-slot invariant-loop-slot-2 decreases-loop-slot-2
are_fill-requires c κs = search rules

overflow_add-slot-then-are_fill : tie.Need-overflow_add-slot-then-are_fill invariant-loop-slot decreases-loop-slot invariant-loop-slot-2 decreases-loop-slot-2
overflow_add-slot-then-are_fill c = omega (arith, (before-are_fill c.before).loop-slot-test.true, (entry (before-are_fill c.before)).requires.1)

loop-slot-smaller : tie.Need-loop-slot-smaller invariant-loop-slot decreases-loop-slot invariant-loop-slot-2 decreases-loop-slot-2
loop-slot-smaller c = omega (arith, (before-are_fill c.before).loop-slot-test.true)

loop-slot-preserved : tie.Need-loop-slot-preserved invariant-loop-slot decreases-loop-slot invariant-loop-slot-2 decreases-loop-slot-2
loop-slot-preserved c = filled_four _ (before-in (before-are_fill c.before)).loop-slot.invariant (before-are_fill c.before).loop-slot-test.true
    (sym c.if-are_fill.true ∙ c.are_fill.ensures)

loop-slot-2-init : tie.Need-loop-slot-2-init invariant-loop-slot decreases-loop-slot invariant-loop-slot-2 decreases-loop-slot-2
loop-slot-2-init c = c.loop-slot.invariant

offset_bounds-row-slot-in-loop-slot-2-2 : tie.Need-offset_bounds-row-slot-in-loop-slot-2-2 invariant-loop-slot decreases-loop-slot invariant-loop-slot-2 decreases-loop-slot-2
offset_bounds-row-slot-in-loop-slot-2-2 c = omega (arith, c.loop-slot-2-test.true, (start-in2 c).requires.1)

bounds-row-slot-in-loop-slot-2-2 : tie.Need-bounds-row-slot-in-loop-slot-2-2 invariant-loop-slot decreases-loop-slot invariant-loop-slot-2 decreases-loop-slot-2
bounds-row-slot-in-loop-slot-2-2 c = c.loop-slot-2-test.true

overflow_add-slot-in-loop-slot-2-2 : tie.Need-overflow_add-slot-in-loop-slot-2-2 invariant-loop-slot decreases-loop-slot invariant-loop-slot-2 decreases-loop-slot-2
overflow_add-slot-in-loop-slot-2-2 c = omega (arith, (before-else4 c).loop-slot-2-test.true, (start-else4 c).requires.1)

loop-slot-2-smaller : tie.Need-loop-slot-2-smaller invariant-loop-slot decreases-loop-slot invariant-loop-slot-2 decreases-loop-slot-2
loop-slot-2-smaller c = omega (arith, (before-else4 c).loop-slot-2-test.true)

loop-slot-2-preserved : tie.Need-loop-slot-2-preserved invariant-loop-slot decreases-loop-slot invariant-loop-slot-2 decreases-loop-slot-2
loop-slot-2-preserved c = filled_one _ (before-in2 (before-else4 c)).loop-slot-2.invariant (before-else4 c).loop-slot-2-test.true
    c.if-row-slot.false

returns-after-loop-slot-2 : tie.Need-returns-after-loop-slot-2 invariant-loop-slot decreases-loop-slot invariant-loop-slot-2 decreases-loop-slot-2
returns-after-loop-slot-2 c =
    let l = before-at2 c.before in
    rw (← (filled l).fill-blank.ensures.0) (past_some _ _ _ c.loop-slot-2.invariant (before-else2 (before_at l)).if-fills-eq0.false (before_at l).if-slot-eq0.false
    (λ h. absurd (omega (arith, h, c.loop-slot-2-test.false))))

returns-then-row-slot : tie.Need-returns-then-row-slot invariant-loop-slot decreases-loop-slot invariant-loop-slot-2 decreases-loop-slot-2
returns-then-row-slot c =
    let o = before-in2 (before-then4 c) in
    let l = before-at2 o in
    rw (← (filled l).fill-blank.ensures.0) (past_some _ _ _ o.loop-slot-2.invariant (before-else2 (before_at l)).if-fills-eq0.false (before_at l).if-slot-eq0.false (λ h z. c.if-row-slot.true z))

pub past_fill_spec : {M : Type 1} → statement M
past_fill_spec =
    tie.close
    (tie.spec
    invariant-loop-slot
    decreases-loop-slot
    invariant-loop-slot-2
    decreases-loop-slot-2
    returns-then-fills-eq0
    returns-then-slot-eq0
    fill-blank-requires
    loop-slot-init
    overflow_add-slot
    offset_bounds-row-slot
    bounds-row-slot
    overflow_add-slot-in-loop-slot
    offset_bounds-row-slot-in-loop-slot
    bounds-row-slot-in-loop-slot
    overflow_add-slot-in-loop-slot-2
    offset_bounds-row-slot-in-loop-slot-2
    bounds-row-slot-in-loop-slot-2
    overflow_add-slot-in-loop-slot-3
    offset_bounds-row-slot-in-loop-slot-3
    bounds-row-slot-in-loop-slot-3
    are_fill-requires
    overflow_add-slot-then-are_fill
    loop-slot-smaller
    loop-slot-preserved
    loop-slot-2-init
    offset_bounds-row-slot-in-loop-slot-2-2
    bounds-row-slot-in-loop-slot-2-2
    overflow_add-slot-in-loop-slot-2-2
    loop-slot-2-smaller
    loop-slot-2-preserved
    returns-after-loop-slot-2
    returns-then-row-slot)
