use native.Mathlib.Omega.{arith}
use mathlib.Core.Path.{sym, ◌∙◌}
use Prim.Native.Nat.{◌-◌, ◌≤◌}
use lib.ListN.{length}
use Rattle.data_run.proofs.Rows.{Passed, passed_all, passed_bad, passed_fill, passed_items, passed_more, passed_none, passed_still}
use Rattle.data_run.proofs.on_row.Statement.{statement}
use Rattle.data_run.proofs.on_row.Tie as tie

abbrev invariant-loop-i : tie.invariant-loop-i
invariant-loop-i kinds parity code row from out₀ pass₀ i₀ out pass i = (i ≤ length row) × Passed kinds parity code row from pass₀ out₀ i pass out

abbrev decreases-loop-i : tie.decreases-loop-i
decreases-loop-i kinds parity code row from out₀ pass₀ i₀ out pass i = length row - i

abbrev before_at : tie.At-loop-i invariant-loop-i decreases-loop-i → tie.Start invariant-loop-i decreases-loop-i
before_at c = c.before.before.before

abbrev before-in : tie.In-loop-i invariant-loop-i decreases-loop-i → tie.At-loop-i invariant-loop-i decreases-loop-i
before-in c = c.before

abbrev before-past_fill : tie.After-past_fill-past invariant-loop-i decreases-loop-i → tie.In-loop-i invariant-loop-i decreases-loop-i
before-past_fill c = c.before.before

abbrev before-then1 : tie.Then-i-past invariant-loop-i decreases-loop-i → tie.After-past_fill-past invariant-loop-i decreases-loop-i
before-then1 c = c.before

abbrev before-out : tie.After-out-1 invariant-loop-i decreases-loop-i → tie.After-items_from-taken invariant-loop-i decreases-loop-i
before-out c = c.before

abbrev before-then2 : tie.Then-i-taken invariant-loop-i decreases-loop-i → tie.After-out-1 invariant-loop-i decreases-loop-i
before-then2 c = c.before.before.before

abbrev before-on_items : tie.After-on_items-pass invariant-loop-i decreases-loop-i → tie.Then-i-taken invariant-loop-i decreases-loop-i
before-on_items c = c.before

abbrev before-else2 : tie.Else-i-taken invariant-loop-i decreases-loop-i → tie.After-out-1 invariant-loop-i decreases-loop-i
before-else2 c = c.before.before.before

abbrev before-on_word : tie.After-on_word-pass invariant-loop-i decreases-loop-i → tie.Else-i-taken invariant-loop-i decreases-loop-i
before-on_word c = c.before.before.before

abbrev before-out2 : tie.After-out-in-loop-i-1 invariant-loop-i decreases-loop-i → tie.After-on_word-pass invariant-loop-i decreases-loop-i
before-out2 c = c.before

abbrev before-then3 : tie.Then-pass-ne0 invariant-loop-i decreases-loop-i → tie.After-out-in-loop-i-1 invariant-loop-i decreases-loop-i
before-then3 c = c.before.before.before

abbrev before-else3 : tie.Else-pass-ne0 invariant-loop-i decreases-loop-i → tie.After-out-in-loop-i-1 invariant-loop-i decreases-loop-i
before-else3 c = c.before.before.before

abbrev entry : tie.In-loop-i invariant-loop-i decreases-loop-i → tie.Start invariant-loop-i decreases-loop-i
entry c = c.before.before.before.before

abbrev turn-then1 : tie.Then-i-past invariant-loop-i decreases-loop-i → tie.In-loop-i invariant-loop-i decreases-loop-i
turn-then1 c = c.before.before.before

abbrev turn-then2 : tie.Then-i-taken invariant-loop-i decreases-loop-i → tie.In-loop-i invariant-loop-i decreases-loop-i
turn-then2 c = c.before.before.before.before.before.before.before.before.before

abbrev turn-on_items : tie.After-on_items-pass invariant-loop-i decreases-loop-i → tie.In-loop-i invariant-loop-i decreases-loop-i
turn-on_items c = c.before.before.before.before.before.before.before.before.before.before

abbrev turn-else2 : tie.Else-i-taken invariant-loop-i decreases-loop-i → tie.In-loop-i invariant-loop-i decreases-loop-i
turn-else2 c = c.before.before.before.before.before.before.before.before.before

abbrev turn-then3 : tie.Then-pass-ne0 invariant-loop-i decreases-loop-i → tie.In-loop-i invariant-loop-i decreases-loop-i
turn-then3 c = c.before.before.before.before.before.before.before.before.before.before.before.before.before.before.before.before

abbrev turn-else3 : tie.Else-pass-ne0 invariant-loop-i decreases-loop-i → tie.In-loop-i invariant-loop-i decreases-loop-i
turn-else3 c = c.before.before.before.before.before.before.before.before.before.before.before.before.before.before.before.before

loop-i-init : tie.Need-loop-i-init invariant-loop-i decreases-loop-i
loop-i-init c = (omega arith, passed_none _ _ _ _ _ _ _ c.requires.0)

past_fill-past-requires : tie.Need-past_fill-past-requires invariant-loop-i decreases-loop-i
past_fill-past-requires c κs = ((before-in c.before).loop-i.invariant.0, omega (arith, (entry c.before).requires.3), (entry c.before).requires.4)

loop-i-smaller-then-i-past : tie.Need-loop-i-smaller-then-i-past invariant-loop-i decreases-loop-i
loop-i-smaller-then-i-past c = omega (arith, c.if-i-past.true, (before-then1 c).past_fill-past.ensures.room)

loop-i-preserved-then-i-past : tie.Need-loop-i-preserved-then-i-past invariant-loop-i decreases-loop-i
loop-i-preserved-then-i-past c = (
  (before-then1 c).past_fill-past.ensures.room,
  passed_fill _ _ _ (entry (turn-then1 c)).requires.4 _ _ _ _ (entry (turn-then1 c)).requires.1 (before-in (turn-then1 c)).loop-i.i _ (before-in (turn-then1 c)).loop-i.invariant.1
      (before-then1 c).past_fill-past.ensures,
)

items_from-taken-requires : tie.Need-items_from-taken-requires invariant-loop-i decreases-loop-i
items_from-taken-requires c κs = (
  (entry (before-past_fill c.before.before)).requires.1,
  (before-in (before-past_fill c.before.before)).loop-i.invariant.0,
  omega
      (arith, (entry (before-past_fill c.before.before)).requires.3),
  omega (
    arith,
    (before-in (before-past_fill c.before.before)).loop-i.invariant.1.few,
    (entry (before-past_fill c.before.before)).requires.2,
    (entry (before-past_fill c.before.before)).requires.3,
    (before-in (before-past_fill c.before.before)).loop-i.invariant.0,
  ),
)

on_items-pass-requires : tie.Need-on_items-pass-requires invariant-loop-i decreases-loop-i
on_items-pass-requires c κs = (omega (arith, c.if-i-taken.true), omega (arith, (before-out (before-then2 c)).items_from-taken.ensures.room, (entry (turn-then2 c)).requires.3))

loop-i-smaller-then-i-taken : tie.Need-loop-i-smaller-then-i-taken invariant-loop-i decreases-loop-i
loop-i-smaller-then-i-taken c = omega (arith, (before-on_items c).if-i-taken.true, (before-out (before-then2 (before-on_items c))).items_from-taken.ensures.room)

loop-i-preserved-then-i-taken : tie.Need-loop-i-preserved-then-i-taken invariant-loop-i decreases-loop-i
loop-i-preserved-then-i-taken c = let f = (before-out (before-then2 (before-on_items c))).items_from-taken.ensures.some (before-on_items c).if-i-taken.true in (
  (before-out (before-then2 (before-on_items c))).items_from-taken.ensures.room,
  rw c.on_items-pass.ensures
      (passed_items _ _ _ _ _ _ _ (before-in (turn-on_items c)).loop-i.i (before-in (turn-on_items c)).loop-i.invariant.1 (before-on_items c).if-i-taken.true f.0 f.1),
)

overflow_add-from : tie.Need-overflow_add-from invariant-loop-i decreases-loop-i
overflow_add-from c = omega (arith, (turn-else2 c).loop-i-test.true, (entry (turn-else2 c)).requires.3)

offset_bounds-row-i : tie.Need-offset_bounds-row-i invariant-loop-i decreases-loop-i
offset_bounds-row-i c = omega (arith, (turn-else2 c).loop-i-test.true, (entry (turn-else2 c)).requires.3)

bounds-row-i : tie.Need-bounds-row-i invariant-loop-i decreases-loop-i
bounds-row-i c = (turn-else2 c.before).loop-i-test.true

on_word-pass-requires : tie.Need-on_word-pass-requires invariant-loop-i decreases-loop-i
on_word-pass-requires c κs = (
  (before-in (turn-else2 c.before.before)).loop-i.invariant.1.brought.sound,
  omega (
    arith,
    (before-in (turn-else2 c.before.before)).loop-i.invariant.1.few,
    (entry (turn-else2 c.before.before)).requires.2,
    (entry (turn-else2 c.before.before)).requires.3,
    (before-in (turn-else2 c.before.before)).loop-i.invariant.0,
  ),
  omega
      (arith, (turn-else2 c.before.before).loop-i-test.true, (entry (turn-else2 c.before.before)).requires.3),
  (entry (turn-else2 c.before.before)).requires.1 _
      (turn-else2 c.before.before).loop-i-test.true,
)

shape_of-out-then-pass-ne0 : tie.Need-shape_of-out-then-pass-ne0 invariant-loop-i decreases-loop-i
shape_of-out-then-pass-ne0 c = (before-then3 c).out-in-loop-i-1.given ∙ (before-else2 (before-on_word (before-out2 (before-then3 c)))).out-1.given ∙
    (before-in (turn-then3 c)).loop-i.invariant.1.brought.long

returns-then-pass-ne0 : tie.Need-returns-then-pass-ne0 invariant-loop-i decreases-loop-i
returns-then-pass-ne0 c = (
  passed_bad _ _ _ _ _ _ _ (before-in (turn-then3 c)).loop-i.i _ _ (turn-then3 c).loop-i-test.true
      ((entry (turn-then3 c)).requires.1 _ (turn-then3 c).loop-i-test.true) (passed_still _ _ _ _ _ _ _ (before-in (turn-then3 c)).loop-i.i
      ((before-out (before-else2 (before-on_word (before-out2 (before-then3 c))))).items_from-taken.ensures.none (before-on_word (before-out2 (before-then3 c))).if-i-taken.false)
      (before-in (turn-then3 c)).loop-i.invariant.1) (before-out2 (before-then3 c)).on_word-pass.ensures.0 c.if-pass-ne0.true,
  λ z. absurd (c.if-pass-ne0.true z),
)

overflow_add-i : tie.Need-overflow_add-i invariant-loop-i decreases-loop-i
overflow_add-i c = omega (arith, (turn-else3 c).loop-i-test.true, (entry (turn-else3 c)).requires.3)

loop-i-smaller : tie.Need-loop-i-smaller invariant-loop-i decreases-loop-i
loop-i-smaller c = omega (arith, (turn-else3 c).loop-i-test.true)

loop-i-preserved : tie.Need-loop-i-preserved invariant-loop-i decreases-loop-i
loop-i-preserved c = (
  omega (arith, (turn-else3 c).loop-i-test.true),
  passed_more _ _ _ _ _ _ _ (before-in (turn-else3 c)).loop-i.i (turn-else3 c).loop-i-test.true
      ((entry (turn-else3 c)).requires.1 _ (turn-else3 c).loop-i-test.true) (passed_still _ _ _ _ _ _ _ (before-in (turn-else3 c)).loop-i.i
      ((before-out (before-else2 (before-on_word (before-out2 (before-else3 c))))).items_from-taken.ensures.none (before-on_word (before-out2 (before-else3 c))).if-i-taken.false)
      (before-in (turn-else3 c)).loop-i.invariant.1) (before-out2 (before-else3 c)).on_word-pass.ensures c.if-pass-ne0.false,
)

shape_of-out : tie.Need-shape_of-out invariant-loop-i decreases-loop-i
shape_of-out c = c.loop-i.invariant.1.brought.long

returns : tie.Need-returns invariant-loop-i decreases-loop-i
returns c = (
  passed_all _ _ _ _ _ _ _ c.loop-i.i c.loop-i-test.false c.loop-i.invariant.1,
  λ z. omega
      (arith, c.loop-i.invariant.1.few, (before_at c.before).requires.2, c.loop-i.invariant.0),
)

pub on_row_spec : {M : Type 1} → statement M
on_row_spec =
    tie.close
    (tie.spec
    invariant-loop-i
    decreases-loop-i
    loop-i-init
    past_fill-past-requires
    loop-i-smaller-then-i-past
    loop-i-preserved-then-i-past
    items_from-taken-requires
    on_items-pass-requires
    loop-i-smaller-then-i-taken
    loop-i-preserved-then-i-taken
    overflow_add-from
    offset_bounds-row-i
    bounds-row-i
    on_word-pass-requires
    shape_of-out-then-pass-ne0
    returns-then-pass-ne0
    overflow_add-i
    loop-i-smaller
    loop-i-preserved
    shape_of-out
    returns)
