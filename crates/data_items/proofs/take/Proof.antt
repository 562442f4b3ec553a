use native.Mathlib.Omega.{arith}
use mathlib.Core.Path.{refl, ◌∙◌}
use Prim.Native.Nat.{◌+◌, ◌*◌, ◌-◌, ◌^◌, ◌≤◌, ◌<◌}
use lib.ListN.{length, get_or}
use Rattle.data_items.specs.Taken.{Took}
use Rattle.data_items.proofs.Words.{parity_back, tops_all}
use Rattle.data_items.proofs.Spot.{Spot, opening_low, opens_here, single_second, single_taken, two_taken}
use Rattle.data_items.proofs.Taking.{less_or_same, took_none, took_roomy, took_still, took_then}
use borrow.Author.Rules.{rules}
use Rattle.data_items.proofs.take.Statement.{statement}
use Rattle.data_items.proofs.take.Tie as tie

abbrev invariant-loop-slot : tie.invariant-loop-slot
invariant-loop-slot parity row out₀ kinds tops openings count slot₀ pen₀ out slot pen =
    Took kinds parity row (record { slot = slot₀; pen = pen₀ }) out₀ (record { slot = slot; pen = pen }) out

abbrev decreases-loop-slot : tie.decreases-loop-slot
decreases-loop-slot parity row out₀ kinds tops openings count slot₀ pen₀ out slot pen = count - slot

abbrev before-openings : tie.After-openings-openings invariant-loop-slot decreases-loop-slot → tie.After-tops_of-tops invariant-loop-slot decreases-loop-slot
before-openings c = c.before

abbrev before_at : tie.At-loop-slot invariant-loop-slot decreases-loop-slot → tie.After-openings-openings invariant-loop-slot decreases-loop-slot
before_at c = c.before.before

abbrev before-in : tie.In-loop-slot invariant-loop-slot decreases-loop-slot → tie.At-loop-slot invariant-loop-slot decreases-loop-slot
before-in c = c.before

abbrev before-top_of : tie.After-top_of-top invariant-loop-slot decreases-loop-slot → tie.In-loop-slot invariant-loop-slot decreases-loop-slot
before-top_of c = c.before.before

abbrev before-opening : tie.After-opening-opening invariant-loop-slot decreases-loop-slot → tie.After-top_of-top invariant-loop-slot decreases-loop-slot
before-opening c = c.before.before.before

abbrev before-then1 : tie.Then-opening-ge8 invariant-loop-slot decreases-loop-slot → tie.After-opening-opening invariant-loop-slot decreases-loop-slot
before-then1 c = c.before

abbrev before-single : tie.After-single-one invariant-loop-slot decreases-loop-slot → tie.Then-opening-ge8 invariant-loop-slot decreases-loop-slot
before-single c = c.before

abbrev before-then2 : tie.Then-slot-count invariant-loop-slot decreases-loop-slot → tie.After-single-one invariant-loop-slot decreases-loop-slot
before-then2 c = c.before

abbrev before-top_of2 : tie.After-top_of-top_then invariant-loop-slot decreases-loop-slot → tie.Then-slot-count invariant-loop-slot decreases-loop-slot
before-top_of2 c = c.before.before

abbrev before-opening2 : tie.After-opening-opening_then invariant-loop-slot decreases-loop-slot → tie.After-top_of-top_then invariant-loop-slot decreases-loop-slot
before-opening2 c = c.before.before.before

abbrev before-then3 : tie.Then-opening_then-ge8 invariant-loop-slot decreases-loop-slot → tie.After-opening-opening_then invariant-loop-slot decreases-loop-slot
before-then3 c = c.before

abbrev before-single2 : tie.After-single-two invariant-loop-slot decreases-loop-slot → tie.Then-opening_then-ge8 invariant-loop-slot decreases-loop-slot
before-single2 c = c.before

abbrev before-put_two : tie.After-put_two-pen invariant-loop-slot decreases-loop-slot → tie.After-single-two invariant-loop-slot decreases-loop-slot
before-put_two c = c.before.before

abbrev before-put_in : tie.After-put_in-pen invariant-loop-slot decreases-loop-slot → tie.After-single-one invariant-loop-slot decreases-loop-slot
before-put_in c = c.before.before.before

abbrev before-else1 : tie.Else-opening-ge8 invariant-loop-slot decreases-loop-slot → tie.After-opening-opening invariant-loop-slot decreases-loop-slot
before-else1 c = c.before

abbrev before-else4 : tie.Else-count-slot invariant-loop-slot decreases-loop-slot → tie.Else-opening-ge8 invariant-loop-slot decreases-loop-slot
before-else4 c = c.before

abbrev before-item_at : tie.After-item_at-next invariant-loop-slot decreases-loop-slot → tie.Else-count-slot invariant-loop-slot decreases-loop-slot
before-item_at c = c.before.before

abbrev before-else5 : tie.Else-next-slot invariant-loop-slot decreases-loop-slot → tie.After-item_at-next invariant-loop-slot decreases-loop-slot
before-else5 c = c.before.before.before.before

abbrev entry : tie.In-loop-slot invariant-loop-slot decreases-loop-slot → tie.Start invariant-loop-slot decreases-loop-slot
entry c = c.before.before.before.before.before.before.before

abbrev start-openings : tie.After-openings-openings invariant-loop-slot decreases-loop-slot → tie.Start invariant-loop-slot decreases-loop-slot
start-openings c = c.before.before.before.before

abbrev turn-single : tie.After-single-one invariant-loop-slot decreases-loop-slot → tie.In-loop-slot invariant-loop-slot decreases-loop-slot
turn-single c = c.before.before.before.before.before.before.before

abbrev turn-then2 : tie.Then-slot-count invariant-loop-slot decreases-loop-slot → tie.In-loop-slot invariant-loop-slot decreases-loop-slot
turn-then2 c = c.before.before.before.before.before.before.before.before

abbrev turn-single2 : tie.After-single-two invariant-loop-slot decreases-loop-slot → tie.In-loop-slot invariant-loop-slot decreases-loop-slot
turn-single2 c = c.before.before.before.before.before.before.before.before.before.before.before.before.before.before.before

abbrev turn-put_two : tie.After-put_two-pen invariant-loop-slot decreases-loop-slot → tie.In-loop-slot invariant-loop-slot decreases-loop-slot
turn-put_two c = c.before.before.before.before.before.before.before.before.before.before.before.before.before.before.before.before.before

abbrev turn-put_in : tie.After-put_in-pen invariant-loop-slot decreases-loop-slot → tie.In-loop-slot invariant-loop-slot decreases-loop-slot
turn-put_in c = c.before.before.before.before.before.before.before.before.before.before

abbrev turn-else1 : tie.Else-opening-ge8 invariant-loop-slot decreases-loop-slot → tie.In-loop-slot invariant-loop-slot decreases-loop-slot
turn-else1 c = c.before.before.before.before.before.before

abbrev turn-else4 : tie.Else-count-slot invariant-loop-slot decreases-loop-slot → tie.In-loop-slot invariant-loop-slot decreases-loop-slot
turn-else4 c = c.before.before.before.before.before.before.before

abbrev turn-else5 : tie.Else-next-slot invariant-loop-slot decreases-loop-slot → tie.In-loop-slot invariant-loop-slot decreases-loop-slot
turn-else5 c = c.before.before.before.before.before.before.before.before.before.before.before.before.before

abbrev turn-item_at : tie.After-item_at-next invariant-loop-slot decreases-loop-slot → tie.In-loop-slot invariant-loop-slot decreases-loop-slot
turn-item_at c = c.before.before.before.before.before.before.before.before.before

abbrev turn-top_of2 : tie.After-top_of-top_then invariant-loop-slot decreases-loop-slot → tie.In-loop-slot invariant-loop-slot decreases-loop-slot
turn-top_of2 c = c.before.before.before.before.before.before.before.before.before.before

-- the word at hand
spot : (c : tie.After-top_of-top invariant-loop-slot decreases-loop-slot)
    → Spot (entry (before-top_of c)).args.parity (entry (before-top_of c)).args.row.now (before-in (before-top_of c)).loop-slot.slot
    (get_or (entry (before-top_of c)).args.row.now (before-in (before-top_of c)).loop-slot.slot 0) c.top_of-top.result
spot c = record {
  within = (before-top_of c).loop-slot-test.true;
  low = (entry (before-top_of c)).requires.0 _ (before-top_of c).loop-slot-test.true;
  is = refl;
  says = rw (parity_back (entry (before-top_of c)).args.parity (before-openings (before_at (before-in (before-top_of c)))).tops_of-tops.ensures) at
      c.top_of-top.ensures.0;
}

-- the word behind it
spot_then : (c : tie.After-top_of-top_then invariant-loop-slot decreases-loop-slot)
    → Spot (entry (turn-top_of2 c)).args.parity (entry (turn-top_of2 c)).args.row.now ((before-in (turn-top_of2 c)).loop-slot.slot + 1)
    (get_or (entry (turn-top_of2 c)).args.row.now ((before-in (turn-top_of2 c)).loop-slot.slot + 1) 0) c.top_of-top_then.result
spot_then c = record {
  within = (before-top_of2 c).if-slot-count.true;
  low = (entry (turn-top_of2 c)).requires.0 _ (before-top_of2 c).if-slot-count.true;
  is = refl;
  says = rw (parity_back (entry (turn-top_of2 c)).args.parity (before-openings
      (before_at (before-in (before-top_of (before-opening (before-then1 (before-single (before-then2 (before-top_of2 c))))))))).tops_of-tops.ensures) at
      c.top_of-top_then.ensures.0;
}

-- there is room for what the words from it on bring
room : (c : tie.In-loop-slot invariant-loop-slot decreases-loop-slot)
    → ((before-in c).loop-slot.pen.bits < 2 ^ 60) × ((before-in c).loop-slot.pen.bits + 32 * (length (entry c).args.row.now - (before-in c).loop-slot.slot) + 64 ≤ 8 *
    length (before-in c).loop-slot.out)
room c = took_roomy (before-in c).loop-slot.invariant (entry c).requires.1 c.loop-slot-test.true

-- what was taken at once
more : (c : tie.After-item_at-next invariant-loop-slot decreases-loop-slot)
    → Took (entry (turn-item_at c)).args.kinds (entry (turn-item_at c)).args.parity (entry (turn-item_at c)).args.row.now
    (record { slot = (before-in (turn-item_at c)).loop-slot.slot; pen = (before-in (turn-item_at c)).loop-slot.pen }) (before-in (turn-item_at c)).loop-slot.out
    c.item_at-next.result c.item_at-next.new.out
more c =
    rw (parity_back (entry (turn-item_at c)).args.parity (before-openings
    (before_at (before-in (before-top_of (before-opening (before-else1 (before-else4 (before-item_at c)))))))).tops_of-tops.ensures) at
    (c.item_at-next.ensures (entry (turn-item_at c)).args.kinds (opens_here _ _ (before-opening (before-else1 (before-else4 (before-item_at c)))).top_of-top.ensures.0
    (entry (turn-item_at c)).args.kinds (before-else1 (before-else4 (before-item_at c))).opening-opening.ensures))

tops_of-tops-requires : tie.Need-tops_of-tops-requires invariant-loop-slot decreases-loop-slot
tops_of-tops-requires c κs = search rules

openings-openings-requires : tie.Need-openings-openings-requires invariant-loop-slot decreases-loop-slot
openings-openings-requires c κs = search rules

loop-slot-init : tie.Need-loop-slot-init invariant-loop-slot decreases-loop-slot
loop-slot-init c = took_none _ _ (start-openings c.before).requires.1.within

offset_bounds-row-slot : tie.Need-offset_bounds-row-slot invariant-loop-slot decreases-loop-slot
offset_bounds-row-slot c = search rules

bounds-row-slot : tie.Need-bounds-row-slot invariant-loop-slot decreases-loop-slot
bounds-row-slot c = search rules

top_of-top-requires : tie.Need-top_of-top-requires invariant-loop-slot decreases-loop-slot
top_of-top-requires c κs = (
  tops_all (entry c.before).args.parity (before-openings (before_at (before-in c.before))).tops_of-tops.ensures,
  (entry c.before).requires.0 _ c.loop-slot-test.true,
)

overflow_cast-top : tie.Need-overflow_cast-top invariant-loop-slot decreases-loop-slot
overflow_cast-top c = search rules

bounds-kinds-top : tie.Need-bounds-kinds-top invariant-loop-slot decreases-loop-slot
bounds-kinds-top c = search rules

opening-opening-requires : tie.Need-opening-opening-requires invariant-loop-slot decreases-loop-slot
opening-opening-requires c κs = ((before_at (before-in (before-top_of c.before.before))).openings-openings.ensures, omega arith)

single-one-requires : tie.Need-single-one-requires invariant-loop-slot decreases-loop-slot
single-one-requires c κs = (
  opening_low _ _ (before-then1 c).opening-opening.ensures (omega arith),
  omega (arith, (before-opening (before-then1 c)).top_of-top.ensures.1),
  omega
      arith,
)

overflow_add-slot : tie.Need-overflow_add-slot invariant-loop-slot decreases-loop-slot
overflow_add-slot c = omega (arith, (turn-single c).loop-slot-test.true, (entry (turn-single c)).requires.1.short)

overflow_add-then : tie.Need-overflow_add-then invariant-loop-slot decreases-loop-slot
overflow_add-then c = omega (arith, (turn-then2 c).loop-slot-test.true, (entry (turn-then2 c)).requires.1.short)

offset_bounds-row-slot-then-slot-count : tie.Need-offset_bounds-row-slot-then-slot-count invariant-loop-slot decreases-loop-slot
offset_bounds-row-slot-then-slot-count c = omega (arith, (turn-then2 c).loop-slot-test.true, (entry (turn-then2 c)).requires.1.short)

bounds-row-slot-then-slot-count : tie.Need-bounds-row-slot-then-slot-count invariant-loop-slot decreases-loop-slot
bounds-row-slot-then-slot-count c = c.if-slot-count.true

top_of-top_then-requires : tie.Need-top_of-top_then-requires invariant-loop-slot decreases-loop-slot
top_of-top_then-requires c κs = (
  tops_all (entry (turn-then2 c.before)).args.parity
      (before-openings (before_at (before-in (before-top_of (before-opening (before-then1 (before-single (before-then2 c.before)))))))).tops_of-tops.ensures,
  (entry (turn-then2 c.before)).requires.0 _ c.if-slot-count.true,
)

overflow_cast-top_then : tie.Need-overflow_cast-top_then invariant-loop-slot decreases-loop-slot
overflow_cast-top_then c = search rules

bounds-kinds-top_then : tie.Need-bounds-kinds-top_then invariant-loop-slot decreases-loop-slot
bounds-kinds-top_then c = search rules

opening-opening_then-requires : tie.Need-opening-opening_then-requires invariant-loop-slot decreases-loop-slot
opening-opening_then-requires c κs = (
  (before_at (before-in (before-top_of (before-opening
      (before-then1 (before-single (before-then2 (before-top_of2 c.before.before)))))))).openings-openings.ensures,
  omega arith,
)

single-two-requires : tie.Need-single-two-requires invariant-loop-slot decreases-loop-slot
single-two-requires c κs = (
  opening_low _ _ (before-then3 c).opening-opening_then.ensures (omega arith),
  omega (arith, (before-opening2 (before-then3 c)).top_of-top_then.ensures.1),
  omega arith,
)

put_two-pen-requires : tie.Need-put_two-pen-requires invariant-loop-slot decreases-loop-slot
put_two-pen-requires c κs = let r = room (turn-single2 c.before) in (
  r.0,
  single_second
      (spot (before-opening (before-then1 (before-single (before-then2 (before-top_of2 (before-opening2 (before-then3 (before-single2 c.before)))))))))
      (entry (turn-single2 c.before)).args.kinds (before-then1 (before-single
      (before-then2 (before-top_of2 (before-opening2 (before-then3 (before-single2 c.before))))))).opening-opening.ensures
      (before-single (before-then2 (before-top_of2 (before-opening2 (before-then3 (before-single2 c.before)))))).if-opening-ge8.true
      (before-then2 (before-top_of2 (before-opening2 (before-then3 (before-single2 c.before))))).single-one.ensures,
  single_second
      (spot_then (before-opening2 (before-then3 (before-single2 c.before)))) (entry (turn-single2 c.before)).args.kinds
      (before-then3 (before-single2 c.before)).opening-opening_then.ensures (before-single2 c.before).if-opening_then-ge8.true c.single-two.ensures,
  omega
      (arith, r.1, (turn-single2 c.before).loop-slot-test.true),
)

overflow_add-slot-then-opening_then-ge8 : tie.Need-overflow_add-slot-then-opening_then-ge8 invariant-loop-slot decreases-loop-slot
overflow_add-slot-then-opening_then-ge8 c = omega (arith, (turn-put_two c.before.before).loop-slot-test.true, (entry (turn-put_two c.before.before)).requires.1.short)

loop-slot-smaller-then-opening_then-ge8 : tie.Need-loop-slot-smaller-then-opening_then-ge8 invariant-loop-slot decreases-loop-slot
loop-slot-smaller-then-opening_then-ge8 c = omega (arith, (before-top_of2 (before-opening2 (before-then3 (before-single2 (before-put_two c.before.before))))).if-slot-count.true)

loop-slot-preserved-then-opening_then-ge8 : tie.Need-loop-slot-preserved-then-opening_then-ge8 invariant-loop-slot decreases-loop-slot
loop-slot-preserved-then-opening_then-ge8 c = took_then (before-in (turn-put_two c.before.before)).loop-slot.invariant
    (two_taken (spot (before-opening (before-then1 (before-single (before-then2
    (before-top_of2 (before-opening2 (before-then3 (before-single2 (before-put_two c.before.before))))))))))
    (spot_then (before-opening2 (before-then3 (before-single2 (before-put_two c.before.before))))) (entry (turn-put_two c.before.before)).args.kinds
    (before-then1 (before-single (before-then2 (before-top_of2 (before-opening2
    (before-then3 (before-single2 (before-put_two c.before.before)))))))).opening-opening.ensures
    (before-then3 (before-single2 (before-put_two c.before.before))).opening-opening_then.ensures
    (before-single (before-then2 (before-top_of2 (before-opening2 (before-then3 (before-single2 (before-put_two c.before.before))))))).if-opening-ge8.true
    (before-single2 (before-put_two c.before.before)).if-opening_then-ge8.true (before-then2
    (before-top_of2 (before-opening2 (before-then3 (before-single2 (before-put_two c.before.before)))))).single-one.ensures
    (before-put_two c.before.before).single-two.ensures c.put_two-pen.ensures) (omega arith)

put_in-pen-requires : tie.Need-put_in-pen-requires invariant-loop-slot decreases-loop-slot
put_in-pen-requires c κs = let r = room (turn-single c.before.before) in let s = single_second (spot (before-opening (before-then1 (before-single c.before.before))))
    (entry (turn-single c.before.before)).args.kinds (before-then1 (before-single c.before.before)).opening-opening.ensures
    (before-single c.before.before).if-opening-ge8.true c.single-one.ensures in
    (omega (arith, r.0), omega (arith, s.short), s.fits, omega (arith, r.1, (turn-single c.before.before).loop-slot-test.true))

overflow_add-slot-then-opening-ge8 : tie.Need-overflow_add-slot-then-opening-ge8 invariant-loop-slot decreases-loop-slot
overflow_add-slot-then-opening-ge8 c = omega (arith, (turn-put_in c.before.before).loop-slot-test.true, (entry (turn-put_in c.before.before)).requires.1.short)

loop-slot-smaller-then-opening-ge8 : tie.Need-loop-slot-smaller-then-opening-ge8 invariant-loop-slot decreases-loop-slot
loop-slot-smaller-then-opening-ge8 c = omega (arith, (turn-put_in c.before.before).loop-slot-test.true)

loop-slot-preserved-then-opening-ge8 : tie.Need-loop-slot-preserved-then-opening-ge8 invariant-loop-slot decreases-loop-slot
loop-slot-preserved-then-opening-ge8 c = took_then (before-in (turn-put_in c.before.before)).loop-slot.invariant
    (single_taken (spot (before-opening (before-then1 (before-single (before-put_in c.before.before))))) (entry (turn-put_in c.before.before)).args.kinds
    (before-then1 (before-single (before-put_in c.before.before))).opening-opening.ensures (before-single (before-put_in c.before.before)).if-opening-ge8.true
    (before-put_in c.before.before).single-one.ensures c.put_in-pen.ensures) (omega arith)

overflow_add-slot-in-loop-slot : tie.Need-overflow_add-slot-in-loop-slot invariant-loop-slot decreases-loop-slot
overflow_add-slot-in-loop-slot c = omega (arith, (turn-else1 c).loop-slot-test.true, (entry (turn-else1 c)).requires.1.short)

item_at-next-requires : tie.Need-item_at-next-requires invariant-loop-slot decreases-loop-slot
item_at-next-requires c κs = let r = room (turn-else4 c.before) in (
  record {
    all = tops_all (entry (turn-else4 c.before)).args.parity
        (before-openings (before_at (before-in (before-top_of (before-opening (before-else1 (before-else4 c.before))))))).tops_of-tops.ensures;
    words =
        (entry (turn-else4 c.before)).requires.0;
    five = omega (arith, c.if-count-slot.false);
    short = (entry (turn-else4 c.before)).requires.1.short;
    is = refl;
    says =
        (before-opening (before-else1 (before-else4 c.before))).top_of-top.ensures.0;
    few = r.0;
    room = omega (arith, r.1, c.if-count-slot.false);
  },
  record
      { kind = _; is = (before-else1 (before-else4 c.before)).opening-opening.ensures },
)

loop-slot-smaller : tie.Need-loop-slot-smaller invariant-loop-slot decreases-loop-slot
loop-slot-smaller c = let m = more (before-else5 c.before) in omega (arith, m.onward, m.room, c.if-next-slot.false, (turn-else5 c.before).loop-slot-test.true)

loop-slot-preserved : tie.Need-loop-slot-preserved invariant-loop-slot decreases-loop-slot
loop-slot-preserved c = let m = more (before-else5 c.before) in took_then (before-in (turn-else5 c.before)).loop-slot.invariant m
    (less_or_same m.onward c.if-next-slot.false)

shape_of-out-after-loop-slot : tie.Need-shape_of-out-after-loop-slot invariant-loop-slot decreases-loop-slot
shape_of-out-after-loop-slot c = c.loop-slot.invariant.long

returns-after-loop-slot : tie.Need-returns-after-loop-slot invariant-loop-slot decreases-loop-slot
returns-after-loop-slot c = c.loop-slot.invariant

shape_of-out-then-count-slot : tie.Need-shape_of-out-then-count-slot invariant-loop-slot decreases-loop-slot
shape_of-out-then-count-slot c = (before-in (turn-else1 c.before)).loop-slot.invariant.long

returns-then-count-slot : tie.Need-returns-then-count-slot invariant-loop-slot decreases-loop-slot
returns-then-count-slot c = (before-in (turn-else1 c.before)).loop-slot.invariant

shape_of-out-then-next-slot : tie.Need-shape_of-out-then-next-slot invariant-loop-slot decreases-loop-slot
shape_of-out-then-next-slot c = (more c.before.before.before.before).long ∙ (before-in (turn-item_at c.before.before.before.before)).loop-slot.invariant.long

returns-then-next-slot : tie.Need-returns-then-next-slot invariant-loop-slot decreases-loop-slot
returns-then-next-slot c = took_still (before-in (turn-item_at c.before.before.before.before)).loop-slot.invariant (more c.before.before.before.before) c.if-next-slot.true

pub take_spec : {M : Type 1} → statement M
take_spec =
    tie.close
    (tie.spec
    invariant-loop-slot
    decreases-loop-slot
    tops_of-tops-requires
    openings-openings-requires
    loop-slot-init
    offset_bounds-row-slot
    bounds-row-slot
    top_of-top-requires
    overflow_cast-top
    bounds-kinds-top
    opening-opening-requires
    single-one-requires
    overflow_add-slot
    overflow_add-then
    offset_bounds-row-slot-then-slot-count
    bounds-row-slot-then-slot-count
    top_of-top_then-requires
    overflow_cast-top_then
    bounds-kinds-top_then
    opening-opening_then-requires
    single-two-requires
    put_two-pen-requires
    overflow_add-slot-then-opening_then-ge8
    loop-slot-smaller-then-opening_then-ge8
    loop-slot-preserved-then-opening_then-ge8
    put_in-pen-requires
    overflow_add-slot-then-opening-ge8
    loop-slot-smaller-then-opening-ge8
    loop-slot-preserved-then-opening-ge8
    overflow_add-slot-in-loop-slot
    item_at-next-requires
    loop-slot-smaller
    loop-slot-preserved
    shape_of-out-after-loop-slot
    returns-after-loop-slot
    shape_of-out-then-count-slot
    returns-then-count-slot
    shape_of-out-then-next-slot
    returns-then-next-slot)
