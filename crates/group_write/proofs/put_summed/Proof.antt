use Prim.Native.Nat.{ℕ, ◌+◌, ◌*◌, ◌-◌, ◌^◌, ◌<◌}
use native.Mathlib.Omega.{arith}
use lib.ListN.{length, get_or}
use borrow.Author.Rules.{rules}
use Rattle.format.specs.Lawful.{buses}
use Rattle.group_write.specs.Writing.{sent_rows}
use Rattle.group_write.proofs.Words.{Written, written_length}
use Rattle.group_write.proofs.Runs.{Put, put_none, put_one, put_two, put_all, one_in, two_in, one_written, run_low}
use Rattle.group_write.proofs.put_summed.Statement.{statement}
use Rattle.group_write.proofs.put_summed.Tie as tie

abbrev invariant-loop-row : tie.invariant-loop-row
invariant-loop-row out₀ plan words first rows sum₀ s₀ row₀ out sum s row = Put plan words first rows sum₀ out₀ row s sum out

abbrev decreases-loop-row : tie.decreases-loop-row
decreases-loop-row out₀ plan words first rows sum₀ s₀ row₀ out sum s row = rows - row

-- the loop's place, and the function's entry
abbrev Loop : Type 0
Loop = tie.At-loop-row invariant-loop-row decreases-loop-row

abbrev entry : Loop → tie.Start invariant-loop-row decreases-loop-row
entry c = c.before.before.before

-- the loop's place before the first row of a turn, the second, the turn's end, and before the last row
abbrev First : Type 0
First = tie.After-put_row-one invariant-loop-row decreases-loop-row

abbrev turn_of : First → tie.In-loop-row invariant-loop-row decreases-loop-row
turn_of c = c.before.before.before

abbrev at_first : First → Loop
at_first c = (turn_of c).before

abbrev Second : Type 0
Second = tie.After-put_row-two invariant-loop-row decreases-loop-row

abbrev first_of : Second → First
first_of c = c.before.before.before.before.before.before

abbrev turned : tie.After-struct_known-in-loop-row-1 invariant-loop-row decreases-loop-row → Second
turned c = c.before.before.before.before

abbrev Last : Type 0
Last = tie.After-put_row-last invariant-loop-row decreases-loop-row

abbrev at_last : Last → Loop
at_last c = c.before.before.before.before.before

abbrev last_of : tie.After-add invariant-loop-row decreases-loop-row → Last
last_of c = c.before.before.before

abbrev ended : tie.After-add invariant-loop-row decreases-loop-row → Loop
ended c = at_last (last_of c)

-- what was put before a turn, by the laws of a run
put : (c : Loop) → Put (entry c).args.plan (entry c).args.words.now (entry c).args.first (entry c).args.rows (entry c).args.before (entry c).args.out.now
    c.loop-row.row c.loop-row.s c.loop-row.sum c.loop-row.out
put c = c.loop-row.invariant

one : (c : Loop) → c.loop-row.row < (entry c).args.rows → c.loop-row.s < length (entry c).args.words.now
one c = one_in (entry c).args.plan (entry c).args.words.now (entry c).args.first (entry c).args.rows (entry c).args.before (entry c).args.out.now (entry c).requires.1
    c.loop-row.row c.loop-row.s c.loop-row.sum c.loop-row.out (put c)

two : (c : Loop) → c.loop-row.row + 1 < (entry c).args.rows → c.loop-row.s + (entry c).args.plan.tracks < length (entry c).args.words.now
two c = two_in (entry c).args.plan (entry c).args.words.now (entry c).args.first (entry c).args.rows (entry c).args.before (entry c).args.out.now (entry c).requires.1
    c.loop-row.row c.loop-row.s c.loop-row.sum c.loop-row.out (put c)

low : (c : Loop) (s : ℕ) → get_or (entry c).args.words.now s 0 < buses (entry c).args.plan.parity * 2 ^ 20
low c s = run_low (entry c).args.plan (entry c).args.words.now (entry c).args.first s (entry c).requires.1.unsent

-- in a turn, the first row and the second
first_at : (c : tie.In-loop-row invariant-loop-row decreases-loop-row) → c.loop-row.s < length (entry c.before).args.words.now
first_at c = one c.before (omega arith)

second_at : (c : tie.In-loop-row invariant-loop-row decreases-loop-row) → c.loop-row.s + (entry c.before).args.plan.tracks < length (entry c.before).args.words.now
second_at c = two c.before c.loop-row-test.true

last_at : (c : tie.Then-row-rows invariant-loop-row decreases-loop-row) → c.loop-row.s < length (entry c.before.before).args.words.now
last_at c = one c.before.before c.if-row-rows.true

first_put : (c : First) → Written (sent_rows (entry (at_first c)).args.plan (entry (at_first c)).args.words.now (entry (at_first c)).args.first ((at_first c).loop-row.row + 1))
    ((at_first c).loop-row.row + 1) (entry (at_first c)).args.out.now c.put_row-one.new.out
first_put c = let a = (entry (at_first c)).args in
    let o = (at_first c).loop-row in
    one_written a.plan a.words.now a.first a.rows a.before a.out.now (entry (at_first c)).requires.1 o.row o.s o.sum o.out (put (at_first c))
    c.put_row-one.result (omega arith) c.put_row-one.ensures.0 c.put_row-one.ensures.2

loop-row-init : tie.Need-loop-row-init invariant-loop-row decreases-loop-row
loop-row-init c = let a = c.args in
    put_none a.plan a.words.now a.first a.rows a.before a.out.now c.requires.1 c.requires.2

overflow_add-row : tie.Need-overflow_add-row invariant-loop-row decreases-loop-row
overflow_add-row c = omega (arith, c.loop-row.invariant.within, (entry c).requires.1.short)

offset_bounds-words-s : tie.Need-offset_bounds-words-s invariant-loop-row decreases-loop-row
offset_bounds-words-s c = omega (arith, first_at c.before, (entry c.before.before).requires.1.few)

bounds-words-s : tie.Need-bounds-words-s invariant-loop-row decreases-loop-row
bounds-words-s c = first_at c.before.before

put_row-one-requires : tie.Need-put_row-one-requires invariant-loop-row decreases-loop-row
put_row-one-requires c κs = let r = (entry c.before.before.before).requires.1 in
    (omega (arith, r.room, written_length c.loop-row.invariant.bytes), omega (arith, r.short), low c.before.before.before c.loop-row.s)

overflow_add-row-in-loop-row : tie.Need-overflow_add-row-in-loop-row invariant-loop-row decreases-loop-row
overflow_add-row-in-loop-row c = omega (arith, (entry (at_first c.before.before.before)).requires.1.short)

overflow_add-s : tie.Need-overflow_add-s invariant-loop-row decreases-loop-row
overflow_add-s c = omega (arith, second_at c.before.before.before.before.before.before.before, (entry (at_first c.before.before.before.before)).requires.1.few)

offset_bounds-words-s-in-loop-row : tie.Need-offset_bounds-words-s-in-loop-row invariant-loop-row decreases-loop-row
offset_bounds-words-s-in-loop-row c = omega (arith, second_at c.before.before.before.before.before.before.before, (entry (at_first c.before.before.before.before)).requires.1.few)

bounds-words-s-in-loop-row : tie.Need-bounds-words-s-in-loop-row invariant-loop-row decreases-loop-row
bounds-words-s-in-loop-row c = second_at c.before.before.before.before.before.before.before.before

put_row-two-requires : tie.Need-put_row-two-requires invariant-loop-row decreases-loop-row
put_row-two-requires c κs = let l = at_first c.before.before.before.before.before in
    let r = (entry l).requires.1 in
    (omega (arith, r.room, written_length (first_put c.before.before.before.before.before)), omega (arith, r.short), low l (l.loop-row.s + (entry l).args.plan.tracks))

add_two-sum-requires : tie.Need-add_two-sum-requires invariant-loop-row decreases-loop-row
add_two-sum-requires c κs = let f = first_of c.before.before in
    ((at_first f).loop-row.invariant.sums.small, f.put_row-one.ensures.1, c.put_row-two.ensures.1)

overflow_mul-s : tie.Need-overflow_mul-s invariant-loop-row decreases-loop-row
overflow_mul-s c = search rules

overflow_add-s-in-loop-row : tie.Need-overflow_add-s-in-loop-row invariant-loop-row decreases-loop-row
overflow_add-s-in-loop-row c = let l = at_first (first_of (turned c)) in
    omega (arith, second_at (turn_of (first_of (turned c))), (entry l).requires.1.few, (entry l).requires.0.tracks_most)

overflow_add-row-in-loop-row-2 : tie.Need-overflow_add-row-in-loop-row-2 invariant-loop-row decreases-loop-row
overflow_add-row-in-loop-row-2 c = omega (arith, (entry (at_first (first_of (turned c)))).requires.1.short)

loop-row-smaller : tie.Need-loop-row-smaller invariant-loop-row decreases-loop-row
loop-row-smaller c = search rules

loop-row-preserved : tie.Need-loop-row-preserved invariant-loop-row decreases-loop-row
loop-row-preserved c = let l = at_first (first_of (turned c)) in
    let a = (entry l).args in
    let o = l.loop-row in
    let u = (first_of (turned c)).put_row-one in
    let w = (turned c).put_row-two in
    put_two a.plan a.words.now a.first a.rows a.before a.out.now (entry l).requires.1 o.row o.s o.sum o.out (put l)
    u.result w.result (turn_of (first_of (turned c))).loop-row-test.true u.ensures.0 w.ensures.0 u.ensures.2 w.ensures.2 c.add_two-sum.ensures

offset_bounds-words-s-then-row-rows : tie.Need-offset_bounds-words-s-then-row-rows invariant-loop-row decreases-loop-row
offset_bounds-words-s-then-row-rows c = omega (arith, last_at c.before, (entry c.before.before.before).requires.1.few)

bounds-words-s-then-row-rows : tie.Need-bounds-words-s-then-row-rows invariant-loop-row decreases-loop-row
bounds-words-s-then-row-rows c = last_at c.before.before

put_row-last-requires : tie.Need-put_row-last-requires invariant-loop-row decreases-loop-row
put_row-last-requires c κs = let l = c.before.before.before.before in
    let r = (entry l).requires.1 in
    (omega (arith, r.room, written_length l.loop-row.invariant.bytes), omega (arith, r.short), low l l.loop-row.s)

add-requires : tie.Need-add-requires invariant-loop-row decreases-loop-row
add-requires c κs = ((at_last c.before.before).loop-row.invariant.sums.small, c.put_row-last.ensures.1)

-- the last row of an odd number
last_put : (c : tie.After-add invariant-loop-row decreases-loop-row) → Put (entry (ended c)).args.plan (entry (ended c)).args.words.now (entry (ended c)).args.first
    (entry (ended c)).args.rows (entry (ended c)).args.before (entry (ended c)).args.out.now
    ((ended c).loop-row.row + 1) ((ended c).loop-row.s + (entry (ended c)).args.plan.tracks) c.add.result (last_of c).put_row-last.new.out
last_put c = let l = ended c in
    let a = (entry l).args in
    let o = l.loop-row in
    let v = (last_of c).put_row-last in
    put_one a.plan a.words.now a.first a.rows a.before a.out.now (entry l).requires.1 o.row o.s o.sum o.out (put l)
    v.result c.if-row-rows.true v.ensures.0 v.ensures.2 c.add.ensures

shape_of-out-then-row-rows : tie.Need-shape_of-out-then-row-rows invariant-loop-row decreases-loop-row
shape_of-out-then-row-rows c = written_length (last_put c).bytes

returns-then-row-rows : tie.Need-returns-then-row-rows invariant-loop-row decreases-loop-row
returns-then-row-rows c = let l = ended c in
    let a = (entry l).args in
    let o = l.loop-row in
    put_all a.plan a.words.now a.first a.rows a.before a.out.now (entry l).requires.1 (o.row + 1) (o.s + a.plan.tracks) c.add.result (last_of c).put_row-last.new.out
    (last_put c) (omega arith)

shape_of-out : tie.Need-shape_of-out invariant-loop-row decreases-loop-row
shape_of-out c = written_length c.loop-row.invariant.bytes

returns : tie.Need-returns invariant-loop-row decreases-loop-row
returns c = let l = c.before.before in
    let a = (entry l).args in
    let o = l.loop-row in
    put_all a.plan a.words.now a.first a.rows a.before a.out.now (entry l).requires.1 o.row o.s o.sum o.out (put l) (omega (arith, o.invariant.within))

pub put_summed_spec : {M : Type 1} → statement M
put_summed_spec =
    tie.close
    (tie.spec
    invariant-loop-row
    decreases-loop-row
    loop-row-init
    overflow_add-row
    offset_bounds-words-s
    bounds-words-s
    put_row-one-requires
    overflow_add-row-in-loop-row
    overflow_add-s
    offset_bounds-words-s-in-loop-row
    bounds-words-s-in-loop-row
    put_row-two-requires
    add_two-sum-requires
    overflow_mul-s
    overflow_add-s-in-loop-row
    overflow_add-row-in-loop-row-2
    loop-row-smaller
    loop-row-preserved
    offset_bounds-words-s-then-row-rows
    bounds-words-s-then-row-rows
    put_row-last-requires
    add-requires
    shape_of-out-then-row-rows
    returns-then-row-rows
    shape_of-out
    returns)
