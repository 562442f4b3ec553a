use Prim.Native.Nat.{ℕ, ◌+◌, ◌*◌, ◌-◌, ◌≤◌, ◌<◌}
use native.Mathlib.Omega.{arith}
use mathlib.Core.Path.{◌≡◌, ap}
use lib.ListN.{length}
use borrow.Author.Rules.{rules}
use Rattle.group_write.specs.Writing.{sent_rows, row_word}
use Rattle.group_write.proofs.Words.{Written, written_length, written_is}
use Rattle.group_write.proofs.Runs.{written_rows, written_row, run_in, run_low, run_word}
use Rattle.group_write.proofs.put_plain.Statement.{statement}
use Rattle.group_write.proofs.put_plain.Tie as tie

abbrev invariant-loop-row : tie.invariant-loop-row
invariant-loop-row out₀ plan words first rows s₀ row₀ out s row =
    (row ≤ rows) × (s ≡ row * plan.tracks + first) × Written (sent_rows plan words first row) row out₀ out

abbrev decreases-loop-row : tie.decreases-loop-row
decreases-loop-row out₀ plan words first rows s₀ row₀ out s row = rows - row

-- the loop's place, the function's entry, and what the rows are to hold
abbrev Loop : Type 0
Loop = tie.At-loop-row invariant-loop-row decreases-loop-row

abbrev entry : Loop → tie.Start invariant-loop-row decreases-loop-row
entry c = c.before.before.before

abbrev held : tie.Start invariant-loop-row decreases-loop-row → ℕ → ℕ
held c = row_word c.args.plan c.args.words.now c.args.first

-- a turn, and its place where the row is put
abbrev Turn : Type 0
Turn = tie.In-loop-row invariant-loop-row decreases-loop-row

abbrev Row : Type 0
Row = tie.After-put_row invariant-loop-row decreases-loop-row

abbrev turn_of : Row → Turn
turn_of c = c.before.before.before

-- in a turn, the row's word is there
there : (c : Turn) → c.loop-row.s < length (entry c.before).args.words.now
there c = let s = entry c.before in
    omega (arith, c.loop-row.invariant.1, run_in s.args.plan s.args.words.now s.args.first c.loop-row.row s.requires.1 c.loop-row-test.true)

loop-row-init : tie.Need-loop-row-init invariant-loop-row decreases-loop-row
loop-row-init c = (omega arith, omega arith, written_rows (held c.before.before) c.args.out.now)

offset_bounds-words-s : tie.Need-offset_bounds-words-s invariant-loop-row decreases-loop-row
offset_bounds-words-s c = omega (arith, there c.before, (entry c.before.before).requires.1.few)

bounds-words-s : tie.Need-bounds-words-s invariant-loop-row decreases-loop-row
bounds-words-s c = there c.before.before

put_row-requires : tie.Need-put_row-requires invariant-loop-row decreases-loop-row
put_row-requires c κs = let s = entry c.before.before.before in
    let o = c.loop-row in
    (omega (arith, s.requires.1.room, written_length o.invariant.2), omega (arith, s.requires.1.short), run_low s.args.plan s.args.words.now s.args.first o.s s.requires.1.unsent)

overflow_add-s : tie.Need-overflow_add-s invariant-loop-row decreases-loop-row
overflow_add-s c = let t = turn_of c.before.before.before in
    omega (arith, there t, (entry t.before).requires.1.few, (entry t.before).requires.0.tracks_most)

overflow_add-row : tie.Need-overflow_add-row invariant-loop-row decreases-loop-row
overflow_add-row c = search rules

loop-row-smaller : tie.Need-loop-row-smaller invariant-loop-row decreases-loop-row
loop-row-smaller c = search rules

loop-row-preserved : tie.Need-loop-row-preserved invariant-loop-row decreases-loop-row
loop-row-preserved c = let v = c.put_row in
    let t = turn_of c.before.before.before in
    let s = entry t.before in
    let a = s.args in
    let o = t.loop-row in
    let e = run_word a.plan a.words.now a.first o.row o.s v.result (there t) o.invariant.1 v.ensures.0 in
    (omega (arith, t.loop-row-test.true), omega (arith, o.invariant.1), written_row (held s) o.row v.result o.invariant.2 e (omega (arith, s.requires.1.room, t.loop-row-test.true)) v.ensures.2)

shape_of-out : tie.Need-shape_of-out invariant-loop-row decreases-loop-row
shape_of-out c = written_length c.loop-row.invariant.2

returns : tie.Need-returns invariant-loop-row decreases-loop-row
returns c = let a = (entry c.before).args in
    let o = c.loop-row in
    let e : o.row ≡ a.rows = omega (arith, o.invariant.0, c.loop-row-test.false) in
    written_is o.invariant.2 (ap (sent_rows a.plan a.words.now a.first) e) e

pub put_plain_spec : {M : Type 1} → statement M
put_plain_spec =
    tie.close
    (tie.spec
    invariant-loop-row
    decreases-loop-row
    loop-row-init
    offset_bounds-words-s
    bounds-words-s
    put_row-requires
    overflow_add-s
    overflow_add-row
    loop-row-smaller
    loop-row-preserved
    shape_of-out
    returns)
