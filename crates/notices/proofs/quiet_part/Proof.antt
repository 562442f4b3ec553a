use mathlib.Core.Bool.{false}
use mathlib.Core.Logic.{⊎_elim}
use Prim.Native.Nat.{ℕ, ◌+◌, ◌-◌, ◌<◌, ◌≤◌}
use native.Mathlib.Omega.{arith}
use mathlib.Core.Path.{◌≡◌, sym, ◌∙◌}
use lib.ListN.{drop, get_or, length}
use Rattle.notices.specs.Quiet.{is_notice, quiet_part}
use Rattle.notices.specs.Laws.Quiet.{quiet_end, quiet_next, quiet_stop, quiet_fits, quiet_answered, notice_told, other_told}
use Rattle.notices.specs.Laws.Rows.{bus_low}
use borrow.Author.Rules.{rules}
use Rattle.notices.proofs.quiet_part.Statement.{statement}
use Rattle.notices.proofs.quiet_part.Tie as tie
use Rattle.notices.proofs.quiet_part.Reads as reads
use Rattle.notices.proofs.quiet_part.Lts as lts
use Rattle.notices.proofs.answer_after.Reads as answer-after-reads
use Rattle.notices.proofs.is_arinc.Reads as is-arinc-reads
use Rattle.word.proofs.bus_of.Reads as bus-of-reads
use Rattle.word.proofs.label_of.Reads as label-of-reads

abbrev invariant-loop-i : tie.invariant-loop-i
invariant-loop-i parity row kinds i₀ i = (i ≤ length row) × (quiet_part kinds parity 0 row ≡ i + quiet_part kinds parity 0 (drop i row))

abbrev decreases-loop-i : tie.decreases-loop-i
decreases-loop-i parity row kinds i₀ i = length row - i

loop-i-init : tie.Need-loop-i-init invariant-loop-i decreases-loop-i
loop-i-init c = (omega arith, omega arith)

offset_bounds-row-i : tie.Need-offset_bounds-row-i invariant-loop-i decreases-loop-i
offset_bounds-row-i c = search rules

bounds-row-i : tie.Need-bounds-row-i invariant-loop-i decreases-loop-i
bounds-row-i c = search rules

label_of-requires : tie.Need-label_of-requires invariant-loop-i decreases-loop-i
label_of-requires c κs = search rules

bus_of-requires : tie.Need-bus_of-requires invariant-loop-i decreases-loop-i
bus_of-requires c κs = search rules

overflow_cast-bus_of : tie.Need-overflow_cast-bus_of invariant-loop-i decreases-loop-i
overflow_cast-bus_of c = search rules

bounds-kinds-bus_of : tie.Need-bounds-kinds-bus_of invariant-loop-i decreases-loop-i
bounds-kinds-bus_of c =
    let s = c.before.before.before.before.before.before.before in
    let o = c.loop-i in
    omega (arith, c.bus_of.ensures, bus_low s.args.parity (get_or s.args.row.now o.i 0) (s.requires.0 o.i c.loop-i-test.true))

is_arinc-requires : tie.Need-is_arinc-requires invariant-loop-i decreases-loop-i
is_arinc-requires c κs = search rules

answer_after-further-requires : tie.Need-answer_after-further-requires invariant-loop-i decreases-loop-i
answer_after-further-requires c κs = search rules

abbrev entry : tie.At-loop-i invariant-loop-i decreases-loop-i → tie.Start invariant-loop-i decreases-loop-i
entry c = c.before.before

-- the word that is looked at
abbrev here : tie.At-loop-i invariant-loop-i decreases-loop-i → ℕ
here c = get_or (entry c).args.row.now c.loop-i.i 0

-- the turn of the loop
abbrev turn : tie.After-is_arinc invariant-loop-i decreases-loop-i → tie.In-loop-i invariant-loop-i decreases-loop-i
turn c = c.before.before.before.before.before.before

told : (c : tie.After-is_arinc invariant-loop-i decreases-loop-i) → is_notice (entry (turn c).before).args.kinds (entry (turn c).before).args.parity (here (turn c).before) ≡ c.is_arinc.result
told c =
    let l = (turn c).before in
    notice_told (entry l).args.kinds (entry l).args.parity (here l) c.label_of.result c.label_of.ensures
    c.bus_of.result c.is_arinc.result c.bus_of.ensures c.is_arinc.ensures c.if-label_of-eq4.true

fits : (c : tie.After-answer_after-further invariant-loop-i decreases-loop-i) → (turn c.before.before).loop-i.i + c.answer_after-further.result < length (entry (turn c.before.before).before).args.row.now
fits c =
    let t = turn c.before.before in
    let l = t.before in
    quiet_fits (entry l).args.kinds (entry l).args.parity (entry l).args.row.now l.loop-i.i c.answer_after-further.result t.loop-i-test.true
    (told c.before.before ∙ c.if-is_arinc.true) c.answer_after-further.ensures

returns-then-further-eq0 : tie.Need-returns-then-further-eq0 invariant-loop-i decreases-loop-i
returns-then-further-eq0 c =
    let t = turn c.before.before.before in
    let l = t.before in
    sym (l.loop-i.invariant.1
    ∙ quiet_stop (entry l).args.kinds (entry l).args.parity (entry l).args.row.now l.loop-i.i c.answer_after-further.result t.loop-i-test.true
    (told c.before.before.before ∙ c.if-is_arinc.true) c.answer_after-further.ensures c.if-further-eq0.true)

overflow_add-i : tie.Need-overflow_add-i invariant-loop-i decreases-loop-i
overflow_add-i c = omega (arith, fits c.before, (entry (turn c.before.before.before).before).requires.1)

-- the word n is the last of what is found quiet
abbrev Moved : tie.At-loop-i invariant-loop-i decreases-loop-i → ℕ → Type 0
Moved c n =
    (c.loop-i.i ≤ n) × (n < length (entry c).args.row.now)
    × (quiet_part (entry c).args.kinds (entry c).args.parity 0 (entry c).args.row.now
    ≡ n + 1 + quiet_part (entry c).args.kinds (entry c).args.parity 0 (drop (n + 1) (entry c).args.row.now))

answered : (c : tie.Else-further-eq0 invariant-loop-i decreases-loop-i) → Moved (turn c.before.before.before).before ((turn c.before.before.before).loop-i.i + c.answer_after-further.result)
answered c =
    let t = turn c.before.before.before in
    let l = t.before in (
      omega arith,
      fits c.before,
      l.loop-i.invariant.1
          ∙ quiet_answered (entry l).args.kinds (entry l).args.parity (entry l).args.row.now l.loop-i.i c.answer_after-further.result t.loop-i-test.true
          (told c.before.before.before ∙ c.if-is_arinc.true) c.answer_after-further.ensures c.if-further-eq0.false,
    )

no_notice : (c : tie.In-loop-i invariant-loop-i decreases-loop-i) → is_notice (entry c.before).args.kinds (entry c.before).args.parity (here c.before) ≡ false → Moved c.before c.loop-i.i
no_notice c e =
    let l = c.before in (
      omega arith,
      c.loop-i-test.true,
      l.loop-i.invariant.1 ∙ quiet_next (entry l).args.kinds (entry l).args.parity (entry l).args.row.now l.loop-i.i c.loop-i-test.true e,
    )

-- where the ways meet
moved : (c : tie.Joined-label_of-eq4 invariant-loop-i decreases-loop-i) → Moved c.before.before.before.before c.if-label_of-eq4.i
moved c =
    let t = c.before.before.before in
    let s = entry t.before in
    ⊎_elim
    (λ w.
    let b : tie.After-bus_of invariant-loop-i decreases-loop-i = record { before = record { before = c.before; if-label_of-eq4 = w.if-label_of-eq4 }; bus_of = w.bus_of } in
    let k : tie.After-is_arinc invariant-loop-i decreases-loop-i = record { before = record { before = b; is_arinc-arg-1 = w.is_arinc-arg-1 }; is_arinc = w.is_arinc } in
    rw w.i-is (answered (record { before = record { before = record { before = k; if-is_arinc = w.if-is_arinc }; answer_after-further = w.answer_after-further }; if-further-eq0 = w.if-further-eq0 })))
    (λ w.
    ⊎_elim
    (λ v.
    let b : tie.After-bus_of invariant-loop-i decreases-loop-i = record { before = record { before = c.before; if-label_of-eq4 = v.if-label_of-eq4 }; bus_of = v.bus_of } in
    let k : tie.After-is_arinc invariant-loop-i decreases-loop-i = record { before = record { before = b; is_arinc-arg-1 = v.is_arinc-arg-1 }; is_arinc = v.is_arinc } in
    rw v.i-is (no_notice t (told k ∙ v.if-is_arinc.false)))
    (λ v. rw v.i-is (no_notice t (other_told s.args.kinds s.args.parity (here t.before) c.label_of.result c.label_of.ensures v.if-label_of-eq4.false)))
    w)
    c.if-label_of-eq4.branch-raw

overflow_add-i-in-loop-i : tie.Need-overflow_add-i-in-loop-i invariant-loop-i decreases-loop-i
overflow_add-i-in-loop-i c = omega (arith, (moved c.before).1, (entry c.before.before.before.before.before).requires.1)

loop-i-smaller : tie.Need-loop-i-smaller invariant-loop-i decreases-loop-i
loop-i-smaller c = omega (arith, (moved c.before).0, (moved c.before).1)

loop-i-preserved : tie.Need-loop-i-preserved invariant-loop-i decreases-loop-i
loop-i-preserved c = (omega (arith, (moved c.before).1), (moved c.before).2)

returns : tie.Need-returns invariant-loop-i decreases-loop-i
returns c =
    let s = c.before.before.before in
    let o = c.loop-i in
    sym (o.invariant.1 ∙ quiet_end s.args.kinds s.args.parity s.args.row.now o.i c.loop-i-test.false)

pub quiet_part_spec : {M : Type 1} → statement M
quiet_part_spec =
    tie.close
    (tie.spec
    invariant-loop-i
    decreases-loop-i
    loop-i-init
    offset_bounds-row-i
    bounds-row-i
    label_of-requires
    bus_of-requires
    overflow_cast-bus_of
    bounds-kinds-bus_of
    is_arinc-requires
    answer_after-further-requires
    returns-then-further-eq0
    overflow_add-i
    overflow_add-i-in-loop-i
    loop-i-smaller
    loop-i-preserved
    returns)
