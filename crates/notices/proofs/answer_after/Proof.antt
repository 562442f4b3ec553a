use Prim.Native.Nat.{ℕ, ◌+◌, ◌-◌, ◌<◌, ◌≤◌}
use native.Mathlib.Omega.{arith}
use mathlib.Core.Path.{◌≡◌, ap, sym, ◌∙◌}
use lib.ListN.{drop, get_or, length}
use Rattle.notices.specs.Quiet.{answer_in, awaited}
use Rattle.notices.specs.Laws.Quiet.{answer_from, answer_start, answer_end, answer_far, answer_notice, answer_here, answer_past, label_low}
use Rattle.notices.specs.Laws.Rows.{bus_low}
use borrow.Author.Rules.{rules}
use Rattle.notices.proofs.answer_after.Statement.{statement}
use Rattle.notices.proofs.answer_after.Tie as tie
use Rattle.notices.proofs.answer_after.Reads as reads
use Rattle.notices.proofs.answer_after.Lts as lts
use Rattle.notices.proofs.awaited_by.Reads as awaited-by-reads
use Rattle.word.proofs.bus_of.Reads as bus-of-reads
use Rattle.word.proofs.label_of.Reads as label-of-reads

abbrev invariant-loop-d : tie.invariant-loop-d
invariant-loop-d parity row i awaited d₀ d = (1 ≤ d) × (d ≤ 9) × (answer_in parity awaited 8 (drop (i + 1) row) ≡ answer_from parity awaited row i d)

abbrev decreases-loop-d : tie.decreases-loop-d
decreases-loop-d parity row i awaited d₀ d = 9 - d

offset_bounds-row-i : tie.Need-offset_bounds-row-i invariant-loop-d decreases-loop-d
offset_bounds-row-i c = search rules

bounds-row-i : tie.Need-bounds-row-i invariant-loop-d decreases-loop-d
bounds-row-i c = search rules

awaited_by-awaited-requires : tie.Need-awaited_by-awaited-requires invariant-loop-d decreases-loop-d
awaited_by-awaited-requires c κs = c.requires.0 c.args.i c.requires.2

loop-d-init : tie.Need-loop-d-init invariant-loop-d decreases-loop-d
loop-d-init c =
    let a = c.args in
    (omega arith, omega arith, answer_start a.parity c.awaited_by-awaited.result a.row.now a.i)

abbrev entry : tie.At-loop-d invariant-loop-d decreases-loop-d → tie.Start invariant-loop-d decreases-loop-d
entry c = c.before.before.before.before

-- what is settled where the loop begins
settled : (c : tie.At-loop-d invariant-loop-d decreases-loop-d)
    → answer_in (entry c).args.parity (awaited (entry c).args.parity (get_or (entry c).args.row.now (entry c).args.i 0)) 8 (drop ((entry c).args.i + 1) (entry c).args.row.now)
    ≡ answer_from (entry c).args.parity c.awaited_by-awaited.result (entry c).args.row.now (entry c).args.i c.loop-d.d
settled c =
    let a = (entry c).args in
    ap (λ (n : ℕ). answer_in a.parity n 8 (drop (a.i + 1) a.row.now)) (sym c.awaited_by-awaited.ensures) ∙ c.loop-d.invariant.2

overflow_add-i : tie.Need-overflow_add-i invariant-loop-d decreases-loop-d
overflow_add-i c = search rules

-- the word that is looked at is there, and is one of the eight
here : (c : tie.Else-d-eq9 invariant-loop-d decreases-loop-d) → (1 ≤ c.loop-d.d) × (c.loop-d.d < 9)
    × ((entry c.before.before).args.i + c.loop-d.d < length (entry c.before.before).args.row.now)
here c = (c.loop-d.invariant.0, omega (arith, c.if-d-eq9.false, c.loop-d.invariant.1), c.loop-d-test.true)

returns-then-d-eq9 : tie.Need-returns-then-d-eq9 invariant-loop-d decreases-loop-d
returns-then-d-eq9 c =
    let l = c.before.before in
    let a = (entry l).args in
    sym (settled l ∙ answer_far a.parity l.awaited_by-awaited.result a.row.now a.i l.loop-d.d c.if-d-eq9.true)

overflow_add-next : tie.Need-overflow_add-next invariant-loop-d decreases-loop-d
overflow_add-next c = search rules

offset_bounds-row-i-in-loop-d : tie.Need-offset_bounds-row-i-in-loop-d invariant-loop-d decreases-loop-d
offset_bounds-row-i-in-loop-d c = search rules

bounds-row-i-in-loop-d : tie.Need-bounds-row-i-in-loop-d invariant-loop-d decreases-loop-d
bounds-row-i-in-loop-d c = search rules

label_of-next_label-requires : tie.Need-label_of-next_label-requires invariant-loop-d decreases-loop-d
label_of-next_label-requires c κs = search rules

returns-then-next_label-eq4 : tie.Need-returns-then-next_label-eq4 invariant-loop-d decreases-loop-d
returns-then-next_label-eq4 c =
    let l = c.before.before.before.before.before in
    let a = (entry l).args in
    let h = here c.before.before.before in
    sym (settled l
    ∙ answer_notice a.parity l.awaited_by-awaited.result a.row.now a.i l.loop-d.d h.0 h.1 h.2
    c.label_of-next_label.result c.label_of-next_label.ensures c.if-next_label-eq4.true)

bus_of-requires : tie.Need-bus_of-requires invariant-loop-d decreases-loop-d
bus_of-requires c κs = search rules

bus_there : (c : tie.After-bus_of invariant-loop-d decreases-loop-d) → c.bus_of.result < 16
bus_there c =
    let l = c.before.before.before.before.before.before in
    let s = entry l in
    let o = l.loop-d in
    omega (arith, c.bus_of.ensures, bus_low s.args.parity (get_or s.args.row.now (s.args.i + o.d) 0) (s.requires.0 (s.args.i + o.d) (here c.before.before.before.before).2))

overflow_mul-bus_of : tie.Need-overflow_mul-bus_of invariant-loop-d decreases-loop-d
overflow_mul-bus_of c = omega (arith, bus_there c)

overflow_add-bus_of : tie.Need-overflow_add-bus_of invariant-loop-d decreases-loop-d
overflow_add-bus_of c =
    let l = c.before.before.before.before.before.before in
    let s = entry l in
    let o = l.loop-d in
    omega (arith, bus_there c, c.label_of-next_label.ensures, label_low (get_or s.args.row.now (s.args.i + o.d) 0))

returns-then-bus_of-next_label : tie.Need-returns-then-bus_of-next_label invariant-loop-d decreases-loop-d
returns-then-bus_of-next_label c =
    let l = c.before.before.before.before.before.before.before in
    let a = (entry l).args in
    let h = here c.before.before.before.before.before in
    let b = c.label_of-next_label in
    sym (settled l
    ∙ answer_here a.parity l.awaited_by-awaited.result a.row.now a.i l.loop-d.d h.0 h.1 h.2 b.result b.ensures
    c.bus_of.result c.bus_of.ensures c.if-next_label-eq4.false c.if-bus_of-next_label.true)

overflow_add-d : tie.Need-overflow_add-d invariant-loop-d decreases-loop-d
overflow_add-d c = search rules

loop-d-smaller : tie.Need-loop-d-smaller invariant-loop-d decreases-loop-d
loop-d-smaller c = search rules

loop-d-preserved : tie.Need-loop-d-preserved invariant-loop-d decreases-loop-d
loop-d-preserved c =
    let l = c.before.before.before.before.before.before.before in
    let a = (entry l).args in
    let h = here c.before.before.before.before.before in
    let b = c.label_of-next_label in (
      omega arith,
      omega (arith, h.1),
      l.loop-d.invariant.2
          ∙ answer_past a.parity l.awaited_by-awaited.result a.row.now a.i l.loop-d.d h.0 h.1 h.2 b.result b.ensures
          c.bus_of.result c.bus_of.ensures c.if-next_label-eq4.false c.if-bus_of-next_label.false,
    )

returns : tie.Need-returns invariant-loop-d decreases-loop-d
returns c =
    let l = c.before in
    let a = (entry l).args in
    sym (settled l ∙ answer_end a.parity l.awaited_by-awaited.result a.row.now a.i l.loop-d.d (omega (arith, c.loop-d-test.false)))

pub answer_after_spec : {M : Type 1} → statement M
answer_after_spec =
    tie.close
    (tie.spec
    invariant-loop-d
    decreases-loop-d
    offset_bounds-row-i
    bounds-row-i
    awaited_by-awaited-requires
    loop-d-init
    overflow_add-i
    returns-then-d-eq9
    overflow_add-next
    offset_bounds-row-i-in-loop-d
    bounds-row-i-in-loop-d
    label_of-next_label-requires
    returns-then-next_label-eq4
    bus_of-requires
    overflow_mul-bus_of
    overflow_add-bus_of
    returns-then-bus_of-next_label
    overflow_add-d
    loop-d-smaller
    loop-d-preserved
    returns)
