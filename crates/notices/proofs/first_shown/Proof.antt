use Prim.Native.Nat.{ℕ, ◌+◌, ◌-◌, ◌≤◌}
use native.Mathlib.Omega.{arith}
use mathlib.Core.Path.{◌≡◌, ap, ap₂, sym, ◌∙◌}
use mathlib.Core.List.{List}
use lib.ListN.{drop, get_or, length}
use Rattle.format.specs.Reader.{counted}
use Rattle.notices.specs.Roles.{roles_in}
use Rattle.notices.specs.Table.{Notes, or_first, watched_of}
use Rattle.notices.specs.Laws.Rows.{bus_low, word_noted}
use Rattle.notices.specs.Laws.Watch.{watched_next, watched_end}
use borrow.Author.Rules.{rules}
use Rattle.notices.proofs.first_shown.Statement.{statement}
use Rattle.notices.proofs.first_shown.Tie as tie
use Rattle.notices.proofs.first_shown.Reads as reads
use Rattle.notices.proofs.first_shown.Lts as lts
use Rattle.notices.proofs.on_word.Reads as on-word-reads
use Rattle.notices.proofs.or_first.Reads as or-first-reads
use Rattle.word.proofs.bus_of.Reads as bus-of-reads
use Rattle.word.proofs.information_of.Reads as information-of-reads
use Rattle.word.proofs.label_of.Reads as label-of-reads

abbrev invariant-loop-i : tie.invariant-loop-i
invariant-loop-i parity row from table₀ kinds first₀ i₀ table first i =
    (i ≤ length row) × (length table ≡ 64)
    × (watched_of (roles_in kinds parity (counted from row)) (0, table₀) ≡ watched_of (roles_in kinds parity (counted (from + i) (drop i row))) (first, table))

abbrev decreases-loop-i : tie.decreases-loop-i
decreases-loop-i parity row from table₀ kinds first₀ i₀ table first i = length row - i

loop-i-init : tie.Need-loop-i-init invariant-loop-i decreases-loop-i
loop-i-init c =
    let a = c.args in
    let z : a.from + 0 ≡ a.from = omega arith in
    (omega arith, c.requires.2, ap (λ (n : ℕ). watched_of (roles_in a.kinds a.parity (counted n a.row.now)) (0, a.table.now)) (sym z))

offset_bounds-row-i : tie.Need-offset_bounds-row-i invariant-loop-i decreases-loop-i
offset_bounds-row-i c = search rules

bounds-row-i : tie.Need-bounds-row-i invariant-loop-i decreases-loop-i
bounds-row-i c = search rules

bus_of-bus-requires : tie.Need-bus_of-bus-requires invariant-loop-i decreases-loop-i
bus_of-bus-requires c κs = search rules

overflow_cast-bus : tie.Need-overflow_cast-bus invariant-loop-i decreases-loop-i
overflow_cast-bus c = search rules

bounds-kinds-bus : tie.Need-bounds-kinds-bus invariant-loop-i decreases-loop-i
bounds-kinds-bus c =
    let o = c.loop-i in
    let s = c.before.before.before.before.before.before in
    let b = bus_low s.args.parity (get_or s.args.row.now o.i 0) (s.requires.0 o.i c.loop-i-test.true) in
    omega (arith, c.bus_of-bus.ensures, b)

label_of-requires : tie.Need-label_of-requires invariant-loop-i decreases-loop-i
label_of-requires c κs = search rules

information_of-requires : tie.Need-information_of-requires invariant-loop-i decreases-loop-i
information_of-requires c κs = search rules

overflow_add-from : tie.Need-overflow_add-from invariant-loop-i decreases-loop-i
overflow_add-from c = search rules

on_word-shown-requires : tie.Need-on_word-shown-requires invariant-loop-i decreases-loop-i
on_word-shown-requires c κs =
    let t = c.before.before.before.before.before.before in
    let o = t.loop-i in
    let s = t.before.before.before.before in
    let b = bus_low s.args.parity (get_or s.args.row.now o.i 0) (s.requires.0 o.i t.loop-i-test.true) in
    (omega (arith, c.bus_of-bus.ensures, b), o.invariant.1, omega (arith, s.requires.1, t.loop-i-test.true))

or_first-first-requires : tie.Need-or_first-first-requires invariant-loop-i decreases-loop-i
or_first-first-requires c κs = search rules

overflow_add-i : tie.Need-overflow_add-i invariant-loop-i decreases-loop-i
overflow_add-i c = search rules

loop-i-smaller : tie.Need-loop-i-smaller invariant-loop-i decreases-loop-i
loop-i-smaller c = search rules

loop-i-preserved : tie.Need-loop-i-preserved invariant-loop-i decreases-loop-i
loop-i-preserved c =
    let u = c.before.before.before.before.before.before.before.before.before.before in
    let o = u.loop-i in
    let a = u.args in
    let i = u.loop-i-test.true in
    let t = c.on_word-shown in
    let table : List ℕ = t.new.table in
    let q = word_noted a.kinds a.parity (get_or a.row.now o.i 0) _ _ _ (a.from + o.i) (0, o.table) (t.result, table)
    c.bus_of-bus.ensures c.label_of.ensures
    c.information_of.ensures t.ensures in (
      omega (arith, i),
      c.table-1.given ∙ o.invariant.1,
      o.invariant.2 ∙ watched_next a.kinds a.parity a.row.now a.from o.i i (o.first, o.table)
          ∙ ap (watched_of (roles_in a.kinds a.parity (counted (a.from + (o.i + 1)) (drop (o.i + 1) a.row.now))))
          (ap (λ (s : Notes). (or_first o.first s.0, s.1)) q ∙ ap (λ (n : ℕ). (n, table)) (sym c.or_first-first.ensures)),
    )

shape_of-table : tie.Need-shape_of-table invariant-loop-i decreases-loop-i
shape_of-table c = c.loop-i.invariant.1 ∙ sym c.requires.2

returns : tie.Need-returns invariant-loop-i decreases-loop-i
returns c =
    let a = c.args in
    let o = c.loop-i in
    sym (o.invariant.2 ∙ watched_end a.kinds a.parity a.row.now _ o.i (omega (arith, c.loop-i-test.false)) _)

pub first_shown_spec : {M : Type 1} → statement M
first_shown_spec =
    tie.close
    (tie.spec
    invariant-loop-i
    decreases-loop-i
    loop-i-init
    offset_bounds-row-i
    bounds-row-i
    bus_of-bus-requires
    overflow_cast-bus
    bounds-kinds-bus
    label_of-requires
    information_of-requires
    overflow_add-from
    on_word-shown-requires
    or_first-first-requires
    overflow_add-i
    loop-i-smaller
    loop-i-preserved
    shape_of-table
    returns)
