use lib.ListN.{get_or}
use mathlib.Core.List.{List}
use Prim.Native.Nat.{ℕ}
use Rattle.format.specs.Word.{bus_of}
use Rattle.notices.specs.Laws.Rows.{notes_next, notes_end, bus_low, word_noted}
use Prim.Native.Nat.{◌+◌, ◌*◌, ◌-◌, ◌≤◌}
use mathlib.Core.Path.{◌≡◌, refl, ap, sym, ◌∙◌}
use native.Mathlib.Omega.{arith}
use lib.ListN.{drop, length}
use Rattle.format.specs.Reader.{counted}
use Rattle.notices.specs.Roles.{roles_in}
use Rattle.notices.specs.Table.{notes_of}
use borrow.Author.Rules.{rules}
use Rattle.notices.proofs.over_row.Statement.{statement}
use Rattle.notices.proofs.over_row.Tie as tie
use Rattle.notices.proofs.over_row.Reads as reads
use Rattle.notices.proofs.over_row.Lts as lts
use Rattle.notices.proofs.on_word.Reads as on-word-reads
use Rattle.word.proofs.bus_of.Reads as bus-of-reads
use Rattle.word.proofs.information_of.Reads as information-of-reads
use Rattle.word.proofs.label_of.Reads as label-of-reads

abbrev invariant-loop-i : tie.invariant-loop-i
invariant-loop-i parity row from table₀ found kinds found₀ i₀ table found' i = (i ≤ length row) × (length table ≡ 64) × (notes_of (roles_in kinds parity (counted from row)) (found, table₀) ≡ notes_of (roles_in kinds parity (counted (from + i) (drop i row))) (found', table))

abbrev decreases-loop-i : tie.decreases-loop-i
decreases-loop-i parity row from table₀ found kinds found₀ i₀ table found' i = length row - i

loop-i-init : tie.Need-loop-i-init invariant-loop-i decreases-loop-i
loop-i-init c =
    let a = c.args in
    let z : a.from + 0 ≡ a.from = omega arith in
    (omega arith, c.requires.2, ap (λ (n : ℕ). notes_of (roles_in a.kinds a.parity (counted n a.row.now)) (a.found, a.table.now)) (sym z))

offset_bounds-row-i : tie.Need-offset_bounds-row-i invariant-loop-i decreases-loop-i
offset_bounds-row-i c = search rules

bounds-row-i : tie.Need-bounds-row-i invariant-loop-i decreases-loop-i
bounds-row-i c = search rules

bus_of-bus-requires : tie.Need-bus_of-bus-requires invariant-loop-i decreases-loop-i
bus_of-bus-requires c κs = search rules

overflow_cast-bus : tie.Need-overflow_cast-bus invariant-loop-i decreases-loop-i
overflow_cast-bus c = search rules

bounds-kinds-bus : tie.Need-bounds-kinds-bus invariant-loop-i decreases-loop-i
bounds-kinds-bus c =
    let o = c.loop-i in
    let a = c.args in
    let b = bus_low a.parity (get_or a.row.now o.i 0) (c.requires.0 o.i c.loop-i-test.true) in
    omega (arith, c.bus_of-bus.ensures, b)

label_of-requires : tie.Need-label_of-requires invariant-loop-i decreases-loop-i
label_of-requires c κs = search rules

information_of-requires : tie.Need-information_of-requires invariant-loop-i decreases-loop-i
information_of-requires c κs = search rules

overflow_add-from : tie.Need-overflow_add-from invariant-loop-i decreases-loop-i
overflow_add-from c = search rules

on_word-found-requires : tie.Need-on_word-found-requires invariant-loop-i decreases-loop-i
on_word-found-requires c κs =
    let o = c.loop-i in
    let s = c.before.before.before.before.before.before.before.before.before.before in
    let b = bus_low s.args.parity (get_or s.args.row.now o.i 0) (s.requires.0 o.i c.loop-i-test.true) in
    (omega (arith, c.bus_of-bus.ensures, b), o.invariant.1, omega (arith, s.requires.1, c.loop-i-test.true))

overflow_add-i : tie.Need-overflow_add-i invariant-loop-i decreases-loop-i
overflow_add-i c = search rules

loop-i-smaller : tie.Need-loop-i-smaller invariant-loop-i decreases-loop-i
loop-i-smaller c = search rules

loop-i-preserved : tie.Need-loop-i-preserved invariant-loop-i decreases-loop-i
loop-i-preserved c =
    let o = c.loop-i in
    let a = c.args in
    let i = c.loop-i-test.true in
    let t = c.on_word-found in (
      omega (arith, i),
      c.table-1.given ∙ o.invariant.1,
      o.invariant.2 ∙ notes_next a.kinds a.parity a.row.now a.from o.i i (o.found, o.table)
          ∙ ap (notes_of (roles_in a.kinds a.parity (counted (a.from + (o.i + 1)) (drop (o.i + 1) a.row.now))))
          (word_noted a.kinds a.parity (get_or a.row.now o.i 0) _ _ _ (a.from + o.i) (o.found, o.table) (t.result, t.new.table)
          c.bus_of-bus.ensures c.label_of.ensures
          c.information_of.ensures t.ensures),
    )

shape_of-table : tie.Need-shape_of-table invariant-loop-i decreases-loop-i
shape_of-table c = c.loop-i.invariant.1 ∙ sym c.requires.2

returns : tie.Need-returns invariant-loop-i decreases-loop-i
returns c =
    let a = c.args in
    let o = c.loop-i in
    sym (o.invariant.2 ∙ notes_end a.kinds a.parity a.row.now _ o.i (omega (arith, c.loop-i-test.false)) _)

pub over_row_spec : {M : Type 1} → statement M
over_row_spec =
    tie.close
    (tie.spec
    invariant-loop-i
    decreases-loop-i
    loop-i-init
    offset_bounds-row-i
    bounds-row-i
    bus_of-bus-requires
    overflow_cast-bus
    bounds-kinds-bus
    label_of-requires
    information_of-requires
    overflow_add-from
    on_word-found-requires
    overflow_add-i
    loop-i-smaller
    loop-i-preserved
    shape_of-table
    returns)
