use Prim.Native.Nat.{◌+◌, ◌-◌, ◌≤◌}
use mathlib.Core.Path.{◌≡◌, refl, sym, ◌∙◌}
use native.Mathlib.Omega.{arith}
use lib.ListN.{length, drop}
use borrow.Author.Tests.{not-true, not-false}
use Rattle.stream_state.specs.Parts.{waits_in}
use Rattle.stream_state.proofs.Waits.{wait_bad, wait_good, waits_end}
use borrow.Author.Rules.{rules}
use Rattle.stream_state.proofs.waits_in.Statement.{statement}
use Rattle.stream_state.proofs.waits_in.Tie as tie
use Rattle.stream_state.proofs.waits_in.Reads as reads
use Rattle.stream_state.proofs.waits_in.Lts as lts
use Rattle.stream_state.proofs.wait_fits.Reads as wait-fits-reads

abbrev invariant-loop-index : tie.invariant-loop-index
invariant-loop-index table end lead last kinds index₀ index =
    (index ≤ 64) × (length table ≡ 64) × (waits_in kinds end lead last 0 table ≡ waits_in kinds end lead last index (drop index table))

abbrev decreases-loop-index : tie.decreases-loop-index
decreases-loop-index table end lead last kinds index₀ index = 64 - index

loop-index-init : tie.Need-loop-index-init invariant-loop-index decreases-loop-index
loop-index-init c = (omega arith, c.requires, refl)

bounds-kinds-index : tie.Need-bounds-kinds-index invariant-loop-index decreases-loop-index
bounds-kinds-index c = search rules

offset_bounds-table-index : tie.Need-offset_bounds-table-index invariant-loop-index decreases-loop-index
offset_bounds-table-index c = search rules

bounds-table-index : tie.Need-bounds-table-index invariant-loop-index decreases-loop-index
bounds-table-index c = search rules

wait_fits-requires : tie.Need-wait_fits-requires invariant-loop-index decreases-loop-index
wait_fits-requires c κs = search rules

returns-then-not-wait_fits : tie.Need-returns-then-not-wait_fits invariant-loop-index decreases-loop-index
returns-then-not-wait_fits c = let t = c.before.before.before.before in
    let o = t.loop-index in
    let a = t.args in
    let e = sym c.wait_fits.ensures ∙ c.if-not-wait_fits.true in
    sym (o.invariant.2 ∙ wait_bad a.kinds a.end a.lead a.last a.table.now o.index (omega (arith, o.invariant.1, t.loop-index-test.true)) e)

overflow_add-index : tie.Need-overflow_add-index invariant-loop-index decreases-loop-index
overflow_add-index c = search rules

loop-index-smaller : tie.Need-loop-index-smaller invariant-loop-index decreases-loop-index
loop-index-smaller c = search rules

loop-index-preserved : tie.Need-loop-index-preserved invariant-loop-index decreases-loop-index
loop-index-preserved c = let t = c.before.before.before.before in
    let o = t.loop-index in
    let a = t.args in
    let e = sym c.wait_fits.ensures ∙ c.if-not-wait_fits.false in (
      omega (arith, t.loop-index-test.true),
      o.invariant.1,
      o.invariant.2 ∙ wait_good a.kinds a.end a.lead a.last a.table.now o.index (omega (arith, o.invariant.1, t.loop-index-test.true)) e,
    )

returns : tie.Need-returns invariant-loop-index decreases-loop-index
returns c = let o = c.loop-index in
    let a = c.args in
    sym (o.invariant.2 ∙ waits_end a.kinds a.end a.lead a.last a.table.now o.index (omega arith))

pub waits_in_spec : {M : Type 1} → statement M
waits_in_spec =
    tie.close
    (tie.spec
    invariant-loop-index
    decreases-loop-index
    loop-index-init
    bounds-kinds-index
    offset_bounds-table-index
    bounds-table-index
    wait_fits-requires
    returns-then-not-wait_fits
    overflow_add-index
    loop-index-smaller
    loop-index-preserved
    returns)
