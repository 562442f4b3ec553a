use Rattle.notices.specs.Laws.Rows.{earliest_next, earliest_end}
use Prim.Native.Nat.{◌+◌, ◌*◌, ◌-◌, ◌≤◌}
use mathlib.Core.Path.{◌≡◌, refl, ap, sym, ◌∙◌}
use native.Mathlib.Omega.{arith}
use lib.ListN.{drop, length}
use Rattle.notices.specs.Table.{earliest_of}
use borrow.Author.Rules.{rules}
use Rattle.notices.proofs.least_of.Statement.{statement}
use Rattle.notices.proofs.least_of.Tie as tie
use Rattle.notices.proofs.least_of.Reads as reads
use Rattle.notices.proofs.least_of.Lts as lts
use Rattle.notices.proofs.earlier.Reads as earlier-reads

abbrev invariant-loop-i : tie.invariant-loop-i
invariant-loop-i table found first₀ i₀ first i = (i ≤ length table) × (earliest_of found table ≡ earliest_of first (drop i table))

abbrev decreases-loop-i : tie.decreases-loop-i
decreases-loop-i table found first₀ i₀ first i = length table - i

loop-i-init : tie.Need-loop-i-init invariant-loop-i decreases-loop-i
loop-i-init c = (omega arith, refl)

offset_bounds-table-i : tie.Need-offset_bounds-table-i invariant-loop-i decreases-loop-i
offset_bounds-table-i c = search rules

bounds-table-i : tie.Need-bounds-table-i invariant-loop-i decreases-loop-i
bounds-table-i c = search rules

earlier-first-requires : tie.Need-earlier-first-requires invariant-loop-i decreases-loop-i
earlier-first-requires c κs = search rules

overflow_add-i : tie.Need-overflow_add-i invariant-loop-i decreases-loop-i
overflow_add-i c = search rules

loop-i-smaller : tie.Need-loop-i-smaller invariant-loop-i decreases-loop-i
loop-i-smaller c = search rules

loop-i-preserved : tie.Need-loop-i-preserved invariant-loop-i decreases-loop-i
loop-i-preserved c =
    let o = c.loop-i in
    let t = c.args.table.now in
    (omega arith, o.invariant.1 ∙ earliest_next o.first t o.i (omega arith) ∙ ap (λ f. earliest_of f (drop (o.i + 1) t)) (sym c.earlier-first.ensures))

returns : tie.Need-returns invariant-loop-i decreases-loop-i
returns c =
    let o = c.loop-i in
    sym (o.invariant.1 ∙ earliest_end o.first c.args.table.now o.i (omega arith))

pub least_of_spec : {M : Type 1} → statement M
least_of_spec =
    tie.close
    (tie.spec
    invariant-loop-i
    decreases-loop-i
    loop-i-init
    offset_bounds-table-i
    bounds-table-i
    earlier-first-requires
    overflow_add-i
    loop-i-smaller
    loop-i-preserved
    returns)
