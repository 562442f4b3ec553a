use Rattle.format.specs.Word.{label_of}
use Rattle.notices.specs.Laws.Rows.{notice_next, notice_end}
use Rattle.notices.proofs.Counts.{count_low, any_count, or_none}
use Prim.Native.Nat.{◌+◌, ◌*◌, ◌/◌, ◌%◌, ◌-◌, ◌≤◌}
use mathlib.Core.Path.{◌≡◌, refl, ap, sym, ◌∙◌}
use native.Mathlib.Omega.{arith}
use mathlib.Core.Bool.{Bool, true, false, not, ◌||◌}
use lib.ListN.{drop, get_or, length}
use lib.Dec.{eqb}
use Rattle.notices.specs.Table.{any_notice}
use borrow.Author.Rules.{rules}
use Rattle.notices.proofs.any_notice.Statement.{statement}
use Rattle.notices.proofs.any_notice.Tie as tie
use Rattle.notices.proofs.any_notice.Reads as reads
use Rattle.notices.proofs.any_notice.Lts as lts

abbrev invariant-loop-i : tie.invariant-loop-i
invariant-loop-i row count₀ i₀ count i = (i ≤ length row) × (count ≤ i) × (any_notice row ≡ (not (eqb count 0) || any_notice (drop i row)))

abbrev decreases-loop-i : tie.decreases-loop-i
decreases-loop-i row count₀ i₀ count i = length row - i

loop-i-init : tie.Need-loop-i-init invariant-loop-i decreases-loop-i
loop-i-init c = (omega arith, omega arith, refl)

offset_bounds-row-i : tie.Need-offset_bounds-row-i invariant-loop-i decreases-loop-i
offset_bounds-row-i c = search rules

bounds-row-i : tie.Need-bounds-row-i invariant-loop-i decreases-loop-i
bounds-row-i c = search rules

overflow_cast-count : tie.Need-overflow_cast-count invariant-loop-i decreases-loop-i
overflow_cast-count c = tt

overflow_add-count : tie.Need-overflow_add-count invariant-loop-i decreases-loop-i
overflow_add-count c =
    let ws = c.args.row.now in
    omega (arith, count_low (eqb (get_or ws c.loop-i.i 0 / 65536 % 16) 4) c.loop-i.count c.loop-i.i c.loop-i.invariant.1)

overflow_add-i : tie.Need-overflow_add-i invariant-loop-i decreases-loop-i
overflow_add-i c = search rules

loop-i-smaller : tie.Need-loop-i-smaller invariant-loop-i decreases-loop-i
loop-i-smaller c = search rules

loop-i-preserved : tie.Need-loop-i-preserved invariant-loop-i decreases-loop-i
unfolding label_of
loop-i-preserved c =
    let o = c.loop-i in
    let ws = c.args.row.now in (
      omega arith,
      count_low (eqb (label_of (get_or ws o.i 0)) 4) o.count o.i o.invariant.1,
      o.invariant.2 ∙ ap (λ z. not (eqb o.count 0) || z) (notice_next ws o.i (omega arith))
          ∙ any_count o.count (eqb (label_of (get_or ws o.i 0)) 4) (any_notice (drop (o.i + 1) ws)),
    )

returns : tie.Need-returns invariant-loop-i decreases-loop-i
returns c =
    let o = c.loop-i in
    let ws = c.args.row.now in
    sym (o.invariant.2 ∙ ap (λ z. not (eqb o.count 0) || z) (notice_end ws o.i (omega arith)) ∙ or_none (not (eqb o.count 0)))

pub any_notice_spec : {M : Type 1} → statement M
any_notice_spec =
    tie.close
    (tie.spec
    invariant-loop-i
    decreases-loop-i
    loop-i-init
    offset_bounds-row-i
    bounds-row-i
    overflow_cast-count
    overflow_add-count
    overflow_add-i
    loop-i-smaller
    loop-i-preserved
    returns)
