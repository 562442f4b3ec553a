use borrow.Author.Tests.{eq-eqb}
use Rattle.notices.specs.Laws.Rows.{zero_next, zero_end}
use Rattle.notices.proofs.Counts.{none_either}
use Prim.Native.Nat.{◌+◌, ◌*◌, ◌-◌, ◌≤◌}
use mathlib.Core.Path.{◌≡◌, refl, ap, sym, ◌∙◌}
use native.Mathlib.Omega.{arith}
use mathlib.Core.Bool.{Bool, true, false, cond}
use lib.ListN.{drop, get_or, length}
use lib.Dec.{eqb}
use Rattle.notices.specs.Table.{all_zero}
use borrow.Author.Rules.{rules}
use Rattle.notices.proofs.is_clear.Statement.{statement}
use Rattle.notices.proofs.is_clear.Tie as tie
use Rattle.notices.proofs.is_clear.Reads as reads
use Rattle.notices.proofs.is_clear.Lts as lts

abbrev invariant-loop-i : tie.invariant-loop-i
invariant-loop-i table waiting₀ i₀ waiting i = (i ≤ length table) × (all_zero table ≡ cond (eqb waiting 0) (all_zero (drop i table)) false)

abbrev decreases-loop-i : tie.decreases-loop-i
decreases-loop-i table waiting₀ i₀ waiting i = length table - i

loop-i-init : tie.Need-loop-i-init invariant-loop-i decreases-loop-i
loop-i-init c = (omega arith, refl)

offset_bounds-table-i : tie.Need-offset_bounds-table-i invariant-loop-i decreases-loop-i
offset_bounds-table-i c = search rules

bounds-table-i : tie.Need-bounds-table-i invariant-loop-i decreases-loop-i
bounds-table-i c = search rules

overflow_add-i : tie.Need-overflow_add-i invariant-loop-i decreases-loop-i
overflow_add-i c = search rules

loop-i-smaller : tie.Need-loop-i-smaller invariant-loop-i decreases-loop-i
loop-i-smaller c = search rules

loop-i-preserved : tie.Need-loop-i-preserved invariant-loop-i decreases-loop-i
loop-i-preserved c =
    let o = c.loop-i in
    let t = c.args.table.now in (
      omega arith,
      o.invariant.1 ∙ ap (λ z. cond (eqb o.waiting 0) z false) (zero_next t o.i (omega arith))
          ∙ none_either o.waiting (get_or t o.i 0) (all_zero (drop (o.i + 1) t)),
    )

returns : tie.Need-returns invariant-loop-i decreases-loop-i
returns c =
    let o = c.loop-i in
    let t = c.args.table.now in
    sym (o.invariant.1 ∙ ap (λ z. cond (eqb o.waiting 0) z false) (zero_end t o.i (omega arith)) ∙ whole (eqb o.waiting 0))
  where
    whole : (b : Bool) → cond b true false ≡ b
    whole true = refl
    whole false = refl

pub is_clear_spec : {M : Type 1} → statement M
is_clear_spec =
    tie.close
    (tie.spec
    invariant-loop-i
    decreases-loop-i
    loop-i-init
    offset_bounds-table-i
    bounds-table-i
    overflow_add-i
    loop-i-smaller
    loop-i-preserved
    returns)
