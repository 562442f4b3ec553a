use Prim.Native.Nat.{◌-◌, ◌≤◌}
use native.Mathlib.Omega.{arith}
use mathlib.Core.Path.{◌≡◌, refl, ap}
use borrow.Author.Rules.{rules}
use Rattle.group_write.specs.Writing.{same_rows}
use Rattle.group_write.proofs.Words.{Written, written_length, written_is}
use Rattle.group_write.proofs.Runs.{written_rows, written_row}
use Rattle.group_write.proofs.fill_rows.Statement.{statement}
use Rattle.group_write.proofs.fill_rows.Tie as tie

abbrev invariant-loop-row : tie.invariant-loop-row
invariant-loop-row out₀ fill rows row₀ out row = (row ≤ rows) × Written (same_rows fill row) row out₀ out

abbrev decreases-loop-row : tie.decreases-loop-row
decreases-loop-row out₀ fill rows row₀ out row = rows - row

loop-row-init : tie.Need-loop-row-init invariant-loop-row decreases-loop-row
loop-row-init c = (omega arith, written_rows (λ r. c.args.fill) c.args.out.now)

overflow_mul-row : tie.Need-overflow_mul-row invariant-loop-row decreases-loop-row
overflow_mul-row c = search rules

put_word-requires : tie.Need-put_word-requires invariant-loop-row decreases-loop-row
put_word-requires c κs = (omega (arith, written_length c.loop-row.invariant.1, c.requires.0), c.requires.2)

overflow_add-row : tie.Need-overflow_add-row invariant-loop-row decreases-loop-row
overflow_add-row c = search rules

loop-row-smaller : tie.Need-loop-row-smaller invariant-loop-row decreases-loop-row
loop-row-smaller c = search rules

loop-row-preserved : tie.Need-loop-row-preserved invariant-loop-row decreases-loop-row
loop-row-preserved c = let s = c.before.before.before.before.before.before.before in
    let o = c.loop-row in
    (omega arith, written_row (λ r. s.args.fill) o.row s.args.fill o.invariant.1 refl (omega (arith, s.requires.0)) c.put_word.ensures)

shape_of-out : tie.Need-shape_of-out invariant-loop-row decreases-loop-row
shape_of-out c = written_length c.loop-row.invariant.1

returns : tie.Need-returns invariant-loop-row decreases-loop-row
returns c = let e : c.loop-row.row ≡ c.args.rows = omega arith in
    written_is c.loop-row.invariant.1 (ap (same_rows c.args.fill) e) e

pub fill_rows_spec : {M : Type 1} → statement M
fill_rows_spec = tie.close (tie.spec invariant-loop-row decreases-loop-row loop-row-init overflow_mul-row put_word-requires overflow_add-row loop-row-smaller loop-row-preserved shape_of-out returns)
