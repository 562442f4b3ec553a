use native.Mathlib.Omega.{arith}
use mathlib.Core.Path.{sym}
use lib.ListN.{length}
use lib.Seq.{length-take-le}
use borrow.Author.Rules.{rules}
use Rattle.format.specs.Laws.Word.Bytes.{all_bytes}
use Rattle.compose_from_c.proofs.Ragged.{row_composed}
use Rattle.compose_from_c.proofs.compose_bytes.Statement.{statement}
use Rattle.compose_from_c.proofs.compose_bytes.Tie as tie

slice_bounds-times_row-end : tie.Need-slice_bounds-times_row-end
slice_bounds-times_row-end c = search rules

times_row-number-requires : tie.Need-times_row-number-requires
times_row-number-requires c κs = search rules

slice_bounds-row-end : tie.Need-slice_bounds-row-end
slice_bounds-row-end c = search rules

slice_bounds-compose-end : tie.Need-slice_bounds-compose-end
slice_bounds-compose-end c = let t = c.times_row-number in sym (length-take-le t.result t.new.row (omega (arith, t.ensures.few, t.ensures.long)))

compose-requires : tie.Need-compose-requires
compose-requires c κs = search rules

shape_of-out : tie.Need-shape_of-out
shape_of-out c = search rules

returns : tie.Need-returns
returns c =
    let s = c.before.before.before.before.before.before.before.before.before.before.before in
    let a = s.args in
    let t = c.times_row-number in
    let bytes = all_bytes a.log.now (λ i. omega (arith, c.shared_slice_known-1.given i)) in
    rw (row_composed a.plan a.kinds a.log.now bytes a.times.now t.new.row t.result (length a.out.now) t.ensures) c.compose.ensures

pub compose_bytes_spec : {M : Type 1} → statement M
compose_bytes_spec = tie.close (tie.spec slice_bounds-times_row-end times_row-number-requires slice_bounds-row-end slice_bounds-compose-end compose-requires shape_of-out returns)
