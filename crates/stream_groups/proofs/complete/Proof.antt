use native.Mathlib.Omega.{arith}
use Prim.Native.Nat.{◌+◌}
use Rattle.stream_piece.proofs.Laid.{copy_laid}
use borrow.Author.Rules.{rules}
use Rattle.stream_groups.proofs.complete.Statement.{statement}
use Rattle.stream_groups.proofs.complete.Tie as tie

overflow_add-begin : tie.Need-overflow_add-begin
overflow_add-begin c = search rules

overflow_add-end : tie.Need-overflow_add-end
overflow_add-end c = search rules

slice_bounds-copy-count : tie.Need-slice_bounds-copy-count
slice_bounds-copy-count c = search rules

slice_bounds-copy-start : tie.Need-slice_bounds-copy-start
slice_bounds-copy-start c = search rules

slice_bounds-copy-end : tie.Need-slice_bounds-copy-end
slice_bounds-copy-end c = search rules

copy-requires : tie.Need-copy-requires
copy-requires c κs = search rules

shape_of-state : tie.Need-shape_of-state
shape_of-state c = search rules

returns : tie.Need-returns
returns c =
    let k = c.before.before in
    let a = k.args in
    let p = k.requires in
    copy_laid a.piece.now (1024 + a.waiting) a.front a.state.now _ p.2 (omega (arith, p.0, p.1)) k.copy.ensures

pub complete_spec : {M : Type 1} → statement M
complete_spec =
    tie.close
    (tie.spec
    overflow_add-begin
    overflow_add-end
    slice_bounds-copy-count
    slice_bounds-copy-start
    slice_bounds-copy-end
    copy-requires
    shape_of-state
    returns)
