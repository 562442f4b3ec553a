use mathlib.Core.Path.{refl, ◌∙◌}
use native.Mathlib.Omega.{arith}
use Rattle.format.specs.Laws.Front.{front_none}
use Rattle.stream_state.proofs.Stored.{all_put, put_zeros}
use Rattle.stream_state.proofs.Zeros.{closed_bytes}
use borrow.Author.Rules.{rules}
use Rattle.stream_state.proofs.store_closed.Statement.{statement}
use Rattle.stream_state.proofs.store_closed.Tie as tie
use Rattle.stream_state.proofs.store_closed.Reads as reads
use Rattle.stream_state.proofs.store_closed.Lts as lts
use Rattle.stream_state.proofs.clear.Reads as clear_reads

slice_bounds-clear-count : tie.Need-slice_bounds-clear-count
slice_bounds-clear-count c = search rules

slice_bounds-clear-start : tie.Need-slice_bounds-clear-start
slice_bounds-clear-start c = search rules

slice_bounds-clear-end : tie.Need-slice_bounds-clear-end
slice_bounds-clear-end c = search rules

clear-requires : tie.Need-clear-requires
clear-requires c κs = search rules

shape_of-state : tie.Need-shape_of-state
shape_of-state c = search rules

returns : tie.Need-returns
returns c = let s = c.before.before.before.before.before in
    all_put (put_zeros {n = 7168} 7168 (front_none s.args.state.now) (omega (arith, s.requires)) refl c.clear.ensures) s.requires ∙ closed_bytes

pub store_closed_spec : {M : Type 1} → statement M
store_closed_spec =
    tie.close
    (tie.spec
    slice_bounds-clear-count
    slice_bounds-clear-start
    slice_bounds-clear-end
    clear-requires
    shape_of-state
    returns)
