use mathlib.Core.Path.{refl, ◌∙◌}
use mathlib.Core.List.{[], ◌∷◌}
use native.Mathlib.Omega.{arith}
use Rattle.format.specs.Laws.Front.{front_none}
use Rattle.stream_state.proofs.Stored.{all_put, failed_bytes, put_row, put_zeros}
use borrow.Author.Rules.{rules}
use Rattle.stream_state.proofs.store_failed.Statement.{statement}
use Rattle.stream_state.proofs.store_failed.Tie as tie
use Rattle.stream_state.proofs.store_failed.Reads as reads
use Rattle.stream_state.proofs.store_failed.Lts as lts
use Rattle.from_c.proofs.put_times.Reads as put-times-reads
use Rattle.stream_state.proofs.clear.Reads as clear_reads

slice_bounds-put_times-end : tie.Need-slice_bounds-put_times-end
slice_bounds-put_times-end c = search rules

slice_bounds-put_times-count : tie.Need-slice_bounds-put_times-count
slice_bounds-put_times-count c = search rules

slice_bounds-put_times-start : tie.Need-slice_bounds-put_times-start
slice_bounds-put_times-start c = search rules

slice_bounds-put_times-end-2 : tie.Need-slice_bounds-put_times-end-2
slice_bounds-put_times-end-2 c = search rules

put_times-requires : tie.Need-put_times-requires
put_times-requires c κs = search rules

slice_bounds-clear-count : tie.Need-slice_bounds-clear-count
slice_bounds-clear-count c = search rules

slice_bounds-clear-start : tie.Need-slice_bounds-clear-start
slice_bounds-clear-start c = search rules

slice_bounds-clear-end : tie.Need-slice_bounds-clear-end
slice_bounds-clear-end c = search rules

clear-requires : tie.Need-clear-requires
clear-requires c κs = search rules

slice_bounds-put_times-end-3 : tie.Need-slice_bounds-put_times-end-3
slice_bounds-put_times-end-3 c = search rules

slice_bounds-put_times-count-2 : tie.Need-slice_bounds-put_times-count-2
slice_bounds-put_times-count-2 c = search rules

slice_bounds-put_times-start-2 : tie.Need-slice_bounds-put_times-start-2
slice_bounds-put_times-start-2 c = search rules

slice_bounds-put_times-end-4 : tie.Need-slice_bounds-put_times-end-4
slice_bounds-put_times-end-4 c = search rules

put_times-requires-2 : tie.Need-put_times-requires-2
put_times-requires-2 c κs = search rules

slice_bounds-clear-count-2 : tie.Need-slice_bounds-clear-count-2
slice_bounds-clear-count-2 c = search rules

slice_bounds-clear-start-2 : tie.Need-slice_bounds-clear-start-2
slice_bounds-clear-start-2 c = search rules

slice_bounds-clear-end-2 : tie.Need-slice_bounds-clear-end-2
slice_bounds-clear-end-2 c = search rules

clear-requires-2 : tie.Need-clear-requires-2
clear-requires-2 c κs = search rules

shape_of-state : tie.Need-shape_of-state
shape_of-state c = search rules

returns : tie.Need-returns
returns c = let f = c.before.before.before.before.before.before in
    let z = f.before.before.before.before.before in
    let t = z.before.before.before.before in
    let s = t.before.before.before.before in
    let a = s.args in
    let stage = put_row 8 1 (1026 ∷ []) refl refl (front_none a.state.now) (omega (arith, s.requires.0)) refl t.put_times.ensures in
    let before = put_zeros 88 stage (omega (arith, s.requires.0)) refl z.clear.ensures in
    let fault = put_row 24 3 (a.number ∷ a.place ∷ a.second ∷ []) refl refl before (omega (arith, s.requires.0)) refl f.put_times-2.ensures in
    let behind = put_zeros 7048 fault (omega (arith, s.requires.0)) refl c.clear-2.ensures in
    all_put behind s.requires.0 ∙ failed_bytes a.number a.place a.second

pub store_failed_spec : {M : Type 1} → statement M
store_failed_spec =
    tie.close
    (tie.spec
    slice_bounds-put_times-end
    slice_bounds-put_times-count
    slice_bounds-put_times-start
    slice_bounds-put_times-end-2
    put_times-requires
    slice_bounds-clear-count
    slice_bounds-clear-start
    slice_bounds-clear-end
    clear-requires
    slice_bounds-put_times-end-3
    slice_bounds-put_times-count-2
    slice_bounds-put_times-start-2
    slice_bounds-put_times-end-4
    put_times-requires-2
    slice_bounds-clear-count-2
    slice_bounds-clear-start-2
    slice_bounds-clear-end-2
    clear-requires-2
    shape_of-state
    returns)
