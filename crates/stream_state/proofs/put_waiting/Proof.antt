use Prim.Native.Nat.{◌+◌, ◌-◌}
use mathlib.Core.Path.{◌≡◌, refl, sym, ◌∙◌}
use native.Mathlib.Omega.{arith}
use lib.ListN.{length}
use Rattle.format.specs.Laws.Front.{front_none, front_part}
use Rattle.from_c.specs.Laws.{length_time}
use Rattle.stream_state.proofs.Stored.{all_put, put_zeros, waiting_put}
use borrow.Author.Rules.{rules}
use Rattle.stream_state.proofs.put_waiting.Statement.{statement}
use Rattle.stream_state.proofs.put_waiting.Tie as tie
use Rattle.stream_state.proofs.put_waiting.Reads as reads
use Rattle.stream_state.proofs.put_waiting.Lts as lts
use Rattle.stream_state.proofs.clear.Reads as clear_reads
use Rattle.stream_state.proofs.copy.Reads as copy-reads
use Rattle.stream_state.proofs.put_count.Reads as put-count-reads

overflow_add-end : tie.Need-overflow_add-end
overflow_add-end c = search rules

slice_bounds-put_count-count : tie.Need-slice_bounds-put_count-count
slice_bounds-put_count-count c = search rules

slice_bounds-put_count-start : tie.Need-slice_bounds-put_count-start
slice_bounds-put_count-start c = search rules

slice_bounds-put_count-end : tie.Need-slice_bounds-put_count-end
slice_bounds-put_count-end c = search rules

put_count-requires : tie.Need-put_count-requires
put_count-requires c κs = search rules

slice_bounds-clear-count : tie.Need-slice_bounds-clear-count
slice_bounds-clear-count c = search rules

slice_bounds-clear-start : tie.Need-slice_bounds-clear-start
slice_bounds-clear-start c = search rules

slice_bounds-clear-end : tie.Need-slice_bounds-clear-end
slice_bounds-clear-end c = search rules

clear-requires : tie.Need-clear-requires
clear-requires c κs = search rules

slice_bounds-copy-count : tie.Need-slice_bounds-copy-count
slice_bounds-copy-count c = search rules

slice_bounds-copy-start : tie.Need-slice_bounds-copy-start
slice_bounds-copy-start c = search rules

slice_bounds-copy-end : tie.Need-slice_bounds-copy-end
slice_bounds-copy-end c = search rules

copy-requires : tie.Need-copy-requires
copy-requires c κs = search rules

slice_bounds-clear-count-2 : tie.Need-slice_bounds-clear-count-2
slice_bounds-clear-count-2 c = search rules

slice_bounds-clear-start-2 : tie.Need-slice_bounds-clear-start-2
slice_bounds-clear-start-2 c = search rules

slice_bounds-clear-end-2 : tie.Need-slice_bounds-clear-end-2
slice_bounds-clear-end-2 c = search rules

clear-requires-2 : tie.Need-clear-requires-2
clear-requires-2 c κs = search rules

shape_of-bytes : tie.Need-shape_of-bytes
shape_of-bytes c = search rules

returns : tie.Need-returns
returns c = let s = c.before.before.before.before.before.before.before.before.before.before.before.before.before.before.before.before.before.before in
    let d = s.args.bytes.now in
    let v = s.args.waiting.now in
    let cleared = c.before.before.before.before.before.before in
    let counted = cleared.before.before.before.before.before.before.before.before in
    let count = front_part 8 _ (front_none d) (length_time (length v)) (omega (arith, s.requires.0)) refl counted.put_count.ensures in
    let gap = put_zeros 216 count (omega (arith, s.requires.0)) refl cleared.clear.ensures in
    let k : 224 + length v - 224 ≡ length v = omega arith in
    let bytes = front_part {n = 224 + length v} (224 + length v - 224) v gap (sym k) (omega (arith, s.requires.0, s.requires.1)) (omega arith) cleared.copy.ensures in
    let rest = put_zeros {n = 6368} (6368 - (224 + length v)) bytes (omega (arith, s.requires.0, s.requires.1)) (omega (arith, s.requires.1)) c.clear-2.ensures in
    all_put rest s.requires.0 ∙ waiting_put v (length v) (6368 - (224 + length v)) refl (omega arith)

pub put_waiting_spec : {M : Type 1} → statement M
put_waiting_spec =
    tie.close
    (tie.spec
    overflow_add-end
    slice_bounds-put_count-count
    slice_bounds-put_count-start
    slice_bounds-put_count-end
    put_count-requires
    slice_bounds-clear-count
    slice_bounds-clear-start
    slice_bounds-clear-end
    clear-requires
    slice_bounds-copy-count
    slice_bounds-copy-start
    slice_bounds-copy-end
    copy-requires
    slice_bounds-clear-count-2
    slice_bounds-clear-start-2
    slice_bounds-clear-end-2
    clear-requires-2
    shape_of-bytes
    returns)
