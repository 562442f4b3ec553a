use Prim.Native.Nat.{ℕ, ◌+◌, ◌-◌, ◌<◌}
use mathlib.Core.Path.{◌≡◌, refl}
use native.Mathlib.Omega.{arith}
use lib.ListN.{length}
use Rattle.stream_state.proofs.Behind.{long, piece_kept, room}
use borrow.Author.Rules.{rules}
use Rattle.stream_state.proofs.keep.Statement.{statement}
use Rattle.stream_state.proofs.keep.Tie as tie
use Rattle.stream_state.proofs.keep.Reads as reads
use Rattle.stream_state.proofs.keep.Lts as lts
use Rattle.stream_state.proofs.copy.Reads as copy-reads
use Rattle.stream_state.proofs.put_count.Reads as put-count-reads

-- the room behind the bytes that wait
here : (s : tie.Start) → (length s.args.state.now ≡ 7168) × (s.args.waiting + length s.args.piece.now < 6144)
here s =
    (long s.args.state.now s.args.waiting s.args.piece.now s.requires, room s.args.state.now s.args.waiting s.args.piece.now s.requires)

overflow_add-first : tie.Need-overflow_add-first
overflow_add-first c = omega (arith, here c.before.before)

overflow_add-end : tie.Need-overflow_add-end
overflow_add-end c = omega (arith, here c.before.before)

slice_bounds-copy-count : tie.Need-slice_bounds-copy-count
slice_bounds-copy-count c = search rules

slice_bounds-copy-start : tie.Need-slice_bounds-copy-start
slice_bounds-copy-start c = search rules

slice_bounds-copy-end : tie.Need-slice_bounds-copy-end
slice_bounds-copy-end c = omega (arith, here c.before.before)

copy-requires : tie.Need-copy-requires
copy-requires c κs = search rules

overflow_sub-end : tie.Need-overflow_sub-end
overflow_sub-end c = search rules

slice_bounds-put_count-count : tie.Need-slice_bounds-put_count-count
slice_bounds-put_count-count c = search rules

slice_bounds-put_count-start : tie.Need-slice_bounds-put_count-start
slice_bounds-put_count-start c = search rules

slice_bounds-put_count-end : tie.Need-slice_bounds-put_count-end
slice_bounds-put_count-end c = omega (arith, here c.before.before.before.before.before.before)

put_count-requires : tie.Need-put_count-requires
put_count-requires c κs = search rules

shape_of-state : tie.Need-shape_of-state
shape_of-state c = search rules

returns : tie.Need-returns
returns c = let s = c.before.before.before.before.before.before.before.before.before.before in
    let a = s.args in
    let first = 1024 + a.waiting in
    let end = first + length a.piece.now in
    let copied = c.copy.ensures in
    piece_kept a.state.now a.waiting a.piece.now s.requires first (end - first) (end - 1024) _ _ refl (omega arith) (omega arith) copied c.put_count.ensures

pub keep_spec : {M : Type 1} → statement M
keep_spec =
    tie.close
    (tie.spec
    overflow_add-first
    overflow_add-end
    slice_bounds-copy-count
    slice_bounds-copy-start
    slice_bounds-copy-end
    copy-requires
    overflow_sub-end
    slice_bounds-put_count-count
    slice_bounds-put_count-start
    slice_bounds-put_count-end
    put_count-requires
    shape_of-state
    returns)
