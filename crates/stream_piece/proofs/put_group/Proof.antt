use borrow.Author.Rules.{rules}
use mathlib.Core.Path.{ap}
use Prim.Native.Nat.{ℕ, ◌/◌}
use Rattle.stream_piece.proofs.Group.{ahead_of}
use Rattle.stream_piece.proofs.Laid.{copy_laid}
use Rattle.stream_piece.proofs.put_group.Statement.{statement}
use Rattle.stream_piece.proofs.put_group.Tie as tie
use Rattle.stream_piece.proofs.put_group.Reads as reads
use Rattle.stream_piece.proofs.put_group.Lts as lts
use Rattle.log_close.proofs.copy.Reads as copy-reads
use Rattle.stream_piece.proofs.put_time.Reads as put-time-reads

overflow_add-end : tie.Need-overflow_add-end
overflow_add-end c = search rules

slice_bounds-copy-count : tie.Need-slice_bounds-copy-count
slice_bounds-copy-count c = search rules

slice_bounds-copy-start : tie.Need-slice_bounds-copy-start
slice_bounds-copy-start c = search rules

slice_bounds-copy-end : tie.Need-slice_bounds-copy-end
slice_bounds-copy-end c = search rules

copy-requires : tie.Need-copy-requires
copy-requires c κs = search rules

put_time-entries-requires : tie.Need-put_time-entries-requires
put_time-entries-requires c κs = search rules

overflow_add-result : tie.Need-overflow_add-result
overflow_add-result c = search rules

shape_of-log : tie.Need-shape_of-log
shape_of-log c = search rules

shape_of-times : tie.Need-shape_of-times
shape_of-times c = search rules

returns : tie.Need-returns
returns c =
    let t = c.before.before.before.before.before in
    let k = t.before.before.before.before in
    let s = k.before.before.before.before.before.before.before in (
      ap (λ (n : ℕ). ahead_of s.args.along s.args.took n) t.put_time-entries.ensures.0,
      copy_laid s.args.out.now s.args.along.bytes (s.args.took.pen.bits / 8) s.args.log.now _ s.requires.0.3 s.requires.1.0 k.copy.ensures,
      t.put_time-entries.ensures.1,
    )

pub put_group_spec : {M : Type 1} → statement M
put_group_spec =
    tie.close
    (tie.spec
    overflow_add-end
    slice_bounds-copy-count
    slice_bounds-copy-start
    slice_bounds-copy-end
    copy-requires
    put_time-entries-requires
    overflow_add-result
    shape_of-log
    shape_of-times
    returns)
