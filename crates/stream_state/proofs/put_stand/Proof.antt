use mathlib.Core.Path.{refl, sym, ◌∙◌}
use Rattle.stream_state.specs.Storing.{stand_row}
use Rattle.stream_state.proofs.Stored.{row_fills}
use borrow.Author.Rules.{rules}
use Rattle.stream_state.proofs.put_stand.Statement.{statement}
use Rattle.stream_state.proofs.put_stand.Tie as tie
use Rattle.stream_state.proofs.put_stand.Reads as reads
use Rattle.stream_state.proofs.put_stand.Lts as lts
use Rattle.from_c.proofs.put_times.Reads as put-times-reads
use Rattle.stream_state.proofs.flag.Reads as flag-reads

flag-frame_time-requires : tie.Need-flag-frame_time-requires
flag-frame_time-requires c κs = search rules

flag-crc-requires : tie.Need-flag-crc-requires
flag-crc-requires c κs = search rules

flag-parity-requires : tie.Need-flag-parity-requires
flag-parity-requires c κs = search rules

overflow_cast-row : tie.Need-overflow_cast-row
overflow_cast-row c = search rules

overflow_cast-row-2 : tie.Need-overflow_cast-row-2
overflow_cast-row-2 c = search rules

overflow_cast-row-3 : tie.Need-overflow_cast-row-3
overflow_cast-row-3 c = search rules

overflow_cast-row-4 : tie.Need-overflow_cast-row-4
overflow_cast-row-4 c = search rules

slice_bounds-put_times-end : tie.Need-slice_bounds-put_times-end
slice_bounds-put_times-end c = search rules

put_times-requires : tie.Need-put_times-requires
put_times-requires c κs = search rules

shape_of-bytes : tie.Need-shape_of-bytes
shape_of-bytes c = search rules

returns : tie.Need-returns
returns c = let s = c.before.before.before.before.before.before.before.before.before.before.before.before.before.before in
    let f = c.before.before.before.before.before.before.before.before.before in
    c.put_times.ensures
    ∙ rw (f.flag-frame_time.ensures, f.flag-crc.ensures, f.flag-parity.ensures)
    (row_fills (stand_row s.args.stand) s.args.bytes.now 15 refl (sym s.requires))

pub put_stand_spec : {M : Type 1} → statement M
put_stand_spec =
    tie.close
    (tie.spec
    flag-frame_time-requires
    flag-crc-requires
    flag-parity-requires
    overflow_cast-row
    overflow_cast-row-2
    overflow_cast-row-3
    overflow_cast-row-4
    slice_bounds-put_times-end
    put_times-requires
    shape_of-bytes
    returns)
