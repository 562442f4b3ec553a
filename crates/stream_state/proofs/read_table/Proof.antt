use mathlib.Core.Path.{sym, ◌∙◌}
use Rattle.stream_state.proofs.Table.{zero_table}
use borrow.Author.Rules.{rules}
use Rattle.stream_state.proofs.read_table.Statement.{statement}
use Rattle.stream_state.proofs.read_table.Tie as tie
use Rattle.stream_state.proofs.read_table.Reads as reads
use Rattle.stream_state.proofs.read_table.Lts as lts
use Rattle.from_c.proofs.times_from.Reads as times-from-reads
use Rattle.stream_state.proofs.bytes_zero.Reads as bytes-zero-reads
use Rattle.stream_state.proofs.clear_table.Reads as clear-table-reads

bytes_zero-requires : tie.Need-bytes_zero-requires
bytes_zero-requires c κs = search rules

clear_table-requires : tie.Need-clear_table-requires
clear_table-requires c κs = search rules

shape_of-table-then-bytes_zero : tie.Need-shape_of-table-then-bytes_zero
shape_of-table-then-bytes_zero c = search rules

returns-then-bytes_zero : tie.Need-returns-then-bytes_zero
returns-then-bytes_zero c = let s = c.before.before.before.before.before.before.before.before in
    let t = c.before.before.before.before in
    c.clear_table.ensures
    ∙ zero_table s.args.bytes.now s.args.table.now s.requires.0 s.requires.1 (sym t.bytes_zero.ensures ∙ t.if-bytes_zero.true)

times_from-requires : tie.Need-times_from-requires
times_from-requires c κs = search rules

shape_of-table : tie.Need-shape_of-table
shape_of-table c = search rules

returns : tie.Need-returns
returns c = search rules

pub read_table_spec : {M : Type 1} → statement M
read_table_spec =
    tie.close
    (tie.spec
    bytes_zero-requires
    clear_table-requires
    shape_of-table-then-bytes_zero
    returns-then-bytes_zero
    times_from-requires
    shape_of-table
    returns)
