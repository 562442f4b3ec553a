use mathlib.Core.Path.{◌∙◌}
use Rattle.stream_state.proofs.Table.{table_read}
use borrow.Author.Rules.{rules}
use Rattle.stream_state.proofs.notices_at.Statement.{statement}
use Rattle.stream_state.proofs.notices_at.Tie as tie
use Rattle.stream_state.proofs.notices_at.Reads as reads
use Rattle.stream_state.proofs.notices_at.Lts as lts
use Rattle.stream_state.proofs.read_table.Reads as read-table-reads

slice_bounds-read_table-count : tie.Need-slice_bounds-read_table-count
slice_bounds-read_table-count c = search rules

slice_bounds-read_table-start : tie.Need-slice_bounds-read_table-start
slice_bounds-read_table-start c = search rules

slice_bounds-read_table-end : tie.Need-slice_bounds-read_table-end
slice_bounds-read_table-end c = search rules

read_table-requires : tie.Need-read_table-requires
read_table-requires c κs = search rules

shape_of-table : tie.Need-shape_of-table
shape_of-table c = search rules

returns : tie.Need-returns
returns c = let r = c.before.before in
    let s = r.before.before.before.before.before in
    r.read_table.ensures ∙ table_read s.args.state.now s.args.table.now s.requires.0 s.requires.1

pub notices_at_spec : {M : Type 1} → statement M
notices_at_spec =
    tie.close
    (tie.spec
    slice_bounds-read_table-count
    slice_bounds-read_table-start
    slice_bounds-read_table-end
    read_table-requires
    shape_of-table
    returns)
