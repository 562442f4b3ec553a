use mathlib.Core.Path.{sym, ◌∙◌}
use Rattle.stream_state.proofs.Table.{zeros_stored}
use borrow.Author.Rules.{rules}
use Rattle.stream_state.proofs.put_table.Statement.{statement}
use Rattle.stream_state.proofs.put_table.Tie as tie
use Rattle.stream_state.proofs.put_table.Reads as reads
use Rattle.stream_state.proofs.put_table.Lts as lts
use Rattle.from_c.proofs.put_times.Reads as put-times-reads
use Rattle.stream_state.proofs.clear.Reads as clear_reads
use Rattle.stream_state.proofs.none_waits.Reads as none-waits-reads

none_waits-requires : tie.Need-none_waits-requires
none_waits-requires c κs = search rules

clear-requires : tie.Need-clear-requires
clear-requires c κs = search rules

shape_of-bytes-then-none_waits : tie.Need-shape_of-bytes-then-none_waits
shape_of-bytes-then-none_waits c = search rules

returns-then-none_waits : tie.Need-returns-then-none_waits
returns-then-none_waits c = let s = c.before.before.before.before.before.before.before.before in
    let t = c.before.before.before.before in
    c.clear.ensures
    ∙ zeros_stored s.args.table.now s.args.bytes.now s.requires.0 s.requires.1 (sym t.none_waits.ensures ∙ t.if-none_waits.true)

put_times-requires : tie.Need-put_times-requires
put_times-requires c κs = search rules

shape_of-bytes : tie.Need-shape_of-bytes
shape_of-bytes c = search rules

returns : tie.Need-returns
returns c = search rules

pub put_table_spec : {M : Type 1} → statement M
put_table_spec =
    tie.close
    (tie.spec
    none_waits-requires
    clear-requires
    shape_of-bytes-then-none_waits
    returns-then-none_waits
    put_times-requires
    shape_of-bytes
    returns)
