use mathlib.Core.Path.{refl, sym, ◌∙◌}
use mathlib.Core.List.{[], ◌∷◌}
use Rattle.stream_state.proofs.Stored.{one_time, row_fills}
use borrow.Author.Rules.{rules}
use Rattle.stream_state.proofs.put_count.Statement.{statement}
use Rattle.stream_state.proofs.put_count.Tie as tie
use Rattle.stream_state.proofs.put_count.Reads as reads
use Rattle.stream_state.proofs.put_count.Lts as lts
use Rattle.from_c.proofs.put_times.Reads as put-times-reads

slice_bounds-put_times-end : tie.Need-slice_bounds-put_times-end
slice_bounds-put_times-end c = search rules

put_times-requires : tie.Need-put_times-requires
put_times-requires c κs = search rules

shape_of-bytes : tie.Need-shape_of-bytes
shape_of-bytes c = search rules

returns : tie.Need-returns
returns c = let s = c.before.before.before.before.before.before in
    c.put_times.ensures ∙ row_fills (s.args.count ∷ []) s.args.bytes.now 1 refl (sym s.requires) ∙ one_time s.args.count

pub put_count_spec : {M : Type 1} → statement M
put_count_spec =
    tie.close (tie.spec slice_bounds-put_times-end put_times-requires shape_of-bytes returns)
