use Prim.Native.Nat.{◌%◌}
use mathlib.Core.Path.{sym, ◌∙◌}
use lib.ListN.{length}
use Rattle.stream_state.proofs.Runs.{front_not, front_zero}
use borrow.Author.Rules.{rules}
use Rattle.stream_state.proofs.bytes_zero.Statement.{statement}
use Rattle.stream_state.proofs.bytes_zero.Tie as tie
use Rattle.stream_state.proofs.bytes_zero.Reads as reads
use Rattle.stream_state.proofs.bytes_zero.Lts as lts
use Rattle.stream_state.proofs.few_zero.Reads as few-zero-reads
use Rattle.stream_state.proofs.runs_zero.Reads as runs-zero-reads

slice_bounds-few_zero-count : tie.Need-slice_bounds-few_zero-count
slice_bounds-few_zero-count c = search rules

slice_bounds-few_zero-start : tie.Need-slice_bounds-few_zero-start
slice_bounds-few_zero-start c = search rules

slice_bounds-few_zero-end : tie.Need-slice_bounds-few_zero-end
slice_bounds-few_zero-end c = search rules

few_zero-requires : tie.Need-few_zero-requires
few_zero-requires c κs = search rules

slice_bounds-runs_zero-count : tie.Need-slice_bounds-runs_zero-count
slice_bounds-runs_zero-count c = search rules

slice_bounds-runs_zero-start : tie.Need-slice_bounds-runs_zero-start
slice_bounds-runs_zero-start c = search rules

slice_bounds-runs_zero-end : tie.Need-slice_bounds-runs_zero-end
slice_bounds-runs_zero-end c = search rules

runs_zero-requires : tie.Need-runs_zero-requires
runs_zero-requires c κs = search rules

returns-then-few_zero : tie.Need-returns-then-few_zero
returns-then-few_zero c = let t = c.before.before in
    let l = t.args.bytes.now in
    c.runs_zero.ensures ∙ front_zero (length l % 128) l (sym t.few_zero.ensures ∙ t.if-few_zero.true)

returns : tie.Need-returns
returns c = let l = c.args.bytes.now in
    front_not (length l % 128) l (sym c.few_zero.ensures ∙ c.if-few_zero.false)

pub bytes_zero_spec : {M : Type 1} → statement M
bytes_zero_spec =
    tie.close
    (tie.spec
    slice_bounds-few_zero-count
    slice_bounds-few_zero-start
    slice_bounds-few_zero-end
    few_zero-requires
    slice_bounds-runs_zero-count
    slice_bounds-runs_zero-start
    slice_bounds-runs_zero-end
    runs_zero-requires
    returns-then-few_zero
    returns)
