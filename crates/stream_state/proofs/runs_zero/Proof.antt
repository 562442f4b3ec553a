use Prim.Native.Nat.{◌*◌, ◌/◌}
use mathlib.Core.Path.{sym, ◌∙◌}
use lib.ListN.{length}
use borrow.Author.Tests.{not-false, not-true}
use Rattle.stream_state.proofs.Runs.{rest_not, rest_zero}
use borrow.Author.Rules.{rules}
use Rattle.stream_state.proofs.runs_zero.Statement.{statement}
use Rattle.stream_state.proofs.runs_zero.Tie as tie
use Rattle.stream_state.proofs.runs_zero.Reads as reads
use Rattle.stream_state.proofs.runs_zero.Lts as lts
use Rattle.stream_state.proofs.few_zero.Reads as few-zero-reads
use Rattle.stream_state.proofs.four_zero.Reads as four-zero-reads

overflow_mul-part : tie.Need-overflow_mul-part
overflow_mul-part c = search rules

overflow_mul-third : tie.Need-overflow_mul-third
overflow_mul-third c = search rules

overflow_mul-fourth : tie.Need-overflow_mul-fourth
overflow_mul-fourth c = search rules

overflow_mul-rest : tie.Need-overflow_mul-rest
overflow_mul-rest c = search rules

slice_bounds-few_zero-count : tie.Need-slice_bounds-few_zero-count
slice_bounds-few_zero-count c = search rules

slice_bounds-few_zero-start : tie.Need-slice_bounds-few_zero-start
slice_bounds-few_zero-start c = search rules

slice_bounds-few_zero-end : tie.Need-slice_bounds-few_zero-end
slice_bounds-few_zero-end c = search rules

few_zero-requires : tie.Need-few_zero-requires
few_zero-requires c κs = search rules

returns-then-not-few_zero : tie.Need-returns-then-not-few_zero
returns-then-not-few_zero c = let l = c.args.bytes.now in
    rest_not (length l / 128 * 32) l (sym c.few_zero.ensures ∙ c.if-not-few_zero.true)

slice_bounds-four_zero-count : tie.Need-slice_bounds-four_zero-count
slice_bounds-four_zero-count c = search rules

slice_bounds-four_zero-start : tie.Need-slice_bounds-four_zero-start
slice_bounds-four_zero-start c = search rules

slice_bounds-four_zero-end : tie.Need-slice_bounds-four_zero-end
slice_bounds-four_zero-end c = search rules

slice_bounds-four_zero-count-2 : tie.Need-slice_bounds-four_zero-count-2
slice_bounds-four_zero-count-2 c = search rules

slice_bounds-four_zero-start-2 : tie.Need-slice_bounds-four_zero-start-2
slice_bounds-four_zero-start-2 c = search rules

slice_bounds-four_zero-end-2 : tie.Need-slice_bounds-four_zero-end-2
slice_bounds-four_zero-end-2 c = search rules

slice_bounds-four_zero-count-3 : tie.Need-slice_bounds-four_zero-count-3
slice_bounds-four_zero-count-3 c = search rules

slice_bounds-four_zero-start-3 : tie.Need-slice_bounds-four_zero-start-3
slice_bounds-four_zero-start-3 c = search rules

slice_bounds-four_zero-end-3 : tie.Need-slice_bounds-four_zero-end-3
slice_bounds-four_zero-end-3 c = search rules

slice_bounds-four_zero-count-4 : tie.Need-slice_bounds-four_zero-count-4
slice_bounds-four_zero-count-4 c = search rules

slice_bounds-four_zero-start-4 : tie.Need-slice_bounds-four_zero-start-4
slice_bounds-four_zero-start-4 c = search rules

slice_bounds-four_zero-end-4 : tie.Need-slice_bounds-four_zero-end-4
slice_bounds-four_zero-end-4 c = search rules

four_zero-requires : tie.Need-four_zero-requires
four_zero-requires c κs = search rules

returns : tie.Need-returns
returns c = let l = c.args.bytes.now in
    let t = c.before.before.before.before.before in
    c.four_zero.ensures ∙ rest_zero (length l / 128 * 32) l (sym t.few_zero.ensures ∙ t.if-not-few_zero.false)

pub runs_zero_spec : {M : Type 1} → statement M
runs_zero_spec =
    tie.close
    (tie.spec
    overflow_mul-part
    overflow_mul-third
    overflow_mul-fourth
    overflow_mul-rest
    slice_bounds-few_zero-count
    slice_bounds-few_zero-start
    slice_bounds-few_zero-end
    few_zero-requires
    returns-then-not-few_zero
    slice_bounds-four_zero-count
    slice_bounds-four_zero-start
    slice_bounds-four_zero-end
    slice_bounds-four_zero-count-2
    slice_bounds-four_zero-start-2
    slice_bounds-four_zero-end-2
    slice_bounds-four_zero-count-3
    slice_bounds-four_zero-start-3
    slice_bounds-four_zero-end-3
    slice_bounds-four_zero-count-4
    slice_bounds-four_zero-start-4
    slice_bounds-four_zero-end-4
    four_zero-requires
    returns)
