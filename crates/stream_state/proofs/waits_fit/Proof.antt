use mathlib.Core.Path.{sym, ◌∙◌}
use native.Mathlib.Omega.{arith}
use Rattle.format.specs.Lists.{list}
use Rattle.stream_state.specs.Layout.{number_at}
use Rattle.stream_state.specs.Parts.{kinds_at}
use Rattle.stream_state.proofs.Table.{zero_numbers}
use Rattle.stream_state.proofs.Waits.{none_wait}
use borrow.Author.Rules.{rules}
use Rattle.stream_state.proofs.waits_fit.Statement.{statement}
use Rattle.stream_state.proofs.waits_fit.Tie as tie
use Rattle.stream_state.proofs.waits_fit.Reads as reads
use Rattle.stream_state.proofs.waits_fit.Lts as lts
use Rattle.stream_state.proofs.each_fits.Reads as each-fits-reads
use Rattle.stream_state.proofs.few_zero.Reads as few-zero-reads

slice_bounds-few_zero-count : tie.Need-slice_bounds-few_zero-count
slice_bounds-few_zero-count c = search rules

slice_bounds-few_zero-start : tie.Need-slice_bounds-few_zero-start
slice_bounds-few_zero-start c = search rules

slice_bounds-few_zero-end : tie.Need-slice_bounds-few_zero-end
slice_bounds-few_zero-end c = search rules

few_zero-requires : tie.Need-few_zero-requires
few_zero-requires c κs = search rules

returns-then-few_zero : tie.Need-returns-then-few_zero
returns-then-few_zero c = let s = c.before.before.before.before in
    let b = s.args.state.now in
    let z = sym c.few_zero.ensures ∙ c.if-few_zero.true in
    sym (none_wait s.args.plan (kinds_at b) s.args.groups 0 (list (number_at b) 36 64) (zero_numbers b 36 64 s.requires.2 (omega arith) z))

each_fits-requires : tie.Need-each_fits-requires
each_fits-requires c κs = search rules

returns : tie.Need-returns
returns c = c.each_fits.ensures

pub waits_fit_spec : {M : Type 1} → statement M
waits_fit_spec =
    tie.close
    (tie.spec
    slice_bounds-few_zero-count
    slice_bounds-few_zero-start
    slice_bounds-few_zero-end
    few_zero-requires
    returns-then-few_zero
    each_fits-requires
    returns)
