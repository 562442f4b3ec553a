use mathlib.Core.Path.{◌∙◌}
use native.Mathlib.Omega.{arith}
use Rattle.format.specs.Lists.{list}
use Rattle.format.specs.Laws.Limits.{lead_few}
use Rattle.stream_state.specs.Layout.{number_at}
use Rattle.stream_state.specs.Parts.{kinds_at}
use Rattle.stream_state.proofs.Waits.{lead_is, waits_by}
use borrow.Author.Rules.{rules}
use Rattle.stream_state.proofs.each_fits.Statement.{statement}
use Rattle.stream_state.proofs.each_fits.Tie as tie
use Rattle.stream_state.proofs.each_fits.Reads as reads
use Rattle.stream_state.proofs.each_fits.Lts as lts
use Rattle.plan.proofs.slots.Reads as slots-reads
use Rattle.stream_state.proofs.kinds_at.Reads as kinds-at-reads
use Rattle.stream_state.proofs.lead.Reads as lead-reads
use Rattle.stream_state.proofs.notices_at.Reads as notices-at-reads
use Rattle.stream_state.proofs.waits_in.Reads as waits-in-reads

slice_bounds-notices_at-end : tie.Need-slice_bounds-notices_at-end
slice_bounds-notices_at-end c = search rules

notices_at-requires : tie.Need-notices_at-requires
notices_at-requires c κs = search rules

kinds_at-kinds-requires : tie.Need-kinds_at-kinds-requires
kinds_at-kinds-requires c κs = search rules

lead-lead-requires : tie.Need-lead-lead-requires
lead-lead-requires c κs = search rules

slots-requires : tie.Need-slots-requires
slots-requires c κs = search rules

overflow_add-last : tie.Need-overflow_add-last
overflow_add-last c = let p = c.args.plan in
    omega (arith, c.lead-lead.ensures, lead_is p, lead_few p, c.slots.ensures.2)

slice_bounds-waits_in-end : tie.Need-slice_bounds-waits_in-end
slice_bounds-waits_in-end c = search rules

overflow_mul-groups : tie.Need-overflow_mul-groups
overflow_mul-groups c = search rules

waits_in-requires : tie.Need-waits_in-requires
waits_in-requires c κs = search rules

returns : tie.Need-returns
returns c = let n = c.before.before in
    let l = n.before in
    let k = l.before in
    let t = k.before.before in
    let a = t.args in
    let b = a.state.now in
    let w = waits_by a.plan (kinds_at b) a.groups (list (number_at b) 36 64) l.lead-lead.result n.slots.result l.lead-lead.ensures n.slots.ensures.0 in
    c.waits_in.ensures ∙ rw (k.kinds_at-kinds.ensures, t.notices_at.ensures) w

pub each_fits_spec : {M : Type 1} → statement M
each_fits_spec =
    tie.close
    (tie.spec
    slice_bounds-notices_at-end
    notices_at-requires
    kinds_at-kinds-requires
    lead-lead-requires
    slots-requires
    overflow_add-last
    slice_bounds-waits_in-end
    overflow_mul-groups
    waits_in-requires
    returns)
