use Prim.Native.Nat.{◌≤◌}
use native.Mathlib.Omega.{arith}
use mathlib.Core.Path.{refl, sym, ◌∙◌}
use lib.ListN.{length}
use Rattle.notices.specs.Laws.Marks.{any_some}
use Rattle.notices.specs.Laws.Quiet.{all_quiet_open, quiet_low, rest_open}
use Rattle.notices.specs.Laws.Rows.{no_arinc_open, no_notice_open, part_length, part_rest, part_words}
use borrow.Author.Rules.{rules}
use Rattle.notices.proofs.first_open.Statement.{statement}
use Rattle.notices.proofs.first_open.Tie as tie
use Rattle.notices.proofs.first_open.Reads as reads
use Rattle.notices.proofs.first_open.Lts as lts
use Rattle.notices.proofs.any_notice.Reads as any-notice-reads
use Rattle.notices.proofs.has_arinc.Reads as has-arinc-reads
use Rattle.notices.proofs.least_of.Reads as least-of-reads
use Rattle.notices.proofs.over_row.Reads as over-row-reads
use Rattle.notices.proofs.quiet_noticed.Reads as quiet-noticed-reads

has_arinc-requires : tie.Need-has_arinc-requires
has_arinc-requires c κs = search rules

any_notice-requires : tie.Need-any_notice-requires
any_notice-requires c κs = search rules

quiet_noticed-quiet-requires : tie.Need-quiet_noticed-quiet-requires
quiet_noticed-quiet-requires c κs =
    let s = c.before.before.before.before.before in
    (s.requires.0, any_some s.args.words.now (sym c.any_notice.ensures ∙ c.if-any_notice.true), s.requires.1)

abbrev entry : tie.After-quiet_noticed-quiet → tie.Start
entry c = c.before.before.before.before.before.before

here : (c : tie.After-quiet_noticed-quiet) → c.quiet_noticed-quiet.result ≤ length (entry c).args.words.now
here c = omega (arith, c.quiet_noticed-quiet.ensures, quiet_low (entry c).args.kinds (entry c).args.parity 0 (entry c).args.words.now)

returns-then-quiet-words : tie.Need-returns-then-quiet-words
returns-then-quiet-words c =
    let s = entry c.before in
    let q = c.quiet_noticed-quiet in
    sym (all_quiet_open s.args.kinds s.args.parity s.args.words.now s.requires.0 q.result q.ensures c.if-quiet-words.true)

offset_bounds-words-quiet : tie.Need-offset_bounds-words-quiet
offset_bounds-words-quiet c = omega (arith, here c.before, (entry c.before).requires.1)

slice_bounds-over_row-count : tie.Need-slice_bounds-over_row-count
slice_bounds-over_row-count c = here c.before

slice_bounds-over_row-start : tie.Need-slice_bounds-over_row-start
slice_bounds-over_row-start c = here c.before

slice_bounds-over_row-end : tie.Need-slice_bounds-over_row-end
slice_bounds-over_row-end c = search rules

slice_bounds-over_row-end-then-any_notice : tie.Need-slice_bounds-over_row-end-then-any_notice
slice_bounds-over_row-end-then-any_notice c = search rules

over_row-found-requires : tie.Need-over_row-found-requires
over_row-found-requires c κs =
    let s = entry c.before.before.before in
    let q = c.quiet_noticed-quiet.result in
    (part_words q s.args.words.now s.requires.0, omega (arith, part_length q s.args.words.now (here c.before.before.before), s.requires.1), refl)

slice_bounds-least_of-end : tie.Need-slice_bounds-least_of-end
slice_bounds-least_of-end c = search rules

least_of-requires : tie.Need-least_of-requires
least_of-requires c κs = search rules

returns-then-any_notice : tie.Need-returns-then-any_notice
returns-then-any_notice c =
    let s = entry c.before.before.before.before.before.before.before in
    let q = c.quiet_noticed-quiet in
    let o = c.over_row-found in
    c.least_of.ensures
    ∙ rest_open s.args.kinds s.args.parity s.args.words.now s.requires.0 q.result q.ensures _ _ (rw (part_rest q.result s.args.words.now) at o.ensures)

returns-else-any_notice : tie.Need-returns-else-any_notice
returns-else-any_notice c =
    let a = c.args in
    sym (no_notice_open a.kinds a.parity 0 a.words.now (sym c.any_notice.ensures ∙ c.if-any_notice.false))

returns-else-has_arinc : tie.Need-returns-else-has_arinc
returns-else-has_arinc c = sym (no_arinc_open c.args.kinds c.args.parity (sym c.has_arinc.ensures ∙ c.if-has_arinc.false) _)

pub first_open_spec : {M : Type 1} → statement M
first_open_spec =
    tie.close
    (tie.spec
    has_arinc-requires
    any_notice-requires
    quiet_noticed-quiet-requires
    returns-then-quiet-words
    offset_bounds-words-quiet
    slice_bounds-over_row-count
    slice_bounds-over_row-start
    slice_bounds-over_row-end
    slice_bounds-over_row-end-then-any_notice
    over_row-found-requires
    slice_bounds-least_of-end
    least_of-requires
    returns-then-any_notice
    returns-else-any_notice
    returns-else-has_arinc)
