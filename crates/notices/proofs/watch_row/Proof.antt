use Prim.Native.Nat.{◌≤◌}
use native.Mathlib.Omega.{arith}
use mathlib.Core.Path.{ap, sym, ◌∙◌}
use lib.ListN.{length}
use Rattle.notices.specs.Quiet.{quiet_words}
use Rattle.notices.specs.Laws.Quiet.{quiet_most, quiet_watched}
use Rattle.notices.specs.Laws.Rows.{no_arinc, part_length, part_rest, part_words}
use Rattle.notices.specs.Laws.Watch.{watched_same}
use borrow.Author.Rules.{rules}
use Rattle.notices.proofs.watch_row.Statement.{statement}
use Rattle.notices.proofs.watch_row.Tie as tie
use Rattle.notices.proofs.watch_row.Reads as reads
use Rattle.notices.proofs.watch_row.Lts as lts
use Rattle.notices.proofs.first_shown.Reads as first-shown-reads
use Rattle.notices.proofs.is_clear.Reads as is-clear-reads
use Rattle.notices.proofs.quiet_words.Reads as quiet-words-reads

is_clear-requires : tie.Need-is_clear-requires
is_clear-requires c κs = search rules

quiet_words-quiet-requires : tie.Need-quiet_words-quiet-requires
quiet_words-quiet-requires c κs = search rules

abbrev entry : tie.After-quiet_words-quiet → tie.Start
entry c = c.before.before.before.before.before

here : (c : tie.After-quiet_words-quiet) → c.quiet_words-quiet.result ≤ length (entry c).args.row.now
here c = omega (arith, c.quiet_words-quiet.ensures, quiet_most (entry c).args.kinds (entry c).args.parity (entry c).args.row.now c.is_clear.result)

offset_bounds-row-quiet : tie.Need-offset_bounds-row-quiet
offset_bounds-row-quiet c = omega (arith, here c, (entry c).requires.2)

slice_bounds-first_shown-count : tie.Need-slice_bounds-first_shown-count
slice_bounds-first_shown-count c = here c

slice_bounds-first_shown-start : tie.Need-slice_bounds-first_shown-start
slice_bounds-first_shown-start c = here c

slice_bounds-first_shown-end : tie.Need-slice_bounds-first_shown-end
slice_bounds-first_shown-end c = search rules

overflow_add-from : tie.Need-overflow_add-from
overflow_add-from c = omega (arith, here c.before, (entry c.before).requires.2, (entry c.before).requires.3)

first_shown-requires : tie.Need-first_shown-requires
first_shown-requires c κs =
    let s = entry c.before.before in
    let q = c.quiet_words-quiet.result in
    (part_words q s.args.row.now s.requires.1, omega (arith, part_length q s.args.row.now (here c.before.before), s.requires.3), s.requires.4)

shape_of-table-then-arinc : tie.Need-shape_of-table-then-arinc
shape_of-table-then-arinc c = search rules

returns-then-arinc : tie.Need-returns-then-arinc
returns-then-arinc c =
    let s = entry c.before.before.before.before.before in
    let q = c.quiet_words-quiet in
    let z = ap (quiet_words s.args.kinds s.args.parity s.args.row.now) c.is_clear.ensures in
    let o = c.first_shown in
    quiet_watched s.args.kinds s.args.parity s.args.from s.args.row.now s.args.table.now q.result (q.ensures ∙ z) o.result o.new.table
    (rw (part_rest q.result s.args.row.now) at o.ensures)

returns : tie.Need-returns
returns c =
    let s = c.before.before.before in
    sym (watched_same _ s.args.table.now s.args.table.now (no_arinc s.args.kinds s.args.parity (sym s.requires.0 ∙ c.if-arinc.false) _ _))

pub watch_row_spec : {M : Type 1} → statement M
watch_row_spec =
    tie.close
    (tie.spec
    is_clear-requires
    quiet_words-quiet-requires
    offset_bounds-row-quiet
    slice_bounds-first_shown-count
    slice_bounds-first_shown-start
    slice_bounds-first_shown-end
    overflow_add-from
    first_shown-requires
    shape_of-table-then-arinc
    returns-then-arinc
    returns)
