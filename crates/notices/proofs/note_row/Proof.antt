use native.Mathlib.Omega.{arith}
use mathlib.Core.Path.{◌≡◌, ap, sym, ◌∙◌}
use lib.ListN.{length}
use Rattle.notices.specs.Quiet.{quiet_words}
use Rattle.notices.specs.Table.{all_zero}
use Rattle.notices.specs.Laws.Quiet.{all_quiet_noted, quiet_noted}
use Rattle.notices.specs.Laws.Rows.{no_arinc, part_length, part_rest, part_words}
use borrow.Author.Rules.{rules}
use Rattle.notices.proofs.note_row.Statement.{statement}
use Rattle.notices.proofs.note_row.Tie as tie
use Rattle.notices.proofs.note_row.Reads as reads
use Rattle.notices.proofs.note_row.Lts as lts
use Rattle.notices.proofs.is_clear.Reads as is-clear-reads
use Rattle.notices.proofs.over_row.Reads as over-row-reads
use Rattle.notices.proofs.quiet_words.Reads as quiet-words-reads

quiet_words-quiet-requires : tie.Need-quiet_words-quiet-requires
quiet_words-quiet-requires c κs = search rules

abbrev Looked : Type 0
Looked = tie.After-quiet_words-quiet

abbrev entry : Looked → tie.Start
entry c = c.before.before.before.before

told : (c : Looked) → c.quiet_words-quiet.result ≡ quiet_words (entry c).args.kinds (entry c).args.parity (entry c).args.row.now (all_zero (entry c).args.table.now)
told c = let s = entry c in c.quiet_words-quiet.ensures ∙ ap (quiet_words s.args.kinds s.args.parity s.args.row.now) s.requires.5

overflow_add-rest : tie.Need-overflow_add-rest
overflow_add-rest c = search rules

offset_bounds-row-quiet : tie.Need-offset_bounds-row-quiet
offset_bounds-row-quiet c = search rules

slice_bounds-over_row-count : tie.Need-slice_bounds-over_row-count
slice_bounds-over_row-count c = search rules

slice_bounds-over_row-start : tie.Need-slice_bounds-over_row-start
slice_bounds-over_row-start c = search rules

slice_bounds-over_row-end : tie.Need-slice_bounds-over_row-end
slice_bounds-over_row-end c = search rules

over_row-found-requires : tie.Need-over_row-found-requires
over_row-found-requires c κs =
    let l = c.before.before.before in
    let s = entry l in
    let q = l.quiet_words-quiet.result in
    (part_words q s.args.row.now s.requires.1, omega (arith, part_length q s.args.row.now (omega (arith, c.if-quiet-row.true)), s.requires.3), s.requires.4)

is_clear-clear-requires : tie.Need-is_clear-clear-requires
is_clear-clear-requires c κs = search rules

shape_of-table-then-quiet-row : tie.Need-shape_of-table-then-quiet-row
shape_of-table-then-quiet-row c = search rules

returns-then-quiet-row : tie.Need-returns-then-quiet-row
returns-then-quiet-row c =
    let l = c.before.before.before.before.before.before.before in
    let s = entry l in
    let o = c.over_row-found in (
      quiet_noted s.args.kinds s.args.parity s.args.from s.args.row.now s.args.table.now l.quiet_words-quiet.result (told l) s.args.noted.found o.result
          o.new.table (rw (part_rest l.quiet_words-quiet.result s.args.row.now) at o.ensures),
      c.is_clear-clear.ensures,
    )

returns-else-quiet-row : tie.Need-returns-else-quiet-row
returns-else-quiet-row c =
    let l = c.before in
    let s = entry l in (
      all_quiet_noted s.args.kinds s.args.parity s.args.from s.args.row.now s.args.table.now l.quiet_words-quiet.result (told l) s.args.noted.found c.if-quiet-row.false,
      s.requires.5,
    )

returns-else-arinc : tie.Need-returns-else-arinc
returns-else-arinc c =
    let s = c.before.before.before in
    (sym (no_arinc s.args.kinds s.args.parity (sym s.requires.0 ∙ c.if-arinc.false) _ _), s.requires.5)

pub note_row_spec : {M : Type 1} → statement M
note_row_spec =
    tie.close
    (tie.spec
    quiet_words-quiet-requires
    overflow_add-rest
    offset_bounds-row-quiet
    slice_bounds-over_row-count
    slice_bounds-over_row-start
    slice_bounds-over_row-end
    over_row-found-requires
    is_clear-clear-requires
    shape_of-table-then-quiet-row
    returns-then-quiet-row
    returns-else-quiet-row
    returns-else-arinc)
