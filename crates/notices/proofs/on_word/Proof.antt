use mathlib.Core.Bool.{true}
use mathlib.Core.Path.{◌≡◌, sym, ◌∙◌}
use Rattle.format.specs.declared.Kind.{Kind}
use Rattle.notices.specs.Table.{is_arinc}
use Rattle.notices.proofs.OneWord.{notice_noted, word_noted, rest_noted, none_noted}
use borrow.Author.Rules.{rules}
use Rattle.notices.proofs.on_word.Statement.{statement}
use Rattle.notices.proofs.on_word.Tie as tie
use Rattle.notices.proofs.on_word.Reads as reads
use Rattle.notices.proofs.on_word.Lts as lts
use Rattle.notices.proofs.earlier.Reads as earlier-reads
use Rattle.notices.proofs.is_arinc.Reads as is-arinc-reads
use Rattle.notices.proofs.is_syllable.Reads as is-syllable-reads

is_arinc-requires : tie.Need-is_arinc-requires
is_arinc-requires c κs = search rules

overflow_mul-entry : tie.Need-overflow_mul-entry
overflow_mul-entry c = search rules

overflow_add-entry : tie.Need-overflow_add-entry
overflow_add-entry c = search rules

overflow_cast-entry : tie.Need-overflow_cast-entry
overflow_cast-entry c = search rules

offset_bounds-table-entry : tie.Need-offset_bounds-table-entry
offset_bounds-table-entry c = search rules

bounds-table-entry : tie.Need-bounds-table-entry
bounds-table-entry c = search rules

overflow_add-table : tie.Need-overflow_add-table
overflow_add-table c = search rules

offset_bounds-table-entry-then-label-eq4 : tie.Need-offset_bounds-table-entry-then-label-eq4
offset_bounds-table-entry-then-label-eq4 c = search rules

bounds-table-entry-then-label-eq4 : tie.Need-bounds-table-entry-then-label-eq4
bounds-table-entry-then-label-eq4 c = search rules

earlier-requires : tie.Need-earlier-requires
earlier-requires c κs = search rules

shape_of-table-then-label-eq4 : tie.Need-shape_of-table-then-label-eq4
shape_of-table-then-label-eq4 c = search rules

abbrev kind : tie.After-is_arinc → Kind
kind c = c.args.kind

arinc : (c : tie.Then-is_arinc) → is_arinc (kind c.before) ≡ true
arinc c = sym c.is_arinc.ensures ∙ c.if-is_arinc.true

returns-then-label-eq4 : tie.Need-returns-then-label-eq4
returns-then-label-eq4 c =
    let l = c.before.before in
    let k = l.before in
    rw c.earlier.ensures (sym (notice_noted _ _ _ _ _ _ (kind k.before) (arinc k) l.if-label-eq4.true))

is_syllable-requires : tie.Need-is_syllable-requires
is_syllable-requires c κs = search rules

overflow_mul-entry-then-is_syllable : tie.Need-overflow_mul-entry-then-is_syllable
overflow_mul-entry-then-is_syllable c = search rules

overflow_add-entry-then-is_syllable : tie.Need-overflow_add-entry-then-is_syllable
overflow_add-entry-then-is_syllable c = search rules

overflow_cast-entry-then-is_syllable : tie.Need-overflow_cast-entry-then-is_syllable
overflow_cast-entry-then-is_syllable c = search rules

offset_bounds-table-entry-then-is_syllable : tie.Need-offset_bounds-table-entry-then-is_syllable
offset_bounds-table-entry-then-is_syllable c = search rules

bounds-table-entry-then-is_syllable : tie.Need-bounds-table-entry-then-is_syllable
bounds-table-entry-then-is_syllable c = search rules

shape_of-table : tie.Need-shape_of-table
shape_of-table c = search rules

returns-then-is_syllable : tie.Need-returns-then-is_syllable
returns-then-is_syllable c =
    let l = c.before.before in
    let k = l.before in
    sym (word_noted _ _ _ _ _ _ (kind k.before) (arinc k) l.if-label-eq4.false (sym c.is_syllable.ensures ∙ c.if-is_syllable.true))

returns-else-is_syllable : tie.Need-returns-else-is_syllable
returns-else-is_syllable c =
    let l = c.before.before in
    let k = l.before in
    sym (rest_noted _ _ _ _ _ _ (kind k.before) (arinc k) l.if-label-eq4.false (sym c.is_syllable.ensures ∙ c.if-is_syllable.false))

returns-else-is_arinc : tie.Need-returns-else-is_arinc
returns-else-is_arinc c = sym (none_noted _ _ _ _ _ _ (kind c.before) (sym c.is_arinc.ensures ∙ c.if-is_arinc.false))

pub on_word_spec : {M : Type 1} → statement M
on_word_spec =
    tie.close
    (tie.spec
    is_arinc-requires
    overflow_mul-entry
    overflow_add-entry
    overflow_cast-entry
    offset_bounds-table-entry
    bounds-table-entry
    overflow_add-table
    offset_bounds-table-entry-then-label-eq4
    bounds-table-entry-then-label-eq4
    earlier-requires
    shape_of-table-then-label-eq4
    returns-then-label-eq4
    is_syllable-requires
    overflow_mul-entry-then-is_syllable
    overflow_add-entry-then-is_syllable
    overflow_cast-entry-then-is_syllable
    offset_bounds-table-entry-then-is_syllable
    bounds-table-entry-then-is_syllable
    shape_of-table
    returns-then-is_syllable
    returns-else-is_syllable
    returns-else-is_arinc)
