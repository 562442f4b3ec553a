use native.Mathlib.Omega.{arith}
use mathlib.Core.Path.{refl, sym, ◌∙◌}
use Rattle.data_items.proofs.Words.{tag_fits}
use Rattle.data_items.proofs.Arms.{arinc_bare, arinc_marked, arinc_says, arinc_tagged, here_none, low_at, room_behind, top_low}
use borrow.Author.Rules.{rules}
use Rattle.data_items.proofs.arinc_at.Statement.{statement}
use Rattle.data_items.proofs.arinc_at.Tie as tie

abbrev before-top_of : tie.After-top_of → tie.Start
before-top_of c = c.before.before.before.before.before.before.before

abbrev before-else1 : tie.Else-top_of-top → tie.After-top_of
before-else1 c = c.before

abbrev before-syllable : tie.After-syllable-high → tie.Else-top_of-top
before-syllable c = c.before

abbrev before-top_of2 : tie.After-top_of-2 → tie.After-syllable-high
before-top_of2 c = c.before.before

abbrev before-then2 : tie.Then-top_of-awaits → tie.After-top_of-2
before-then2 c = c.before

abbrev before-is_tag : tie.After-is_tag → tie.Then-top_of-awaits
before-is_tag c = c.before

abbrev before-then3 : tie.Then-is_tag → tie.After-is_tag
before-then3 c = c.before

abbrev before-put_in : tie.After-put_in-marked → tie.Then-is_tag
before-put_in c = c.before.before

abbrev before-tag_of : tie.After-tag_of → tie.After-put_in-marked
before-tag_of c = c.before.before.before.before

abbrev before-put_in2 : tie.After-put_in-tagged → tie.After-tag_of
before-put_in2 c = c.before

abbrev before-else2 : tie.Else-top_of-awaits → tie.After-top_of-2
before-else2 c = c.before

abbrev before-is_fill : tie.After-is_fill → tie.Else-top_of-awaits
before-is_fill c = c.before

abbrev before-else4 : tie.Else-is_fill → tie.After-is_fill
before-else4 c = c.before

abbrev before-put_in3 : tie.After-put_in-bare → tie.Else-is_fill
before-put_in3 c = c.before.before

abbrev start-else1 : tie.Else-top_of-top → tie.Start
start-else1 c = c.before.before.before.before.before.before.before.before

abbrev start-syllable : tie.After-syllable-high → tie.Start
start-syllable c = c.before.before.before.before.before.before.before.before.before

abbrev start-then2 : tie.Then-top_of-awaits → tie.Start
start-then2 c = c.before.before.before.before.before.before.before.before.before.before.before.before

abbrev start-then3 : tie.Then-is_tag → tie.Start
start-then3 c = c.before.before.before.before.before.before.before.before.before.before.before.before.before.before

abbrev start-put_in : tie.After-put_in-marked → tie.Start
start-put_in c = c.before.before.before.before.before.before.before.before.before.before.before.before.before.before.before.before

abbrev start-tag_of : tie.After-tag_of → tie.Start
start-tag_of c = c.before.before.before.before.before.before.before.before.before.before.before.before.before.before.before.before.before.before.before.before

abbrev start-put_in2 : tie.After-put_in-tagged → tie.Start
start-put_in2 c = c.before.before.before.before.before.before.before.before.before.before.before.before.before.before.before.before.before.before.before.before.before

abbrev start-is_tag : tie.After-is_tag → tie.Start
start-is_tag c = c.before.before.before.before.before.before.before.before.before.before.before.before.before

abbrev start-is_fill : tie.After-is_fill → tie.Start
start-is_fill c = c.before.before.before.before.before.before.before.before.before.before.before.before.before

abbrev start-else4 : tie.Else-is_fill → tie.Start
start-else4 c = c.before.before.before.before.before.before.before.before.before.before.before.before.before.before

abbrev start-put_in3 : tie.After-put_in-bare → tie.Start
start-put_in3 c = c.before.before.before.before.before.before.before.before.before.before.before.before.before.before.before.before

overflow_add-slot : tie.Need-overflow_add-slot
overflow_add-slot c = omega (arith, c.requires.0.five)

overflow_mul-awaits : tie.Need-overflow_mul-awaits
overflow_mul-awaits c = search rules

overflow_add-awaits : tie.Need-overflow_add-awaits
overflow_add-awaits c = search rules

overflow_add-low : tie.Need-overflow_add-low
overflow_add-low c = omega (arith, c.requires.0.five)

offset_bounds-row-from : tie.Need-offset_bounds-row-from
offset_bounds-row-from c = omega (arith, c.requires.0.five)

bounds-row-from : tie.Need-bounds-row-from
bounds-row-from c = omega (arith, c.requires.0.five)

top_of-requires : tie.Need-top_of-requires
top_of-requires c κs = (
  c.requires.0.all,
  low_at c.requires.0 1
      (omega arith),
)

overflow_add-top_of : tie.Need-overflow_add-top_of
overflow_add-top_of c = search rules

returns-then-top_of-top : tie.Need-returns-then-top_of-top
returns-then-top_of-top c = λ ks k. here_none (before-top_of c.before).requires.0

syllable-high-requires : tie.Need-syllable-high-requires
syllable-high-requires c κs = (omega (arith, top_low (start-else1 c).requires.0), (start-else1 c).requires.1, omega arith, (start-else1 c).requires.2, omega arith)

overflow_mul-base : tie.Need-overflow_mul-base
overflow_mul-base c = omega (arith, arinc_marked (start-syllable c).requires.0 (start-syllable c).requires.1 (start-syllable c).requires.2 c.syllable-high.ensures refl)

overflow_cast-base : tie.Need-overflow_cast-base
overflow_cast-base c = search rules

overflow_add-base : tie.Need-overflow_add-base
overflow_add-base c = omega (arith, arinc_marked (start-syllable c).requires.0 (start-syllable c).requires.1 (start-syllable c).requires.2 c.syllable-high.ensures refl)

offset_bounds-row-slot : tie.Need-offset_bounds-row-slot
offset_bounds-row-slot c = omega (arith, (start-syllable c).requires.0.five)

bounds-row-slot : tie.Need-bounds-row-slot
bounds-row-slot c = omega (arith, (start-syllable c.before).requires.0.five)

top_of-requires-2 : tie.Need-top_of-requires-2
top_of-requires-2 c κs = ((start-syllable c.before).requires.0.all, low_at (start-syllable c.before).requires.0 2 (omega arith))

is_tag-requires : tie.Need-is_tag-requires
is_tag-requires c κs = ((start-then2 c).requires.0.all, (start-then2 c).requires.0.words, omega (arith, (start-then2 c).requires.0.five))

overflow_add-base-then-is_tag : tie.Need-overflow_add-base-then-is_tag
overflow_add-base-then-is_tag c = omega (
  arith,
  arinc_marked (start-then3 c.before).requires.0 (start-then3 c.before).requires.1 (start-then3 c.before).requires.2
      (before-top_of2 (before-then2 (before-is_tag (before-then3 c.before)))).syllable-high.ensures refl,
)

put_in-marked-requires : tie.Need-put_in-marked-requires
put_in-marked-requires c κs = (
  omega (arith, (start-then3 c.before).requires.0.few),
  omega arith,
  arinc_marked (start-then3 c.before).requires.0
      (start-then3 c.before).requires.1 (start-then3 c.before).requires.2 (before-top_of2
      (before-then2 (before-is_tag (before-then3 c.before)))).syllable-high.ensures refl,
  omega (arith, (start-then3 c.before).requires.0.room),
)

tag_of-requires : tie.Need-tag_of-requires
tag_of-requires c κs = omega (arith, (start-put_in c.before.before.before).requires.0.five)

put_in-tagged-requires : tie.Need-put_in-tagged-requires
put_in-tagged-requires c κs = let r = room_behind (start-tag_of c).args.from.pen (start-tag_of c).args.out.now (omega arith)
    (arinc_marked (start-tag_of c).requires.0 (start-tag_of c).requires.1 (start-tag_of c).requires.2
    (before-top_of2 (before-then2 (before-is_tag (before-then3 (before-put_in (before-tag_of c)))))).syllable-high.ensures refl) (before-tag_of c).put_in-marked.ensures
    (start-tag_of c).requires.0.few (start-tag_of c).requires.0.room in (r.0, omega arith, rw c.tag_of.ensures (tag_fits _ _ _), r.1)

overflow_add-behind : tie.Need-overflow_add-behind
overflow_add-behind c = omega (arith, (start-put_in2 c.before.before).requires.0.five, (start-put_in2 c.before.before).requires.0.short)

shape_of-out-then-is_tag : tie.Need-shape_of-out-then-is_tag
shape_of-out-then-is_tag c = search rules

returns-then-is_tag : tie.Need-returns-then-is_tag
returns-then-is_tag c = λ ks k. arinc_tagged (start-put_in2 c.before.before).requires.0 (start-put_in2 c.before.before).requires.1
    (start-put_in2 c.before.before).requires.2 (before-top_of2 (before-then2
    (before-is_tag (before-then3 (before-put_in (before-tag_of (before-put_in2 c.before.before))))))).syllable-high.ensures ks k refl
    (before-else1 (before-syllable (before-top_of2 (before-then2 (before-is_tag
    (before-then3 (before-put_in (before-tag_of (before-put_in2 c.before.before))))))))).top_of.ensures.0
    (before-syllable (before-top_of2 (before-then2 (before-is_tag (before-then3 (before-put_in (before-tag_of (before-put_in2 c.before.before)))))))).if-top_of-top.false
    (before-then2 (before-is_tag (before-then3 (before-put_in (before-tag_of (before-put_in2 c.before.before)))))).top_of-2.ensures.0
    (before-is_tag (before-then3 (before-put_in (before-tag_of (before-put_in2 c.before.before))))).if-top_of-awaits.true
    (before-then3 (before-put_in (before-tag_of (before-put_in2 c.before.before)))).is_tag.ensures
    (before-put_in (before-tag_of (before-put_in2 c.before.before))).if-is_tag.true (before-put_in2 c.before.before).tag_of.ensures
    (before-tag_of (before-put_in2 c.before.before)).put_in-marked.ensures c.put_in-tagged.ensures

returns-then-top_of-awaits : tie.Need-returns-then-top_of-awaits
returns-then-top_of-awaits c = λ ks k. here_none (start-is_tag c.before).requires.0

is_fill-requires : tie.Need-is_fill-requires
is_fill-requires c κs = search rules

returns-then-is_fill : tie.Need-returns-then-is_fill
returns-then-is_fill c = λ ks k. here_none (start-is_fill c.before).requires.0

put_in-bare-requires : tie.Need-put_in-bare-requires
put_in-bare-requires c κs = (
  omega (arith, (start-else4 c.before).requires.0.few),
  omega arith,
  (arinc_says (start-else4 c.before).requires.0
      (start-else4 c.before).requires.1 (start-else4 c.before).requires.2 (before-top_of2
      (before-else2 (before-is_fill (before-else4 c.before)))).syllable-high.ensures refl).fits,
  omega (arith, (start-else4 c.before).requires.0.room),
)

shape_of-out : tie.Need-shape_of-out
shape_of-out c = search rules

returns : tie.Need-returns
returns c = λ ks k. arinc_bare (start-put_in3 c.before.before).requires.0 (start-put_in3 c.before.before).requires.1
    (start-put_in3 c.before.before).requires.2 (before-top_of2 (before-else2
    (before-is_fill (before-else4 (before-put_in3 c.before.before))))).syllable-high.ensures ks k refl
    (before-else1 (before-syllable (before-top_of2 (before-else2 (before-is_fill (before-else4 (before-put_in3 c.before.before))))))).top_of.ensures.0
    (before-syllable (before-top_of2 (before-else2 (before-is_fill (before-else4 (before-put_in3 c.before.before)))))).if-top_of-top.false
    (before-else2 (before-is_fill (before-else4 (before-put_in3 c.before.before)))).top_of-2.ensures.0
    (before-is_fill (before-else4 (before-put_in3 c.before.before))).if-top_of-awaits.false
    (sym (before-else4 (before-put_in3 c.before.before)).is_fill.ensures ∙ (before-put_in3 c.before.before).if-is_fill.false)
    c.put_in-bare.ensures

pub arinc_at_spec : {M : Type 1} → statement M
arinc_at_spec =
    tie.close
    (tie.spec
    overflow_add-slot
    overflow_mul-awaits
    overflow_add-awaits
    overflow_add-low
    offset_bounds-row-from
    bounds-row-from
    top_of-requires
    overflow_add-top_of
    returns-then-top_of-top
    syllable-high-requires
    overflow_mul-base
    overflow_cast-base
    overflow_add-base
    offset_bounds-row-slot
    bounds-row-slot
    top_of-requires-2
    is_tag-requires
    overflow_add-base-then-is_tag
    put_in-marked-requires
    tag_of-requires
    put_in-tagged-requires
    overflow_add-behind
    shape_of-out-then-is_tag
    returns-then-is_tag
    returns-then-top_of-awaits
    is_fill-requires
    returns-then-is_fill
    put_in-bare-requires
    shape_of-out
    returns)
