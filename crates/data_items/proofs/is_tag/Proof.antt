use native.Mathlib.Omega.{arith}
use Rattle.data_items.proofs.Words.{tag_first, tag_second, tag_third}
use Rattle.data_items.specs.Row.{parity_of}
use borrow.Author.Rules.{rules}
use Rattle.data_items.proofs.is_tag.Statement.{statement}
use Rattle.data_items.proofs.is_tag.Tie as tie

abbrev before-top_of : tie.After-top_of → tie.Start
before-top_of c = c.before.before.before

abbrev before-top_of2 : tie.After-top_of-2 → tie.After-top_of
before-top_of2 c = c.before.before.before

abbrev start-top_of2 : tie.After-top_of-2 → tie.Start
start-top_of2 c = c.before.before.before.before.before.before

overflow_add-slot : tie.Need-overflow_add-slot
overflow_add-slot c = search rules

offset_bounds-row-slot : tie.Need-offset_bounds-row-slot
offset_bounds-row-slot c = search rules

bounds-row-slot : tie.Need-bounds-row-slot
bounds-row-slot c = search rules

top_of-requires : tie.Need-top_of-requires
top_of-requires c κs = (c.requires.0, c.requires.1 _ (omega (arith, c.requires.2)))

overflow_add-top_of : tie.Need-overflow_add-top_of
overflow_add-top_of c = search rules

returns-then-top_of-awaits : tie.Need-returns-then-top_of-awaits
returns-then-top_of-awaits c = tag_first (parity_of (before-top_of c.before).args.tops) (before-top_of c.before).args.row.now (before-top_of c.before).args.slot
    (before-top_of c.before).args.awaits c.top_of.ensures.0 c.if-top_of-awaits.true

overflow_add-slot-2 : tie.Need-overflow_add-slot-2
overflow_add-slot-2 c = search rules

offset_bounds-row-slot-2 : tie.Need-offset_bounds-row-slot-2
offset_bounds-row-slot-2 c = search rules

bounds-row-slot-2 : tie.Need-bounds-row-slot-2
bounds-row-slot-2 c = search rules

top_of-requires-2 : tie.Need-top_of-requires-2
top_of-requires-2 c κs = (
  (before-top_of c.before.before).requires.0,
  (before-top_of c.before.before).requires.1 _
      (omega (arith, (before-top_of c.before.before).requires.2)),
)

overflow_add-top_of-2 : tie.Need-overflow_add-top_of-2
overflow_add-top_of-2 c = search rules

returns-then-top_of-awaits-2 : tie.Need-returns-then-top_of-awaits-2
returns-then-top_of-awaits-2 c = tag_second (parity_of (start-top_of2 c.before).args.tops) (start-top_of2 c.before).args.row.now (start-top_of2 c.before).args.slot
    (start-top_of2 c.before).args.awaits (before-top_of2 c.before).top_of.ensures.0 c.if-top_of-awaits.false
    c.top_of-2.ensures.0 c.if-top_of-awaits-2.true

overflow_add-result : tie.Need-overflow_add-result
overflow_add-result c = search rules

offset_bounds-row-slot-3 : tie.Need-offset_bounds-row-slot-3
offset_bounds-row-slot-3 c = search rules

bounds-row-slot-3 : tie.Need-bounds-row-slot-3
bounds-row-slot-3 c = search rules

returns : tie.Need-returns
returns c = tag_third (parity_of (start-top_of2 c.before.before).args.tops) (start-top_of2 c.before.before).args.row.now
    (start-top_of2 c.before.before).args.slot (start-top_of2 c.before.before).args.awaits (before-top_of2 c.before.before).top_of.ensures.0
    c.if-top_of-awaits.false c.top_of-2.ensures.0 c.if-top_of-awaits-2.false

pub is_tag_spec : {M : Type 1} → statement M
is_tag_spec =
    tie.close
    (tie.spec
    overflow_add-slot
    offset_bounds-row-slot
    bounds-row-slot
    top_of-requires
    overflow_add-top_of
    returns-then-top_of-awaits
    overflow_add-slot-2
    offset_bounds-row-slot-2
    bounds-row-slot-2
    top_of-requires-2
    overflow_add-top_of-2
    returns-then-top_of-awaits-2
    overflow_add-result
    offset_bounds-row-slot-3
    bounds-row-slot-3
    returns)
