use native.Mathlib.Omega.{arith}
use mathlib.Core.Path.{refl}
use Rattle.format.specs.Laws.Limits.{dealt_most, group_most}
use Rattle.capture_parts.proofs.Part.{dealt_few}
use borrow.Author.Rules.{rules}
use Rattle.stream_groups.proofs.feed_groups.Statement.{statement}
use Rattle.stream_groups.proofs.feed_groups.Tie as tie

-- ---- the places

-- the notices' numbers were read, and the size of a group is known
abbrev Sized : Type 0
Sized = tie.After-group_words

abbrev start : Sized → tie.Start
start c = c.before.before.before.before.before.before.before.before.before

slice_bounds-notices_at-end : tie.Need-slice_bounds-notices_at-end
slice_bounds-notices_at-end c = search rules

notices_at-requires : tie.Need-notices_at-requires
notices_at-requires c κs = let s = c.before.before.before.before.before in (s.requires.fed.work.long, refl)

group_words-requires : tie.Need-group_words-requires
group_words-requires c κs = search rules

slice_bounds-feed_in-end : tie.Need-slice_bounds-feed_in-end
slice_bounds-feed_in-end c = search rules

slice_bounds-feed_in-end-then-group_words-le628 : tie.Need-slice_bounds-feed_in-end-then-group_words-le628
slice_bounds-feed_in-end-then-group_words-le628 c = search rules

slice_bounds-feed_in-end-then-group_words-le628-2 : tie.Need-slice_bounds-feed_in-end-then-group_words-le628-2
slice_bounds-feed_in-end-then-group_words-le628-2 c = search rules

feed_in-requires : tie.Need-feed_in-requires
feed_in-requires c κs =
    let few = c.before.before.before.before.before.before in
    let z = few.before in
    let s = start z in
    let h = s.requires.fed.work.shape in
    let p = s.args.stand.plan in
    let w = z.group_words.ensures.0 in (
      rw z.notices_at.ensures s.requires,
      record { slots_are = refl; dealt = omega (arith, dealt_few p h, w, few.if-group_words-le628.true); built = omega (arith, w, few.if-group_words-le628.true) },
    )

shape_of-state-then-group_words-le628 : tie.Need-shape_of-state-then-group_words-le628
shape_of-state-then-group_words-le628 c = c.state-1.given

shape_of-log-then-group_words-le628 : tie.Need-shape_of-log-then-group_words-le628
shape_of-log-then-group_words-le628 c = c.log-1.given

shape_of-times-then-group_words-le628 : tie.Need-shape_of-times-then-group_words-le628
shape_of-times-then-group_words-le628 c = c.times-1.given

returns-then-group_words-le628 : tie.Need-returns-then-group_words-le628
returns-then-group_words-le628 c = c.feed_in.ensures

slice_bounds-feed_in-end-2 : tie.Need-slice_bounds-feed_in-end-2
slice_bounds-feed_in-end-2 c = search rules

slice_bounds-feed_in-end-3 : tie.Need-slice_bounds-feed_in-end-3
slice_bounds-feed_in-end-3 c = search rules

slice_bounds-feed_in-end-4 : tie.Need-slice_bounds-feed_in-end-4
slice_bounds-feed_in-end-4 c = search rules

feed_in-requires-2 : tie.Need-feed_in-requires-2
feed_in-requires-2 c κs =
    let z = c.before.before.before.before.before.before.before in
    let s = start z in
    let h = s.requires.fed.work.shape in
    let p = s.args.stand.plan in
    (rw z.notices_at.ensures s.requires, record { slots_are = refl; dealt = omega (arith, dealt_most p h); built = omega (arith, group_most p h) })

shape_of-state : tie.Need-shape_of-state
shape_of-state c = c.state-2-1.given

shape_of-log : tie.Need-shape_of-log
shape_of-log c = c.log-2-1.given

shape_of-times : tie.Need-shape_of-times
shape_of-times c = c.times-2-1.given

returns : tie.Need-returns
returns c = c.feed_in-2.ensures

pub feed_groups_spec : {M : Type 1} → statement M
feed_groups_spec =
    tie.close
    (tie.spec
    slice_bounds-notices_at-end
    notices_at-requires
    group_words-requires
    slice_bounds-feed_in-end
    slice_bounds-feed_in-end-then-group_words-le628
    slice_bounds-feed_in-end-then-group_words-le628-2
    feed_in-requires
    shape_of-state-then-group_words-le628
    shape_of-log-then-group_words-le628
    shape_of-times-then-group_words-le628
    returns-then-group_words-le628
    slice_bounds-feed_in-end-2
    slice_bounds-feed_in-end-3
    slice_bounds-feed_in-end-4
    feed_in-requires-2
    shape_of-state
    shape_of-log
    shape_of-times
    returns)
