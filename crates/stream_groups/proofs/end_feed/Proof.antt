use borrow.Author.Tests.{eq-eqb, ne_eqb}
use borrow.Author.Rules.{rules}
use Rattle.stream_groups.proofs.end_feed.Statement.{statement}
use Rattle.stream_groups.proofs.end_feed.Tie as tie

store_failed-requires : tie.Need-store_failed-requires
store_failed-requires c κs = let s = c.before.before.before.before.before.before in (s.requires.0, s.requires.2.fault c.if-along-ne0.true)

answer_at-requires : tie.Need-answer_at-requires
answer_at-requires c κs = search rules

shape_of-state-then-along-ne0 : tie.Need-shape_of-state-then-along-ne0
shape_of-state-then-along-ne0 c = search rules

returns-then-along-ne0 : tie.Need-returns-then-along-ne0
returns-then-along-ne0 c =
    let s = c.before.before.before.before.before.before.before.before.before.before in
    rw (ne_eqb s.args.along.number 0 c.if-along-ne0.true) (c.answer_at.ensures, c.store_failed.ensures)

stand_at-stand-requires : tie.Need-stand_at-stand-requires
stand_at-stand-requires c κs = search rules

store-requires : tie.Need-store-requires
store-requires c κs = let s = c.before.before.before.before.before.before.before in rw c.stand_at-stand.ensures (s.requires.0, s.requires.2.works c.if-along-ne0.false)

answer_at-requires-2 : tie.Need-answer_at-requires-2
answer_at-requires-2 c κs = search rules

shape_of-state : tie.Need-shape_of-state
shape_of-state c = search rules

returns : tie.Need-returns
returns c =
    let s = c.before.before.before.before.before.before.before.before.before.before.before in
    let e = rw c.stand_at-stand.ensures at c.store.ensures in
    rw (eq-eqb s.args.along.number 0 c.if-along-ne0.false) (c.answer_at-2.ensures, e)

pub end_feed_spec : {M : Type 1} → statement M
end_feed_spec =
    tie.close
    (tie.spec
    store_failed-requires
    answer_at-requires
    shape_of-state-then-along-ne0
    returns-then-along-ne0
    stand_at-stand-requires
    store-requires
    answer_at-requires-2
    shape_of-state
    returns)
