use Rattle.log_store.proofs.Putting.{item_few, puts_none, puts_one, puts_marked}
use borrow.Author.Tests.{eq-eqb, ne_eqb}
use native.Mathlib.Omega.{arith}
use borrow.Author.Rules.{rules}
use Rattle.log_store.proofs.put.Statement.{statement}
use Rattle.log_store.proofs.put.Tie as tie

returns-then-not-stored : tie.Need-returns-then-not-stored
returns-then-not-stored c =
    let a = c.args in
    puts_none a.level a.item a.built.now a.pen a.stored (c.if-not-stored.true)

put_item-requires : tie.Need-put_item-requires
put_item-requires c κs = search rules

shape_of-built-then-level-eq0 : tie.Need-shape_of-built-then-level-eq0
shape_of-built-then-level-eq0 c = search rules

returns-then-level-eq0 : tie.Need-returns-then-level-eq0
returns-then-level-eq0 c =
    let put = c.before.before in
    let test = put.before.before in
    let a = test.args in
    puts_one a.level a.item a.built.now a.pen a.stored _ _ (test.if-not-stored.false)
    (eq-eqb a.level.unmarked 0 test.if-level-eq0.true) put.put_item.ensures

mark-first-requires : tie.Need-mark-first-requires
mark-first-requires c κs = search rules

put_item-marked-requires : tie.Need-put_item-marked-requires
put_item-marked-requires c κs = search rules

put_item-requires-2 : tie.Need-put_item-requires-2
put_item-requires-2 c κs =
    let put = c.before.before.before in
    let start = put.before.before.before.before.before.before.before in
    rw put.put_item-marked.ensures.0 (omega (arith, item_few start.args.pen put.mark-first.result, start.requires.0))

shape_of-built : tie.Need-shape_of-built
shape_of-built c = search rules

returns : tie.Need-returns
returns c =
    let put = c.before.before in
    let first = put.before.before.before.before in
    let mark = first.before.before in
    let test = mark.before in
    let a = test.args in
    puts_marked a.level a.item a.built.now a.pen a.stored mark.mark-first.result _ _ first.put_item-marked.result _
    (test.if-not-stored.false) (ne_eqb a.level.unmarked 0 test.if-level-eq0.false) mark.mark-first.ensures
    first.put_item-marked.ensures put.put_item-2.ensures

pub put_spec : {M : Type 1} → statement M
put_spec =
    tie.close
    (tie.spec
    returns-then-not-stored
    put_item-requires
    shape_of-built-then-level-eq0
    returns-then-level-eq0
    mark-first-requires
    put_item-marked-requires
    put_item-requires-2
    shape_of-built
    returns)
