use borrow.Author.Rules.{rules}
use Rattle.crc.proofs.Sums.{summed_true, summed_false}
use Rattle.group_write.specs.Writing.{sent_rows}
use Rattle.group_write.proofs.put_rows.Statement.{statement}
use Rattle.group_write.proofs.put_rows.Tie as tie

-- without CRC, the function's entry
abbrev entry : tie.Else-plan → tie.Start
entry c = c.before.before.before

put_summed-requires : tie.Need-put_summed-requires
put_summed-requires c κs = c.requires

shape_of-out-then-plan : tie.Need-shape_of-out-then-plan
shape_of-out-then-plan c = search rules

returns-then-plan : tie.Need-returns-then-plan
returns-then-plan c = (summed_true c.if-plan.true c.put_summed.ensures.0, c.put_summed.ensures.1)

put_plain-requires : tie.Need-put_plain-requires
put_plain-requires c κs = (c.requires.0, c.requires.1)

shape_of-out : tie.Need-shape_of-out
shape_of-out c = search rules

returns : tie.Need-returns
returns c =
    let s = entry c.before.before.before.before in
    (summed_false (sent_rows s.args.plan s.args.words.now s.args.first s.args.rows) c.if-plan.false s.requires.2, c.put_plain.ensures)

pub put_rows_spec : {M : Type 1} → statement M
put_rows_spec =
    tie.close
    (tie.spec put_summed-requires shape_of-out-then-plan returns-then-plan put_plain-requires shape_of-out returns)
