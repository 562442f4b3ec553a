use Rattle.data_start.proofs.Openers.{row_is}
use borrow.Author.Rules.{rules}
use Rattle.data_start.proofs.row.Statement.{statement}
use Rattle.data_start.proofs.row.Tie as tie

opens-requires : tie.Need-opens-requires
opens-requires c κs = search rules

opens-requires-2 : tie.Need-opens-requires-2
opens-requires-2 c κs = search rules

opens-requires-3 : tie.Need-opens-requires-3
opens-requires-3 c κs = search rules

opens-requires-4 : tie.Need-opens-requires-4
opens-requires-4 c κs = search rules

opens-requires-5 : tie.Need-opens-requires-5
opens-requires-5 c κs = search rules

opens-requires-6 : tie.Need-opens-requires-6
opens-requires-6 c κs = search rules

opens-requires-7 : tie.Need-opens-requires-7
opens-requires-7 c κs = search rules

opens-requires-8 : tie.Need-opens-requires-8
opens-requires-8 c κs = search rules

opens-requires-9 : tie.Need-opens-requires-9
opens-requires-9 c κs = search rules

opens-requires-10 : tie.Need-opens-requires-10
opens-requires-10 c κs = search rules

opens-requires-11 : tie.Need-opens-requires-11
opens-requires-11 c κs = search rules

opens-requires-12 : tie.Need-opens-requires-12
opens-requires-12 c κs = search rules

opens-requires-13 : tie.Need-opens-requires-13
opens-requires-13 c κs = search rules

opens-requires-14 : tie.Need-opens-requires-14
opens-requires-14 c κs = search rules

opens-requires-15 : tie.Need-opens-requires-15
opens-requires-15 c κs = search rules

opens-requires-16 : tie.Need-opens-requires-16
opens-requires-16 c κs = search rules

returns : tie.Need-returns
returns c =
    rw (
      c.opens.ensures,
      c.opens-2.ensures,
      c.opens-3.ensures,
      c.opens-4.ensures,
      c.opens-5.ensures,
      c.opens-6.ensures,
      c.opens-7.ensures,
      c.opens-8.ensures,
      c.opens-9.ensures,
      c.opens-10.ensures,
      c.opens-11.ensures,
      c.opens-12.ensures,
      c.opens-13.ensures,
      c.opens-14.ensures,
      c.opens-15.ensures,
      c.opens-16.ensures,
    )
    (row_is c.args.kind)

pub row_spec : {M : Type 1} → statement M
row_spec =
    tie.close
    (tie.spec
    opens-requires
    opens-requires-2
    opens-requires-3
    opens-requires-4
    opens-requires-5
    opens-requires-6
    opens-requires-7
    opens-requires-8
    opens-requires-9
    opens-requires-10
    opens-requires-11
    opens-requires-12
    opens-requires-13
    opens-requires-14
    opens-requires-15
    opens-requires-16
    returns)
