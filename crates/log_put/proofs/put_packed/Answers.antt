use Rattle.log_write.proofs.Writing.{put_long}
use lib.ListN.{length}
use mathlib.Core.Path.{ap}
use Rattle.log_put.proofs.Putting.{first_more, packed_one, packed_two}
use mathlib.Core.List.{[]}
use native.Mathlib.Omega.{arith}
use Rattle.log_write.proofs.Pen.put_in.Reads as put-in-reads
use Rattle.log_put.proofs.put_packed.Goals as goal

pub put_in-first-requires : goal.put_in-first-requires
put_in-first-requires c = let f = c.requires.1 in (omega (arith, c.requires.0), omega (arith, f.first_few), f.first_low, omega (arith, c.requires.2))

pub returns-then-item-eq0 : goal.returns-then-item-eq0
returns-then-item-eq0 c =
    packed_one c.args.item c.requires.1 _ c.args.pen c.if-item-eq0.true c.put_in-first.ensures.0 c.put_in-first.ensures.1

pub put_in-requires : goal.put_in-requires
put_in-requires c =
    let f = c.requires.1 in (
      rw (c.put_in-first.ensures.0, first_more c.args.item f [] c.args.pen) (omega (arith, f.first_few, c.requires.0)),
      omega (arith, f.behind_few),
      f.behind_low,
      rw (c.put_in-first.ensures.0, first_more c.args.item f [] c.args.pen) (omega (
        arith,
        c.requires.2,
        put_long c.args.pen c.args.item.first
            c.args.item.first_bits (omega (arith, f.first_few)) f.first_low c.args.built.now,
        ap length c.put_in-first.ensures.1,
      )),
    )

pub returns : goal.returns
returns c =
    let q = c.put_in.ensures in
    packed_two c.args.item c.requires.1 _ c.args.pen c.put_in-first.ensures.0 c.put_in-first.ensures.1 q.0 q.1
