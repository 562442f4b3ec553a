use native.Mathlib.Omega.{arith}
use mathlib.Core.Path.{ap, sym}
use lib.ListN.{length}
use Rattle.log_text.proofs.Adding.{adds_room, adds_same, adds_then}
use Rattle.log_text.proofs.Digits.{decimal_one, decimal_more, decimal_long}
use Rattle.log_text.proofs.+number.Goals as goal

pub put-requires : goal.put-requires
put-requires t c = omega (arith, ap length (decimal_one c.args.n (omega arith)))

pub returns-then-n-lt10 : goal.returns-then-n-lt10
returns-then-n-lt10 t c = adds_same c.put.ensures (sym (decimal_one c.args.n (omega arith)))

pub number-next-requires : goal.number-next-requires
number-next-requires t c = (omega arith, omega (arith, decimal_long c.args.n (omega arith) (omega arith)))

pub put-requires-2 : goal.put-requires-2
put-requires-2 t c = omega (arith, adds_room c.number-next.ensures 1 (omega (arith, decimal_long c.args.n (omega arith) (omega arith))))

pub returns : goal.returns
returns t c =
    adds_same (adds_then c.number-next.ensures c.put-2.ensures)
    (sym (decimal_more c.args.n (omega arith) (omega arith)))
