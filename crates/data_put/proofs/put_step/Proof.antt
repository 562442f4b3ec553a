use native.Mathlib.Omega.{arith}
use mathlib.Core.Path.{ap}
use Rattle.log_write.specs.Pen.{pen_put}
use Rattle.log_write.specs.declared.Pen.{Pen}
use borrow.Author.Rules.{rules}
use Rattle.data_put.proofs.put_step.Statement.{statement}
use Rattle.data_put.proofs.put_step.Tie as tie

put-half-requires : tie.Need-put-half-requires
put-half-requires c κs = search rules

put-requires : tie.Need-put-requires
unfolding pen_put
put-requires c κs = let s = c.requires.1 in (
  omega (
    arith,
    ap (λ (x : Pen). x.bits) c.put-half.ensures.0,
    c.requires.0,
    s.first_short,
    s.second_short,
  ),
  omega (arith, s.first_short, s.second_short),
  omega (arith, s.first_fits, s.second_fits),
)

shape_of-out : tie.Need-shape_of-out
shape_of-out c = search rules

returns : tie.Need-returns
returns c = (
  rw (← c.put-half.ensures.0) c.put.ensures.0,
  rw
      (← c.put-half.ensures.0, ← c.put-half.ensures.1)
      c.put.ensures.1,
)

pub put_step_spec : {M : Type 1} → statement M
put_step_spec = tie.close (tie.spec put-half-requires put-requires shape_of-out returns)
