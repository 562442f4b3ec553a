use native.Mathlib.Omega.{arith}
use Rattle.data_items.proofs.Taking.{both_fits, both_small, both_whole}
use borrow.Author.Rules.{rules}
use Rattle.data_items.proofs.put_two.Statement.{statement}
use Rattle.data_items.proofs.put_two.Tie as tie

abbrev before-put_in : tie.After-put_in → tie.Start
before-put_in c = c.before.before.before.before.before.before.before.before

overflow_cast-both : tie.Need-overflow_cast-both
overflow_cast-both c = search rules

overflow_shl-both : tie.Need-overflow_shl-both
overflow_shl-both c = omega (arith, c.requires.2.short)

overflow_add-both : tie.Need-overflow_add-both
overflow_add-both c = omega (
  arith,
  both_whole c.args.one c.args.two
      c.requires.1 c.requires.2,
  both_small c.args.one
      c.args.two c.requires.1 c.requires.2,
)

overflow_add-one : tie.Need-overflow_add-one
overflow_add-one c = omega (
  arith,
  c.requires.1.short,
  c.requires.2.short,
)

put_in-requires : tie.Need-put_in-requires
put_in-requires c κs = (
  omega (arith, c.requires.0),
  omega
      (arith, c.requires.1.short, c.requires.2.short),
  rw
      (both_whole c.args.one c.args.two
      c.requires.1 c.requires.2)
      (both_fits c.args.one c.args.two
      c.requires.1 c.requires.2),
  c.requires.3,
)

shape_of-out : tie.Need-shape_of-out
shape_of-out c = search rules

returns : tie.Need-returns
returns c = rw (both_whole (before-put_in c.before.before).args.one (before-put_in c.before.before).args.two
    (before-put_in c.before.before).requires.1 (before-put_in c.before.before).requires.2) at c.put_in.ensures

pub put_two_spec : {M : Type 1} → statement M
put_two_spec =
    tie.close (tie.spec overflow_cast-both overflow_shl-both overflow_add-both overflow_add-one put_in-requires shape_of-out returns)
