use Rattle.log_read.proofs.Eight.{eight_num}
use Rattle.format.specs.Bits.{bits_of}
use mathlib.Core.Path.{ap, ◌∙◌}
use native.Mathlib.Omega.{arith}
use borrow.Author.Rules.{rules}
use Rattle.log_read.proofs.bits.join.Statement.{statement}
use Rattle.log_read.proofs.bits.join.Tie as tie

four-requires : tie.Need-four-requires
four-requires c κs = search rules

overflow_mul-result : tie.Need-overflow_mul-result
overflow_mul-result c = search rules

four-requires-2 : tie.Need-four-requires-2
four-requires-2 c κs = search rules

overflow_add-result : tie.Need-overflow_add-result
overflow_add-result c = search rules

returns : tie.Need-returns
returns c =
    eight_num c.args.a c.args.b c.args.c c.args.d c.args.e c.args.f c.args.g c.args.h (omega arith)
    ∙ ap (bits_of 64) (omega (arith, c.four.ensures.0, c.four-2.ensures.0))

pub join_spec : {M : Type 1} → statement M
join_spec = tie.close (tie.spec four-requires overflow_mul-result four-requires-2 overflow_add-result returns)
