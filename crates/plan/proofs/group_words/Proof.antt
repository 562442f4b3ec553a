use Rattle.format.specs.Laws.Limits.{group_most}
use mathlib.Core.Path.{refl}
use native.Mathlib.Omega.{arith}
use Rattle.plan.proofs.group_words.Statement.{statement}
use Rattle.plan.proofs.group_words.Tie as tie

overflow_mul-result : tie.Need-overflow_mul-result
overflow_mul-result c = omega (arith, group_most c.args.plan c.requires)

returns : tie.Need-returns
returns c = (refl, group_most c.args.plan c.requires)

pub group_words_spec : {M : Type 1} → statement M
group_words_spec = tie.close (tie.spec overflow_mul-result returns)
