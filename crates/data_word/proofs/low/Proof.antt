use mathlib.Core.Path.{◌∙◌}
use native.Mathlib.Omega.{arith}
use Rattle.data_word.proofs.Flat.{base_small}
use Rattle.data_word.proofs.Going.{half_goes_on}
use borrow.Author.Rules.{rules}
use Rattle.data_word.proofs.low.Statement.{statement}
use Rattle.data_word.proofs.low.Tie as tie

overflow_mul-bits : tie.Need-overflow_mul-bits
overflow_mul-bits c = omega (arith, base_small _ c.requires.1.0)

overflow_add-bits : tie.Need-overflow_add-bits
overflow_add-bits c = omega (arith, base_small _ c.requires.1.0)

overflow_mul-bus : tie.Need-overflow_mul-bus
overflow_mul-bus c = search rules

overflow_add-bus : tie.Need-overflow_add-bus
overflow_add-bus c = search rules

holds-requires : tie.Need-holds-requires
holds-requires c κs = search rules

returns : tie.Need-returns
returns c = λ kinds. c.holds.ensures ∙ half_goes_on kinds _ _ _ (omega arith) (omega arith) _ c.requires.1.0 c.requires.0.1 c.requires.1.1

pub low_spec : {M : Type 1} → statement M
low_spec = tie.close (tie.spec overflow_mul-bits overflow_add-bits overflow_mul-bus overflow_add-bus holds-requires returns)
