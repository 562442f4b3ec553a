use Rattle.data_start.proofs.Begun.{response_is_held}
use mathlib.Core.Path.{◌∙◌}
use borrow.Author.Rules.{rules}
use Rattle.data_start.proofs.response.Statement.{statement}
use Rattle.data_start.proofs.response.Tie as tie

overflow_mul-bus : tie.Need-overflow_mul-bus
overflow_mul-bus c = search rules

overflow_add-bus : tie.Need-overflow_add-bus
overflow_add-bus c = search rules

holds-requires : tie.Need-holds-requires
holds-requires c κs = search rules

returns : tie.Need-returns
returns c = λ held. c.holds.ensures ∙ response_is_held held _ _ _ _ c.requires.1

pub response_spec : {M : Type 1} → statement M
response_spec = tie.close (tie.spec overflow_mul-bus overflow_add-bus holds-requires returns)
