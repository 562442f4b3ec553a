use mathlib.Core.Path.{◌∙◌}
use Rattle.data_start.proofs.Begun.{late_response_starts_nothing}
use borrow.Author.Rules.{rules}
use Rattle.data_start.proofs.starts_response.Statement.{statement}
use Rattle.data_start.proofs.starts_response.Tie as tie

refused-requires : tie.Need-refused-requires
refused-requires c κs = search rules

returns-then-information-ge10000 : tie.Need-returns-then-information-ge10000
returns-then-information-ge10000 c = c.refused.ensures ∙ late_response_starts_nothing _ _ _ _ _ c.if-information-ge10000.true

response-requires : tie.Need-response-requires
response-requires c κs = search rules

returns : tie.Need-returns
returns c = c.response.ensures _

pub starts_response_spec : {M : Type 1} → statement M
starts_response_spec = tie.close (tie.spec refused-requires returns-then-information-ge10000 response-requires returns)
