use mathlib.Core.Path.{sym, ◌∙◌}
use borrow.Author.Rules.{rules}
use Rattle.group_read.proofs.Frame.{is_even, is_odd_lem}
use Rattle.group_read.proofs.even_place.Statement.{statement}
use Rattle.group_read.proofs.even_place.Tie as tie

parity_number-requires : tie.Need-parity_number-requires
parity_number-requires c κs = search rules

overflow_add-result : tie.Need-overflow_add-result
overflow_add-result c = search rules

returns-then-parity_number-eq0 : tie.Need-returns-then-parity_number-eq0
returns-then-parity_number-eq0 c = is_odd_lem c.args.parity c.args.one c.args.place (sym c.parity_number.ensures ∙ c.if-parity_number-eq0.true)

returns-else-parity_number-eq0 : tie.Need-returns-else-parity_number-eq0
returns-else-parity_number-eq0 c = is_even c.args.parity c.args.one c.args.place (λ z. c.if-parity_number-eq0.false (c.parity_number.ensures ∙ z))

pub even_place_spec : {M : Type 1} → statement M
even_place_spec = tie.close (tie.spec parity_number-requires overflow_add-result returns-then-parity_number-eq0 returns-else-parity_number-eq0)
