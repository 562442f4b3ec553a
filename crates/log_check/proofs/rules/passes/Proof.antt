use mathlib.Core.Path.{refl, sym, ◌∙◌}
use borrow.Author.Rules.{rules}
use Rattle.log_check.proofs.rules.passes.Statement.{statement}
use Rattle.log_check.proofs.rules.passes.Tie as tie

same_bus-requires : tie.Need-same_bus-requires
same_bus-requires c κs = search rules

keeps-requires : tie.Need-keeps-requires
keeps-requires c κs = search rules

returns-then-same_bus : tie.Need-returns-then-same_bus
returns-then-same_bus c = rw (sym c.same_bus.ensures ∙ c.if-same_bus.true) c.keeps.ensures

returns : tie.Need-returns
returns c = rw (sym c.same_bus.ensures ∙ c.if-same_bus.false) refl

pub passes_spec : {M : Type 1} → statement M
passes_spec = tie.close (tie.spec same_bus-requires keeps-requires returns-then-same_bus returns)
