use mathlib.Core.Path.{◌∙◌}
use native.Mathlib.Omega.{arith}
use Rattle.data_start.proofs.Begun.{command_is_held}
use borrow.Author.Rules.{rules}
use Rattle.data_start.proofs.command.Statement.{statement}
use Rattle.data_start.proofs.command.Tie as tie

overflow_add-bits : tie.Need-overflow_add-bits
overflow_add-bits c = search rules

overflow_mul-bits : tie.Need-overflow_mul-bits
overflow_mul-bits c = search rules

overflow_sub-bits : tie.Need-overflow_sub-bits
overflow_sub-bits c = search rules

overflow_add-bits-2 : tie.Need-overflow_add-bits-2
overflow_add-bits-2 c = search rules

overflow_mul-bits-2 : tie.Need-overflow_mul-bits-2
overflow_mul-bits-2 c = search rules

overflow_add-bits-3 : tie.Need-overflow_add-bits-3
overflow_add-bits-3 c = search rules

overflow_cast-bits : tie.Need-overflow_cast-bits
overflow_cast-bits c = search rules

overflow_mul-bus : tie.Need-overflow_mul-bus
overflow_mul-bus c = search rules

overflow_add-bus : tie.Need-overflow_add-bus
overflow_add-bus c = search rules

holds-requires : tie.Need-holds-requires
holds-requires c κs = search rules

returns : tie.Need-returns
returns c = λ held. c.holds.ensures ∙ command_is_held held _ _ _ _ _ c.requires.1 (omega arith) c.requires.3

pub command_spec : {M : Type 1} → statement M
command_spec =
    tie.close
    (tie.spec
    overflow_add-bits
    overflow_mul-bits
    overflow_sub-bits
    overflow_add-bits-2
    overflow_mul-bits-2
    overflow_add-bits-3
    overflow_cast-bits
    overflow_mul-bus
    overflow_add-bus
    holds-requires
    returns)
