use mathlib.Core.Path.{refl, ◌∙◌}
use native.Mathlib.Omega.{arith}
use Rattle.data_start.specs.Opening.{opens}
use Rattle.data_start.proofs.Openers.{on_1553_command, on_1553_status, on_1553_word}
use borrow.Author.Rules.{rules}
use Rattle.data_start.proofs.opens_on_1553.Statement.{statement}
use Rattle.data_start.proofs.opens_on_1553.Tie as tie

returns-then-label-eq4 : tie.Need-returns-then-label-eq4
unfolding opens
returns-then-label-eq4 c = rw c.if-label-eq4.true refl

opens_on_either-requires : tie.Need-opens_on_either-requires
opens_on_either-requires c κs = search rules

returns-then-label-lt8 : tie.Need-returns-then-label-lt8
returns-then-label-lt8 c = c.opens_on_either.ensures.0

overflow_sub-down : tie.Need-overflow_sub-down
overflow_sub-down c = search rules

overflow_mul-down : tie.Need-overflow_mul-down
overflow_mul-down c = search rules

one_word-requires : tie.Need-one_word-requires
one_word-requires c κs = search rules

overflow_add-down : tie.Need-overflow_add-down
overflow_add-down c = search rules

one_word-requires-in_default : tie.Need-one_word-requires-in_default
one_word-requires-in_default c κs = search rules

returns-in-0 : tie.Need-returns-in-0
returns-in-0 c = on_1553_command _ (omega (arith, c.if-label-lt8.false)) c.requires c.in-0.is

returns-in-1 : tie.Need-returns-in-1
returns-in-1 c = c.one_word.ensures ∙ on_1553_status _ (omega (arith, c.if-label-lt8.false)) c.requires c.in-1.is

returns-in_default : tie.Need-returns-in_default
returns-in_default c = c.one_word-in_default.ensures ∙ on_1553_word _ (omega (arith, c.if-label-lt8.false)) c.requires c.in_default.in_default-own.rest.0.1 c.in_default.in_default-own.rest.1

pub opens_on_1553_spec : {M : Type 1} → statement M
opens_on_1553_spec =
    tie.close
    (tie.spec
    returns-then-label-eq4
    opens_on_either-requires
    returns-then-label-lt8
    overflow_sub-down
    overflow_mul-down
    one_word-requires
    overflow_add-down
    one_word-requires-in_default
    returns-in-0
    returns-in-1
    returns-in_default)
