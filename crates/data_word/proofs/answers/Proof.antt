use Rattle.data_word.proofs.Unawaited.{unawaited_word_is_bad, another_label_is_no_answer, below_eight_is_no_status, other_label_is_no_status, status_answers}
use native.Mathlib.Omega.{arith}
use mathlib.Core.Path.{◌∙◌}
use borrow.Author.Rules.{rules}
use Rattle.data_word.proofs.answers.Statement.{statement}
use Rattle.data_word.proofs.answers.Tie as tie

overflow_mul-bus : tie.Need-overflow_mul-bus
overflow_mul-bus c = search rules

overflow_add-bus : tie.Need-overflow_add-bus
overflow_add-bus c = search rules

refused-requires : tie.Need-refused-requires
refused-requires c κs = search rules

returns-then-awaits-bus : tie.Need-returns-then-awaits-bus
returns-then-awaits-bus c = λ kinds. c.refused.ensures ∙ unawaited_word_is_bad kinds _ _ _ (omega arith) (omega arith) _ c.requires.1.0 c.if-awaits-bus.true c.requires.1.1 c.requires.1.2 c.requires.1.3

refused-requires-then-label-lt8 : tie.Need-refused-requires-then-label-lt8
refused-requires-then-label-lt8 c κs = search rules

returns-then-label-lt8 : tie.Need-returns-then-label-lt8
returns-then-label-lt8 c = λ kinds. c.refused-then-label-lt8.ensures ∙ another_label_is_no_answer kinds _ _ _ (omega arith) (omega arith) _ c.requires.1.0 c.if-awaits-bus.false (below_eight_is_no_status _ c.if-label-lt8.true)

refused-requires-then-label-ne2 : tie.Need-refused-requires-then-label-ne2
refused-requires-then-label-ne2 c κs = search rules

returns-then-label-ne2 : tie.Need-returns-then-label-ne2
returns-then-label-ne2 c = λ kinds. c.refused-then-label-ne2.ensures ∙ another_label_is_no_answer kinds _ _ _ (omega arith) (omega arith) _ c.requires.1.0 c.if-awaits-bus.false (other_label_is_no_status _ c.if-label-lt8.false (omega arith) c.if-label-ne2.true)

overflow_add-bits : tie.Need-overflow_add-bits
overflow_add-bits c = search rules

overflow_mul-bits : tie.Need-overflow_mul-bits
overflow_mul-bits c = search rules

overflow_sub-bits : tie.Need-overflow_sub-bits
overflow_sub-bits c = search rules

overflow_add-bits-2 : tie.Need-overflow_add-bits-2
overflow_add-bits-2 c = search rules

overflow_mul-bits-2 : tie.Need-overflow_mul-bits-2
overflow_mul-bits-2 c = search rules

overflow_add-bits-3 : tie.Need-overflow_add-bits-3
overflow_add-bits-3 c = search rules

overflow_add-bits-4 : tie.Need-overflow_add-bits-4
overflow_add-bits-4 c = search rules

overflow_cast-bits : tie.Need-overflow_cast-bits
overflow_cast-bits c = search rules

overflow_cast-time : tie.Need-overflow_cast-time
overflow_cast-time c = search rules

ends-requires : tie.Need-ends-requires
ends-requires c κs = search rules

returns : tie.Need-returns
returns c = λ kinds. c.ends.ensures ∙ status_answers kinds _ _ _ (omega arith) (omega arith) _ c.requires.1.0 c.if-awaits-bus.false c.if-label-lt8.false c.if-label-ne2.false

pub answers_spec : {M : Type 1} → statement M
answers_spec =
    tie.close
    (tie.spec
    overflow_mul-bus
    overflow_add-bus
    refused-requires
    returns-then-awaits-bus
    refused-requires-then-label-lt8
    returns-then-label-lt8
    refused-requires-then-label-ne2
    returns-then-label-ne2
    overflow_add-bits
    overflow_mul-bits
    overflow_sub-bits
    overflow_add-bits-2
    overflow_mul-bits-2
    overflow_add-bits-3
    overflow_add-bits-4
    overflow_cast-bits
    overflow_cast-time
    ends-requires
    returns)
