use Rattle.data_word.proofs.Ending.{nothing_is_left, untagged_is_finished, unfinished_is_cut}
use mathlib.Core.Path.{◌∙◌}
use borrow.Author.Rules.{rules}
use Rattle.data_word.proofs.finish.Statement.{statement}
use Rattle.data_word.proofs.finish.Tie as tie

ends-requires : tie.Need-ends-requires
ends-requires c κs = search rules

returns-then-awaits-eq0 : tie.Need-returns-then-awaits-eq0
returns-then-awaits-eq0 c = λ place. c.ends.ensures ∙ nothing_is_left place _ c.requires c.if-awaits-eq0.true

base_width-requires : tie.Need-base_width-requires
base_width-requires c κs = search rules

ends-requires-then-awaits-eq7 : tie.Need-ends-requires-then-awaits-eq7
ends-requires-then-awaits-eq7 c κs = search rules

returns-then-awaits-eq7 : tie.Need-returns-then-awaits-eq7
returns-then-awaits-eq7 c = λ place. c.ends-then-awaits-eq7.ensures ∙ rw c.base_width.ensures (untagged_is_finished place _ c.requires c.if-awaits-eq7.true)

refused-requires : tie.Need-refused-requires
refused-requires c κs = search rules

returns : tie.Need-returns
returns c = λ place. c.refused.ensures ∙ unfinished_is_cut place _ c.requires c.if-awaits-eq0.false c.if-awaits-eq7.false

pub finish_spec : {M : Type 1} → statement M
finish_spec =
    tie.close
    (tie.spec
    ends-requires
    returns-then-awaits-eq0
    base_width-requires
    ends-requires-then-awaits-eq7
    returns-then-awaits-eq7
    refused-requires
    returns)
