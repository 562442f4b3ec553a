use mathlib.Core.Logic.{⊎_elim}
use Rattle.data_word.proofs.Unawaited.{nothing_held, no_tag_follows}
use native.Mathlib.Omega.{arith}
use mathlib.Core.Path.{◌∙◌}
use borrow.Author.Rules.{rules}
use Rattle.data_word.proofs.feed.Statement.{statement}
use Rattle.data_word.proofs.feed.Tie as tie

overflow_mul-bus : tie.Need-overflow_mul-bus
overflow_mul-bus c = search rules

overflow_add-bus : tie.Need-overflow_add-bus
overflow_add-bus c = search rules

goes_on-requires : tie.Need-goes_on-requires
goes_on-requires c κs = search rules

returns-then-awaits-bus : tie.Need-returns-then-awaits-bus
returns-then-awaits-bus c = c.goes_on.ensures _

answers-requires : tie.Need-answers-requires
answers-requires c κs = search rules

returns-then-awaits-ne7 : tie.Need-returns-then-awaits-ne7
returns-then-awaits-ne7 c = c.answers.ensures _

base_width-width-requires : tie.Need-base_width-width-requires
base_width-width-requires c κs = search rules

bounds-kinds-bus : tie.Need-bounds-kinds-bus
bounds-kinds-bus c = search rules

starts-requires : tie.Need-starts-requires
starts-requires c κs = search rules

returns : tie.Need-returns
returns c =
    c.starts.ensures
    ∙ ⊎_elim
    (λ w. rw (w.width-is, w.base_width-width.ensures) (no_tag_follows _ _ _ _ (omega arith) (omega arith) _ c.requires.1 w.if-awaits-ne7.false w.if-awaits-bus.false))
    (λ w. rw w.width-is (nothing_held _ _ _ _ (omega arith) (omega arith) _ c.requires.1 w.if-awaits-ne0.false))
    c.if-awaits-ne0.branch-raw

pub feed_spec : {M : Type 1} → statement M
feed_spec =
    tie.close
    (tie.spec
    overflow_mul-bus
    overflow_add-bus
    goes_on-requires
    returns-then-awaits-bus
    answers-requires
    returns-then-awaits-ne7
    base_width-width-requires
    bounds-kinds-bus
    starts-requires
    returns)
