use mathlib.Core.Path.{sym, ◌∙◌}
use borrow.Author.Rules.{rules}
use Rattle.split_items.proofs.Numbers.{all_low}
use Rattle.split_items.proofs.low_front.Statement.{statement}
use Rattle.split_items.proofs.low_front.Tie as tie

any_large-requires : tie.Need-any_large-requires
any_large-requires c κs = search rules

first_large-requires : tie.Need-first_large-requires
first_large-requires c κs = search rules

returns-then-any_large : tie.Need-returns-then-any_large
returns-then-any_large c = c.first_large.ensures

returns : tie.Need-returns
returns c = all_low c.args.words.now (sym c.any_large.ensures ∙ c.if-any_large.false)

pub low_front_spec : {M : Type 1} → statement M
low_front_spec =
    tie.close
    (tie.spec
    any_large-requires
    first_large-requires
    returns-then-any_large
    returns)
