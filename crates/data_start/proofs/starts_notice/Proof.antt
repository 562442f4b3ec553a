use mathlib.Core.Path.{sym, ◌∙◌}
use Rattle.data_start.proofs.Begun.{no_pair_starts_nothing}
use borrow.Author.Rules.{rules}
use Rattle.data_start.proofs.starts_notice.Statement.{statement}
use Rattle.data_start.proofs.starts_notice.Tie as tie

is_pair-requires : tie.Need-is_pair-requires
is_pair-requires c κs = search rules

notice-requires : tie.Need-notice-requires
notice-requires c κs = (c.requires.0, c.requires.1, sym c.is_pair.ensures ∙ c.if-is_pair.true)

returns-then-is_pair : tie.Need-returns-then-is_pair
returns-then-is_pair c = c.notice.ensures _

refused-requires : tie.Need-refused-requires
refused-requires c κs = search rules

returns : tie.Need-returns
returns c = c.refused.ensures ∙ no_pair_starts_nothing _ _ _ _ _ (sym c.is_pair.ensures ∙ c.if-is_pair.false)

pub starts_notice_spec : {M : Type 1} → statement M
starts_notice_spec =
    tie.close (tie.spec is_pair-requires notice-requires returns-then-is_pair refused-requires returns)
