use mathlib.Core.Path.{sym, ◌∙◌}
use Rattle.notices.specs.Laws.Marks.{look_quiet}
use borrow.Author.Rules.{rules}
use Rattle.notices.proofs.quiet_noticed.Statement.{statement}
use Rattle.notices.proofs.quiet_noticed.Tie as tie
use Rattle.notices.proofs.quiet_noticed.Reads as reads
use Rattle.notices.proofs.quiet_noticed.Lts as lts
use Rattle.notices.proofs.any_unanswered.Reads as any-unanswered-reads
use Rattle.notices.proofs.quiet_part.Reads as quiet-part-reads

any_unanswered-requires : tie.Need-any_unanswered-requires
any_unanswered-requires c κs = search rules

quiet_part-requires : tie.Need-quiet_part-requires
quiet_part-requires c κs = search rules

returns-then-any_unanswered : tie.Need-returns-then-any_unanswered
returns-then-any_unanswered c = search rules

returns : tie.Need-returns
returns c =
    let s = c.before.before.before in
    sym (look_quiet s.args.kinds s.args.parity s.args.row.now s.requires.0 (sym c.any_unanswered.ensures ∙ c.if-any_unanswered.false))

pub quiet_noticed_spec : {M : Type 1} → statement M
quiet_noticed_spec = tie.close (tie.spec any_unanswered-requires quiet_part-requires returns-then-any_unanswered returns)
