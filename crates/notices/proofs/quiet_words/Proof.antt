use mathlib.Core.Path.{sym, ◌∙◌}
use Rattle.notices.specs.Laws.Marks.{any_some}
use Rattle.notices.specs.Laws.Quiet.{quiet_all}
use borrow.Author.Rules.{rules}
use Rattle.notices.proofs.quiet_words.Statement.{statement}
use Rattle.notices.proofs.quiet_words.Tie as tie
use Rattle.notices.proofs.quiet_words.Reads as reads
use Rattle.notices.proofs.quiet_words.Lts as lts
use Rattle.notices.proofs.any_notice.Reads as any-notice-reads
use Rattle.notices.proofs.quiet_noticed.Reads as quiet-noticed-reads

any_notice-requires : tie.Need-any_notice-requires
any_notice-requires c κs = search rules

quiet_noticed-requires : tie.Need-quiet_noticed-requires
quiet_noticed-requires c κs =
    let s = c.before.before.before.before in
    (s.requires.0, any_some s.args.row.now (sym c.any_notice.ensures ∙ c.if-any_notice.true), s.requires.1)

returns-then-any_notice : tie.Need-returns-then-any_notice
returns-then-any_notice c = rw c.if-clear.true c.quiet_noticed.ensures

returns-then-clear : tie.Need-returns-then-clear
returns-then-clear c =
    let s = c.before.before.before.before in
    rw c.if-clear.true
    (sym (quiet_all s.args.kinds s.args.parity s.args.row.now (sym c.any_notice.ensures ∙ c.if-any_notice.false)))

returns : tie.Need-returns
returns c = rw c.if-clear.false

pub quiet_words_spec : {M : Type 1} → statement M
quiet_words_spec = tie.close (tie.spec any_notice-requires quiet_noticed-requires returns-then-any_notice returns-then-clear returns)
