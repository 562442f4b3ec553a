use mathlib.Core.Path.{sym, ◌∙◌}
use Rattle.notices.specs.Laws.Rows.{clear_earliest}
use borrow.Author.Rules.{rules}
use Rattle.notices.proofs.at_end.Statement.{statement}
use Rattle.notices.proofs.at_end.Tie as tie
use Rattle.notices.proofs.at_end.Reads as reads
use Rattle.notices.proofs.at_end.Lts as lts
use Rattle.notices.proofs.least_of.Reads as least-of-reads

returns-then-clear : tie.Need-returns-then-clear
returns-then-clear c = let s = c.before.before in sym (clear_earliest s.args.found s.args.table.now (sym s.requires.1 ∙ c.if-clear.true))

least_of-requires : tie.Need-least_of-requires
least_of-requires c κs = search rules

returns : tie.Need-returns
returns c = c.least_of.ensures

pub at_end_spec : {M : Type 1} → statement M
at_end_spec = tie.close (tie.spec returns-then-clear least_of-requires returns)
