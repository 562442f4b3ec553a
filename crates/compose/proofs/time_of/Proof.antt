use lib.ListN.{get_or-eq_default}
use mathlib.Core.Path.{sym}
use borrow.Author.Rules.{rules}
use Rattle.compose.proofs.time_of.Statement.{statement}
use Rattle.compose.proofs.time_of.Tie as tie

offset_bounds-times-group : tie.Need-offset_bounds-times-group
offset_bounds-times-group c = search rules

bounds-times-group : tie.Need-bounds-times-group
bounds-times-group c = search rules

returns-then-group-times : tie.Need-returns-then-group-times
returns-then-group-times c = search rules

returns-else-group-times : tie.Need-returns-else-group-times
returns-else-group-times c = sym (get_or-eq_default c.args.times.now 0 c.if-group-times.false)

pub time_of_spec : {M : Type 1} → statement M
time_of_spec = tie.close (tie.spec offset_bounds-times-group bounds-times-group returns-then-group-times returns-else-group-times)
