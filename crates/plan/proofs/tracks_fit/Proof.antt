use borrow.Author.Tests.{eq-eqb, ne_eqb}
use borrow.Author.Rules.{rules}
use Rattle.plan.proofs.tracks_fit.Statement.{statement}
use Rattle.plan.proofs.tracks_fit.Tie as tie

returns-then-tracks-eq1 : tie.Need-returns-then-tracks-eq1
returns-then-tracks-eq1 c = rw (eq-eqb _ _ c.if-tracks-eq1.true)

used_buses-requires : tie.Need-used_buses-requires
used_buses-requires c κs = search rules

returns : tie.Need-returns
returns c = rw (ne_eqb _ _ c.if-tracks-eq1.false, c.used_buses.ensures)

pub tracks_fit_spec : {M : Type 1} → statement M
tracks_fit_spec = tie.close (tie.spec returns-then-tracks-eq1 used_buses-requires returns)
