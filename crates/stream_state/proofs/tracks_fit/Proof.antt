use borrow.Author.Tests.{eq-eqb, ne_eqb, le-leb, lt-leb}
use borrow.Author.Rules.{rules}
use Rattle.stream_state.proofs.tracks_fit.Statement.{statement}
use Rattle.stream_state.proofs.tracks_fit.Tie as tie
use Rattle.stream_state.proofs.tracks_fit.Reads as reads
use Rattle.stream_state.proofs.tracks_fit.Lts as lts

returns-then-tracks-lt1 : tie.Need-returns-then-tracks-lt1
returns-then-tracks-lt1 c = rw (lt-leb _ _ c.if-tracks-lt1.true)

returns-then-tracks-eq1 : tie.Need-returns-then-tracks-eq1
returns-then-tracks-eq1 c = rw (le-leb _ _ c.if-tracks-lt1.false, eq-eqb _ _ c.if-tracks-eq1.true)

returns : tie.Need-returns
returns c = rw (le-leb _ _ c.if-tracks-lt1.false, ne_eqb _ _ c.if-tracks-eq1.false)

pub tracks_fit_spec : {M : Type 1} → statement M
tracks_fit_spec = tie.close (tie.spec returns-then-tracks-lt1 returns-then-tracks-eq1 returns)
