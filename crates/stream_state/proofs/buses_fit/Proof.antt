use mathlib.Core.Path.{refl, sym, ◌∙◌}
use borrow.Author.Tests.{le-leb, lt-leb}
use borrow.Author.Rules.{rules}
use Rattle.stream_state.proofs.buses_fit.Statement.{statement}
use Rattle.stream_state.proofs.buses_fit.Tie as tie
use Rattle.stream_state.proofs.buses_fit.Reads as reads
use Rattle.stream_state.proofs.buses_fit.Lts as lts
use Rattle.stream_state.proofs.parity_fits.Reads as parity-fits-reads
use Rattle.stream_state.proofs.tracks_fit.Reads as tracks-fit-reads

returns-then-plan-lt128 : tie.Need-returns-then-plan-lt128
returns-then-plan-lt128 c = rw (lt-leb _ _ c.if-plan-lt128.true)

tracks_fit-requires : tie.Need-tracks_fit-requires
tracks_fit-requires c κs = search rules

parity_fits-requires : tie.Need-parity_fits-requires
parity_fits-requires c κs = search rules

returns-then-tracks_fit : tie.Need-returns-then-tracks_fit
returns-then-tracks_fit c = let t = c.before.before in
    let e = sym t.tracks_fit.ensures ∙ c.if-tracks_fit.true in
    c.parity_fits.ensures ∙ sym (rw (le-leb _ _ t.if-plan-lt128.false, e) refl)

returns : tie.Need-returns
returns c = let t = c.before in
    let e = sym t.tracks_fit.ensures ∙ c.if-tracks_fit.false in
    sym (rw (le-leb _ _ t.if-plan-lt128.false, e) refl)

pub buses_fit_spec : {M : Type 1} → statement M
buses_fit_spec =
    tie.close (tie.spec returns-then-plan-lt128 tracks_fit-requires parity_fits-requires returns-then-tracks_fit returns)
