use borrow.Author.Tests.{eq-eqb, ne_eqb}
use borrow.Author.Rules.{rules}
use Rattle.stream_state.proofs.parity_fits.Statement.{statement}
use Rattle.stream_state.proofs.parity_fits.Tie as tie
use Rattle.stream_state.proofs.parity_fits.Reads as reads
use Rattle.stream_state.proofs.parity_fits.Lts as lts

returns-then-above-eq0 : tie.Need-returns-then-above-eq0
returns-then-above-eq0 c = rw (c.if-parity.true, eq-eqb _ _ c.if-above-eq0.true)

returns-then-parity : tie.Need-returns-then-parity
returns-then-parity c = rw (c.if-parity.true, ne_eqb _ _ c.if-above-eq0.false)

returns : tie.Need-returns
returns c = rw c.if-parity.false

pub parity_fits_spec : {M : Type 1} → statement M
parity_fits_spec = tie.close (tie.spec returns-then-above-eq0 returns-then-parity returns)
