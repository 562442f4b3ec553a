use borrow.Author.Tests.{eq-eqb, ne_eqb, lt-ltb, le-ltb, le-leb, lt-leb}
use borrow.Author.Rules.{rules}
use Rattle.stream_state.proofs.wait_fits.Statement.{statement}
use Rattle.stream_state.proofs.wait_fits.Tie as tie
use Rattle.stream_state.proofs.wait_fits.Reads as reads
use Rattle.stream_state.proofs.wait_fits.Lts as lts
use Rattle.stream_state.proofs.is_arinc.Reads as is-arinc-reads

returns-then-number-eq0 : tie.Need-returns-then-number-eq0
returns-then-number-eq0 c = simp (eq-eqb _ _ c.if-number-eq0.true)

returns-then-end-number : tie.Need-returns-then-end-number
returns-then-end-number c = simp (ne_eqb _ _ c.if-number-eq0.false, le-ltb _ _ c.if-end-number.true)

returns-then-number-lead : tie.Need-returns-then-number-lead
returns-then-number-lead c = simp (ne_eqb _ _ c.if-number-eq0.false, lt-ltb _ _ c.if-end-number.false, le-ltb _ _ c.if-number-lead.true)

returns-then-last-number : tie.Need-returns-then-last-number
returns-then-last-number c = simp (ne_eqb _ _ c.if-number-eq0.false, lt-ltb _ _ c.if-end-number.false, lt-ltb _ _ c.if-number-lead.false, lt-leb _ _ c.if-last-number.true)

is_arinc-requires : tie.Need-is_arinc-requires
is_arinc-requires c κs = search rules

returns : tie.Need-returns
returns c = let t = c.before.before in
    simp (ne_eqb _ _ t.if-number-eq0.false, lt-ltb _ _ t.if-end-number.false, lt-ltb _ _ t.if-number-lead.false, le-leb _ _ c.if-last-number.false) c.is_arinc.ensures

pub wait_fits_spec : {M : Type 1} → statement M
wait_fits_spec =
    tie.close (tie.spec returns-then-number-eq0 returns-then-end-number returns-then-number-lead returns-then-last-number is_arinc-requires returns)
