use mathlib.Core.Path.{refl}
use Rattle.stream_state.proofs.Sizes.{shifted}
use borrow.Author.Tests.{le-ltb, lt-ltb}
use borrow.Author.Tests.{eq-eqb, ne_eqb, lt-ltb, le-ltb, le-leb, lt-leb}
use borrow.Author.Rules.{rules}
use Rattle.stream_state.proofs.bits_fit.Statement.{statement}
use Rattle.stream_state.proofs.bits_fit.Tie as tie
use Rattle.stream_state.proofs.bits_fit.Reads as reads
use Rattle.stream_state.proofs.bits_fit.Lts as lts

returns-then-left-ge8 : tie.Need-returns-then-left-ge8
returns-then-left-ge8 c = simp (le-ltb _ _ c.if-left-ge8.true)

overflow_shl-result : tie.Need-overflow_shl-result
overflow_shl-result c = search rules

returns : tie.Need-returns
returns c = simp (lt-ltb _ _ c.if-left-ge8.false) (rw (shifted c.args.left c.if-left-ge8.false) refl)

pub bits_fit_spec : {M : Type 1} → statement M
bits_fit_spec = tie.close (tie.spec returns-then-left-ge8 overflow_shl-result returns)
