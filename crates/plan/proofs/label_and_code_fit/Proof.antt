use mathlib.Core.Path.{refl}
use borrow.Author.Tests.{le-leb, lt-leb}
use Rattle.plan.proofs.label_and_code_fit.Statement.{statement}
use Rattle.plan.proofs.label_and_code_fit.Tie as tie

returns-then-label-gt7 : tie.Need-returns-then-label-gt7
returns-then-label-gt7 c = rw (lt-leb _ _ c.if-label-gt7.true)

returns-then-code-gt15 : tie.Need-returns-then-code-gt15
returns-then-code-gt15 c = rw (le-leb _ _ c.if-label-gt7.false, lt-leb _ _ c.if-code-gt15.true)

returns-then-parity : tie.Need-returns-then-parity
returns-then-parity c = rw (le-leb _ _ c.if-label-gt7.false, le-leb _ _ c.if-code-gt15.false, c.if-parity.true)

returns : tie.Need-returns
returns c = rw (le-leb _ _ c.if-label-gt7.false, le-leb _ _ c.if-code-gt15.false, c.if-parity.false)

pub label_and_code_fit_spec : {M : Type 1} → statement M
label_and_code_fit_spec = tie.close (tie.spec returns-then-label-gt7 returns-then-code-gt15 returns-then-parity returns)
