use mathlib.Core.Path.{refl}
use borrow.Author.Tests.{le-leb, lt-leb}
use borrow.Author.Rules.{rules}
use Rattle.log_events.proofs.events.within.Statement.{statement}
use Rattle.log_events.proofs.events.within.Tie as tie

returns-then-value-low : tie.Need-returns-then-value-low
returns-then-value-low c = rw (lt-leb c.args.low c.args.value c.if-value-low.true) refl

returns : tie.Need-returns
returns c = rw (le-leb c.args.low c.args.value c.if-value-low.false) refl

pub within_spec : {M : Type 1} → statement M
within_spec = tie.close (tie.spec returns-then-value-low returns)
