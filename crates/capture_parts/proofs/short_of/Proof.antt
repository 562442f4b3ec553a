use mathlib.Core.Path.{refl}
use borrow.Author.Tests.{le-leb, lt-leb}
use borrow.Author.Rules.{rules}
use Rattle.capture_parts.proofs.short_of.Statement.{statement}
use Rattle.capture_parts.proofs.short_of.Tie as tie

returns-then-needed-room : tie.Need-returns-then-needed-room
returns-then-needed-room c = rw (le-leb _ _ c.if-needed-room.true) refl

returns-else-needed-room : tie.Need-returns-else-needed-room
returns-else-needed-room c = rw (lt-leb _ _ c.if-needed-room.false) refl

pub short_of_spec : {M : Type 1} → statement M
short_of_spec = tie.close (tie.spec returns-then-needed-room returns-else-needed-room)
