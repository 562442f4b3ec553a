use Rattle.log_read.specs.Fields.{ends_of}
use borrow.Author.Tests.{le-leb, lt-leb, le-ltb, lt-ltb}
use native.Mathlib.Omega.{arith}
use borrow.Author.Rules.{rules}
use Rattle.log_read.proofs.Cursor.ends.Statement.{statement}
use Rattle.log_read.proofs.Cursor.ends.Tie as tie

overflow_sub-left : tie.Need-overflow_sub-left
overflow_sub-left c = search rules

returns-then-left-lt4 : tie.Need-returns-then-left-lt4
unfolding ends_of
returns-then-left-lt4 c =
    rw (lt-leb 4 _ c.if-left-lt4.true)

returns-then-left-ge12 : tie.Need-returns-then-left-ge12
unfolding ends_of
returns-then-left-ge12 c =
    rw (le-leb 4 _ c.if-left-lt4.false, le-ltb _ 12 c.if-left-ge12.true)

overflow_cast-left : tie.Need-overflow_cast-left
overflow_cast-left c = search rules

take-rest-requires : tie.Need-take-rest-requires
take-rest-requires c κs = search rules

returns : tie.Need-returns
unfolding ends_of
returns c =
    rw (le-leb 4 _ c.if-left-lt4.false, lt-ltb _ 12 c.if-left-ge12.false, ← c.take-rest.ensures.0)

pub ends_spec : {M : Type 1} → statement M
ends_spec = tie.close (tie.spec overflow_sub-left returns-then-left-lt4 returns-then-left-ge12 overflow_cast-left take-rest-requires returns)
