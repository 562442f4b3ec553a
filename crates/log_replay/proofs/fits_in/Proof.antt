use mathlib.Core.Path.{refl}
use borrow.Author.Tests.{le-leb, lt-leb}
use borrow.Author.Rules.{rules}
use Rattle.log_replay.proofs.fits_in.Statement.{statement}
use Rattle.log_replay.proofs.fits_in.Tie as tie

returns-then-bytes-gt32768 : tie.Need-returns-then-bytes-gt32768
returns-then-bytes-gt32768 c = rw (lt-leb c.args.bytes 32768 c.if-bytes-gt32768.true) refl

returns : tie.Need-returns
returns c = rw (le-leb c.args.bytes 32768 c.if-bytes-gt32768.false) refl

pub fits_in_spec : {M : Type 1} → statement M
fits_in_spec = tie.close (tie.spec returns-then-bytes-gt32768 returns)
