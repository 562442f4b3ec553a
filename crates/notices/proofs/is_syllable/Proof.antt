use borrow.Author.Tests.{le-leb, lt-leb}
use borrow.Author.Rules.{rules}
use Rattle.notices.proofs.is_syllable.Statement.{statement}
use Rattle.notices.proofs.is_syllable.Tie as tie
use Rattle.notices.proofs.is_syllable.Reads as reads
use Rattle.notices.proofs.is_syllable.Lts as lts

returns-then-label-ge8 : tie.Need-returns-then-label-ge8
returns-then-label-ge8 c = rw (le-leb 8 c.args.label c.if-label-ge8.true)

returns-else-label-ge8 : tie.Need-returns-else-label-ge8
returns-else-label-ge8 c = rw (lt-leb 8 c.args.label c.if-label-ge8.false)

pub is_syllable_spec : {M : Type 1} → statement M
is_syllable_spec = tie.close (tie.spec returns-then-label-ge8 returns-else-label-ge8)
