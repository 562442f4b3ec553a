use Rattle.data_word.proofs.Ending.{since_before_its_tag, since_its_high_syllable, since_the_command, since_this_word}
use native.Mathlib.Omega.{arith}
use borrow.Author.Rules.{rules}
use Rattle.data_word.proofs.since.Statement.{statement}
use Rattle.data_word.proofs.since.Tie as tie

returns-then-stage-eq5 : tie.Need-returns-then-stage-eq5
returns-then-stage-eq5 c = since_before_its_tag _ _ _ c.requires (omega arith) (omega arith)

returns-then-stage-eq6 : tie.Need-returns-then-stage-eq6
returns-then-stage-eq6 c = since_before_its_tag _ _ _ c.requires (omega arith) (omega arith)

returns-then-base-ge4294967296 : tie.Need-returns-then-base-ge4294967296
returns-then-base-ge4294967296 c = since_its_high_syllable _ _ _ c.requires c.if-stage-eq7.true c.if-base-ge4294967296.true

returns-else-base-ge4294967296 : tie.Need-returns-else-base-ge4294967296
returns-else-base-ge4294967296 c = since_the_command _ _ _ c.requires c.if-stage-eq7.true c.if-base-ge4294967296.false

returns-else-stage-eq7 : tie.Need-returns-else-stage-eq7
returns-else-stage-eq7 c = since_this_word _ _ _ c.requires c.if-stage-eq5.false c.if-stage-eq6.false c.if-stage-eq7.false

pub since_spec : {M : Type 1} → statement M
since_spec = tie.close (tie.spec returns-then-stage-eq5 returns-then-stage-eq6 returns-then-base-ge4294967296 returns-else-base-ge4294967296 returns-else-stage-eq7)
