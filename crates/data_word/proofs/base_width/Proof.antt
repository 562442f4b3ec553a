use borrow.Author.Tests.{lt-ltb, le-ltb}
use borrow.Author.Rules.{rules}
use Rattle.data_word.proofs.base_width.Statement.{statement}
use Rattle.data_word.proofs.base_width.Tie as tie

returns-then-base-lt4294967296 : tie.Need-returns-then-base-lt4294967296
returns-then-base-lt4294967296 c = simp (lt-ltb _ _ c.if-base-lt4294967296.true)

returns-else-base-lt4294967296 : tie.Need-returns-else-base-lt4294967296
returns-else-base-lt4294967296 c = simp (le-ltb _ _ c.if-base-lt4294967296.false)

pub base_width_spec : {M : Type 1} → statement M
base_width_spec = tie.close (tie.spec returns-then-base-lt4294967296 returns-else-base-lt4294967296)
