use borrow.Author.Rules.{rules}
use borrow.Author.Tests.{lt-ltb, le-ltb}
use native.Mathlib.Omega.{arith}
use Rattle.salvage_run.proofs.base_words.Statement.{statement}
use Rattle.salvage_run.proofs.base_words.Tie as tie
use Rattle.salvage_run.proofs.base_words.Reads as reads
use Rattle.salvage_run.proofs.base_words.Lts as lts

returns-then-base-lt4294967296 : tie.Need-returns-then-base-lt4294967296
returns-then-base-lt4294967296 c = (rw (lt-ltb _ _ c.if-base-lt4294967296.true), omega arith)

returns-else-base-lt4294967296 : tie.Need-returns-else-base-lt4294967296
returns-else-base-lt4294967296 c = (rw (le-ltb _ _ c.if-base-lt4294967296.false), omega arith)

pub base_words_spec : {M : Type 1} → statement M
base_words_spec = tie.close (tie.spec returns-then-base-lt4294967296 returns-else-base-lt4294967296)
