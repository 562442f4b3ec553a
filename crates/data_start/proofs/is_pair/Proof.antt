use mathlib.Core.Path.{sym}
use native.Mathlib.Omega.{arith}
use Rattle.data_start.proofs.Begun.{below_eight_is_no_high, even_is_no_high, odd_pairs_with_its_low}
use borrow.Author.Rules.{rules}
use Rattle.data_start.proofs.is_pair.Statement.{statement}
use Rattle.data_start.proofs.is_pair.Tie as tie

returns-then-high-lt8 : tie.Need-returns-then-high-lt8
returns-then-high-lt8 c = sym (below_eight_is_no_high _ _ c.if-high-lt8.true)

returns-then-high-eq0 : tie.Need-returns-then-high-eq0
returns-then-high-eq0 c = sym (even_is_no_high _ _ c.if-high-lt8.false (omega arith) c.if-high-eq0.true)

overflow_add-result : tie.Need-overflow_add-result
overflow_add-result c = search rules

returns : tie.Need-returns
returns c = odd_pairs_with_its_low _ _ c.if-high-lt8.false (omega arith) c.if-high-eq0.false

pub is_pair_spec : {M : Type 1} → statement M
is_pair_spec = tie.close (tie.spec returns-then-high-lt8 returns-then-high-eq0 overflow_add-result returns)
