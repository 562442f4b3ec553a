use mathlib.Core.Path.{refl}
use borrow.Author.Rules.{rules}
use Rattle.notices.proofs.changed.Statement.{statement}
use Rattle.notices.proofs.changed.Tie as tie
use Rattle.notices.proofs.changed.Reads as reads
use Rattle.notices.proofs.changed.Lts as lts

overflow_add-result : tie.Need-overflow_add-result
overflow_add-result c = search rules

overflow_mul-result : tie.Need-overflow_mul-result
overflow_mul-result c = search rules

overflow_add-result-2 : tie.Need-overflow_add-result-2
overflow_add-result-2 c = search rules

returns : tie.Need-returns
returns c = refl

pub changed_spec : {M : Type 1} → statement M
changed_spec = tie.close (tie.spec overflow_add-result overflow_mul-result overflow_add-result-2 returns)
