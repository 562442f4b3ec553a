use Rattle.format.specs.declared.Item.TheVariants.{Notice}
use mathlib.Core.Path.{refl}
use native.Mathlib.Omega.{arith}
use Rattle.format.specs.Item.{item_fields}
use Rattle.log_write.proofs.Packing.{packed_by}
use borrow.Author.Rules.{rules}
use Rattle.log_write.proofs.numbers.notice_bits.Statement.{statement}
use Rattle.log_write.proofs.numbers.notice_bits.Tie as tie

head-requires : tie.Need-head-requires
head-requires c κs = search rules

overflow_mul-result : tie.Need-overflow_mul-result
overflow_mul-result c = search rules

overflow_cast-result : tie.Need-overflow_cast-result
overflow_cast-result c = search rules

overflow_add-result : tie.Need-overflow_add-result
overflow_add-result c = search rules

overflow_mul-result-2 : tie.Need-overflow_mul-result-2
overflow_mul-result-2 c = search rules

overflow_add-result-2 : tie.Need-overflow_add-result-2
overflow_add-result-2 c = search rules

returns : tie.Need-returns
unfolding item_fields
returns c = packed_by (Notice c.args.bus c.args.channel c.args.diagnostics) _ _ (omega arith) refl

pub notice_bits_spec : {M : Type 1} → statement M
notice_bits_spec = tie.close (tie.spec head-requires overflow_mul-result overflow_cast-result overflow_add-result overflow_mul-result-2 overflow_add-result-2 returns)
