use Rattle.format.specs.declared.Item.TheVariants.{BusError}
use mathlib.Core.Path.{refl}
use native.Mathlib.Omega.{arith}
use Rattle.format.specs.Item.{item_fields}
use Rattle.log_write.proofs.Packing.{packed_by}
use borrow.Author.Rules.{rules}
use Rattle.log_write.proofs.numbers.error_bits.Statement.{statement}
use Rattle.log_write.proofs.numbers.error_bits.Tie as tie

head-requires : tie.Need-head-requires
head-requires c κs = search rules

overflow_mul-result : tie.Need-overflow_mul-result
overflow_mul-result c = search rules

flag-requires : tie.Need-flag-requires
flag-requires c κs = search rules

overflow_add-result : tie.Need-overflow_add-result
overflow_add-result c = search rules

overflow_mul-result-2 : tie.Need-overflow_mul-result-2
overflow_mul-result-2 c = search rules

overflow_add-result-2 : tie.Need-overflow_add-result-2
overflow_add-result-2 c = search rules

returns : tie.Need-returns
unfolding item_fields
returns c = packed_by (BusError c.args.bus c.args.b c.args.word) _ _ (omega arith) refl

pub error_bits_spec : {M : Type 1} → statement M
error_bits_spec =
    tie.close (tie.spec head-requires overflow_mul-result flag-requires overflow_add-result overflow_mul-result-2 overflow_add-result-2 returns)
