use Rattle.format.specs.declared.Tag.{Tag}
use Rattle.format.specs.declared.Item.{Item}
use Rattle.format.specs.declared.Tag.TheVariants.{Untagged, At}
use Rattle.format.specs.declared.Item.TheVariants.{Command}
use mathlib.Core.Path.{refl}
use native.Mathlib.Omega.{arith}
use Rattle.format.specs.Item.{item_fields}
use Rattle.log_write.proofs.Packing.{packed_by}
use borrow.Author.Rules.{rules}
use Rattle.log_write.proofs.numbers.command_bits.Statement.{statement}
use Rattle.log_write.proofs.numbers.command_bits.Tie as tie

abbrev item : tie.After-flag → Tag → Item
item c x = let a = c.args in Command a.bus a.b x a.word

head-requires : tie.Need-head-requires
head-requires c κs = search rules

overflow_mul-front : tie.Need-overflow_mul-front
overflow_mul-front c = search rules

flag-requires : tie.Need-flag-requires
flag-requires c κs = search rules

overflow_add-front : tie.Need-overflow_add-front
overflow_add-front c = search rules

overflow_mul-front-2 : tie.Need-overflow_mul-front-2
overflow_mul-front-2 c = search rules

enum_told-1 : tie.Need-enum_told-1
enum_told-1 c = search rules

overflow_mul-result : tie.Need-overflow_mul-result
overflow_mul-result c = search rules

overflow_add-result : tie.Need-overflow_add-result
overflow_add-result c = search rules

enum_known-tag : tie.Need-enum_known-tag
enum_known-tag c = search rules

overflow_add-result-in-At : tie.Need-overflow_add-result-in-At
overflow_add-result-in-At c = search rules

overflow_mul-result-in-At : tie.Need-overflow_mul-result-in-At
overflow_mul-result-in-At c = search rules

overflow_add-result-in-At-2 : tie.Need-overflow_add-result-in-At-2
overflow_add-result-in-At-2 c = search rules

tag_number-requires : tie.Need-tag_number-requires
tag_number-requires c κs = search rules

returns-in-Untagged : tie.Need-returns-in-Untagged
unfolding item_fields
returns-in-Untagged c = rw c.in-Untagged.is (packed_by (item c.before Untagged) _ _ (omega arith) refl)

returns-in-At : tie.Need-returns-in-At
unfolding item_fields
returns-in-At c =
    let t = c.before in
    rw t.in-At.is (packed_by (item t.before (At t.in-At.time)) _ _ (omega arith) (omega (arith, c.tag_number.ensures)))

pub command_bits_spec : {M : Type 1} → statement M
command_bits_spec =
    tie.close
    (tie.spec
    head-requires
    overflow_mul-front
    flag-requires
    overflow_add-front
    overflow_mul-front-2
    enum_told-1
    overflow_mul-result
    overflow_add-result
    enum_known-tag
    overflow_add-result-in-At
    overflow_mul-result-in-At
    overflow_add-result-in-At-2
    tag_number-requires
    returns-in-Untagged
    returns-in-At)
