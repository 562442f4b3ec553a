use Rattle.format.specs.declared.Response.{Response}
use Rattle.format.specs.declared.Item.{Item}
use Rattle.format.specs.declared.Response.TheVariants.{Untimed, After}
use Rattle.format.specs.declared.Item.TheVariants.{Status}
use mathlib.Core.Path.{refl}
use native.Mathlib.Omega.{arith}
use Rattle.format.specs.Item.{item_fields}
use Rattle.log_write.proofs.Packing.{packed_by}
use borrow.Author.Rules.{rules}
use Rattle.log_write.proofs.numbers.status_bits.Statement.{statement}
use Rattle.log_write.proofs.numbers.status_bits.Tie as tie

abbrev item : tie.After-flag → Response → Item
item c x = let a = c.args in Status a.bus a.b x a.word

head-requires : tie.Need-head-requires
head-requires c κs = search rules

overflow_mul-front : tie.Need-overflow_mul-front
overflow_mul-front c = search rules

flag-requires : tie.Need-flag-requires
flag-requires c κs = search rules

overflow_add-front : tie.Need-overflow_add-front
overflow_add-front c = search rules

overflow_mul-front-2 : tie.Need-overflow_mul-front-2
overflow_mul-front-2 c = search rules

enum_told-1 : tie.Need-enum_told-1
enum_told-1 c = search rules

overflow_mul-result : tie.Need-overflow_mul-result
overflow_mul-result c = search rules

overflow_add-result : tie.Need-overflow_add-result
overflow_add-result c = search rules

enum_known-response : tie.Need-enum_known-response
enum_known-response c = search rules

overflow_add-result-in-After : tie.Need-overflow_add-result-in-After
overflow_add-result-in-After c = search rules

overflow_mul-result-in-After : tie.Need-overflow_mul-result-in-After
overflow_mul-result-in-After c = search rules

overflow_add-result-in-After-2 : tie.Need-overflow_add-result-in-After-2
overflow_add-result-in-After-2 c = search rules

overflow_cast-result-in-After-2 : tie.Need-overflow_cast-result-in-After-2
overflow_cast-result-in-After-2 c = search rules

returns-in-Untimed : tie.Need-returns-in-Untimed
unfolding item_fields
returns-in-Untimed c = rw c.in-Untimed.is (packed_by (item c.before Untimed) _ _ (omega arith) refl)

returns-in-After : tie.Need-returns-in-After
unfolding item_fields
returns-in-After c =
    let t = c in
    rw t.in-After.is (packed_by (item t.before (After t.in-After.micro)) _ _ (omega arith) (omega arith))

pub status_bits_spec : {M : Type 1} → statement M
status_bits_spec =
    tie.close
    (tie.spec
    head-requires
    overflow_mul-front
    flag-requires
    overflow_add-front
    overflow_mul-front-2
    enum_told-1
    overflow_mul-result
    overflow_add-result
    enum_known-response
    overflow_add-result-in-After
    overflow_mul-result-in-After
    overflow_add-result-in-After-2
    overflow_cast-result-in-After-2
    returns-in-Untimed
    returns-in-After)
