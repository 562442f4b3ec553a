use borrow.Author.Rules.{rules}
use Rattle.log_buffer.proofs.item.tagged_load.Statement.{statement}
use Rattle.log_buffer.proofs.item.tagged_load.Tie as tie

enum_told-1 : tie.Need-enum_told-1
enum_told-1 c = search rules

plain_load-requires : tie.Need-plain_load-requires
plain_load-requires c κs = search rules

enum_told-in-At : tie.Need-enum_told-in-At
enum_told-in-At c = search rules

overflow_add-words : tie.Need-overflow_add-words
overflow_add-words c = search rules

plain_load-requires-in-At : tie.Need-plain_load-requires-in-At
plain_load-requires-in-At c κs = search rules

returns-in-Untagged : tie.Need-returns-in-Untagged
returns-in-Untagged c = rw c.in-Untagged.is c.plain_load.ensures

returns-in-At : tie.Need-returns-in-At
returns-in-At c = rw c.in-At.is c.plain_load-in-At.ensures

pub tagged_load_spec : {M : Type 1} → statement M
tagged_load_spec =
    tie.close
    (tie.spec
    enum_told-1
    plain_load-requires
    enum_told-in-At
    overflow_add-words
    plain_load-requires-in-At
    returns-in-Untagged
    returns-in-At)
