use borrow.Author.Rules.{rules}
use Rattle.log_buffer.proofs.item.status_load.Statement.{statement}
use Rattle.log_buffer.proofs.item.status_load.Tie as tie

enum_told-1 : tie.Need-enum_told-1
enum_told-1 c = search rules

plain_load-requires : tie.Need-plain_load-requires
plain_load-requires c κs = search rules

enum_told-in-After : tie.Need-enum_told-in-After
enum_told-in-After c = search rules

plain_load-requires-in-After : tie.Need-plain_load-requires-in-After
plain_load-requires-in-After c κs = search rules

returns-in-Untimed : tie.Need-returns-in-Untimed
returns-in-Untimed c = rw c.in-Untimed.is c.plain_load.ensures

returns-in-After : tie.Need-returns-in-After
returns-in-After c = rw c.in-After.is c.plain_load-in-After.ensures

pub status_load_spec : {M : Type 1} → statement M
status_load_spec =
    tie.close
    (tie.spec enum_told-1 plain_load-requires enum_told-in-After plain_load-requires-in-After returns-in-Untimed returns-in-After)
