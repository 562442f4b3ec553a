use borrow.Author.Rules.{rules}
use Rattle.log_check.proofs.item.status_role.Statement.{statement}
use Rattle.log_check.proofs.item.status_role.Tie as tie

enum_told-1 : tie.Need-enum_told-1
enum_told-1 c = search rules

plain_role-requires : tie.Need-plain_role-requires
plain_role-requires c κs = search rules

enum_told-in-After : tie.Need-enum_told-in-After
enum_told-in-After c = search rules

plain_role-requires-in-After : tie.Need-plain_role-requires-in-After
plain_role-requires-in-After c κs = search rules

returns-in-Untimed : tie.Need-returns-in-Untimed
returns-in-Untimed c = rw c.in-Untimed.is c.plain_role.ensures

returns-in-After : tie.Need-returns-in-After
returns-in-After c = rw c.in-After.is c.plain_role-in-After.ensures

pub status_role_spec : {M : Type 1} → statement M
status_role_spec =
    tie.close
    (tie.spec enum_told-1 plain_role-requires enum_told-in-After plain_role-requires-in-After returns-in-Untimed returns-in-After)
