use mathlib.Core.Path.{refl}
use borrow.Author.Rules.{rules}
use Rattle.log_check.proofs.item.command_role.Statement.{statement}
use Rattle.log_check.proofs.item.command_role.Tie as tie

enum_told-1 : tie.Need-enum_told-1
enum_told-1 c = search rules

enum_known-tag : tie.Need-enum_known-tag
enum_known-tag c = search rules

time_number-requires : tie.Need-time_number-requires
time_number-requires c κs = search rules

returns-in-Untagged : tie.Need-returns-in-Untagged
returns-in-Untagged c = rw c.in-Untagged.is refl

returns-in-At : tie.Need-returns-in-At
returns-in-At c = rw (c.in-At.is, c.time_number.ensures) refl

pub command_role_spec : {M : Type 1} → statement M
command_role_spec =
    tie.close (tie.spec enum_told-1 enum_known-tag time_number-requires returns-in-Untagged returns-in-At)
