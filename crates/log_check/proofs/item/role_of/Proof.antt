use borrow.Author.Rules.{rules}
use Rattle.log_check.proofs.item.role_of.Statement.{statement}
use Rattle.log_check.proofs.item.role_of.Tie as tie

enum_known-item : tie.Need-enum_known-item
enum_known-item c = search rules

command_role-requires : tie.Need-command_role-requires
command_role-requires c κs = search rules

enum_known-item-in-Status-1 : tie.Need-enum_known-item-in-Status-1
enum_known-item-in-Status-1 c = search rules

status_role-requires : tie.Need-status_role-requires
status_role-requires c κs = search rules

enum_known-item-in-Data-1 : tie.Need-enum_known-item-in-Data-1
enum_known-item-in-Data-1 c = search rules

plain_role-requires : tie.Need-plain_role-requires
plain_role-requires c κs = search rules

enum_known-item-in-BusError-1 : tie.Need-enum_known-item-in-BusError-1
enum_known-item-in-BusError-1 c = search rules

plain_role-requires-in-BusError : tie.Need-plain_role-requires-in-BusError
plain_role-requires-in-BusError c κs = search rules

enum_known-item-in-Arinc-1 : tie.Need-enum_known-item-in-Arinc-1
enum_known-item-in-Arinc-1 c = search rules

plain_role-requires-in-Arinc : tie.Need-plain_role-requires-in-Arinc
plain_role-requires-in-Arinc c κs = search rules

enum_known-item-in-Notice-1 : tie.Need-enum_known-item-in-Notice-1
enum_known-item-in-Notice-1 c = search rules

plain_role-requires-in-Notice : tie.Need-plain_role-requires-in-Notice
plain_role-requires-in-Notice c κs = search rules

enum_known-item-in-User-1 : tie.Need-enum_known-item-in-User-1
enum_known-item-in-User-1 c = search rules

plain_role-requires-in-User : tie.Need-plain_role-requires-in-User
plain_role-requires-in-User c κs = search rules

enum_known-item-in-Overflow-1 : tie.Need-enum_known-item-in-Overflow-1
enum_known-item-in-Overflow-1 c = search rules

plain_role-requires-in-Overflow : tie.Need-plain_role-requires-in-Overflow
plain_role-requires-in-Overflow c κs = search rules

returns-in-Command : tie.Need-returns-in-Command
returns-in-Command c = rw c.in-Command.is c.command_role.ensures

returns-in-Status : tie.Need-returns-in-Status
returns-in-Status c = rw c.in-Status.is c.status_role.ensures

returns-in-Data : tie.Need-returns-in-Data
returns-in-Data c = rw c.in-Data.is c.plain_role.ensures

returns-in-BusError : tie.Need-returns-in-BusError
returns-in-BusError c = rw c.in-BusError.is c.plain_role-in-BusError.ensures

returns-in-Arinc : tie.Need-returns-in-Arinc
returns-in-Arinc c = rw c.in-Arinc.is c.plain_role-in-Arinc.ensures

returns-in-Notice : tie.Need-returns-in-Notice
returns-in-Notice c = rw c.in-Notice.is c.plain_role-in-Notice.ensures

returns-in-User : tie.Need-returns-in-User
returns-in-User c = rw c.in-User.is c.plain_role-in-User.ensures

returns-in-Overflow : tie.Need-returns-in-Overflow
returns-in-Overflow c = rw c.in-Overflow.is c.plain_role-in-Overflow.ensures

pub role_of_spec : {M : Type 1} → statement M
role_of_spec =
    tie.close
    (tie.spec
    enum_known-item
    command_role-requires
    enum_known-item-in-Status-1
    status_role-requires
    enum_known-item-in-Data-1
    plain_role-requires
    enum_known-item-in-BusError-1
    plain_role-requires-in-BusError
    enum_known-item-in-Arinc-1
    plain_role-requires-in-Arinc
    enum_known-item-in-Notice-1
    plain_role-requires-in-Notice
    enum_known-item-in-User-1
    plain_role-requires-in-User
    enum_known-item-in-Overflow-1
    plain_role-requires-in-Overflow
    returns-in-Command
    returns-in-Status
    returns-in-Data
    returns-in-BusError
    returns-in-Arinc
    returns-in-Notice
    returns-in-User
    returns-in-Overflow)
