use mathlib.Core.Path.{refl}
use borrow.Author.Rules.{rules}
use Rattle.log_buffer.proofs.item.load_of.Statement.{statement}
use Rattle.log_buffer.proofs.item.load_of.Tie as tie

enum_known-item : tie.Need-enum_known-item
enum_known-item c = search rules

tagged_load-requires : tie.Need-tagged_load-requires
tagged_load-requires c κs = search rules

enum_known-item-in-Status-1 : tie.Need-enum_known-item-in-Status-1
enum_known-item-in-Status-1 c = search rules

status_load-requires : tie.Need-status_load-requires
status_load-requires c κs = search rules

enum_known-item-in-Data-1 : tie.Need-enum_known-item-in-Data-1
enum_known-item-in-Data-1 c = search rules

plain_load-requires : tie.Need-plain_load-requires
plain_load-requires c κs = search rules

enum_known-item-in-BusError-1 : tie.Need-enum_known-item-in-BusError-1
enum_known-item-in-BusError-1 c = search rules

plain_load-requires-in-BusError : tie.Need-plain_load-requires-in-BusError
plain_load-requires-in-BusError c κs = search rules

enum_known-item-in-Arinc-1 : tie.Need-enum_known-item-in-Arinc-1
enum_known-item-in-Arinc-1 c = search rules

tagged_load-requires-in-Arinc : tie.Need-tagged_load-requires-in-Arinc
tagged_load-requires-in-Arinc c κs = search rules

enum_known-item-in-Notice-1 : tie.Need-enum_known-item-in-Notice-1
enum_known-item-in-Notice-1 c = search rules

plain_load-requires-in-Notice : tie.Need-plain_load-requires-in-Notice
plain_load-requires-in-Notice c κs = search rules

enum_known-item-in-User-1 : tie.Need-enum_known-item-in-User-1
enum_known-item-in-User-1 c = search rules

plain_load-requires-in-User : tie.Need-plain_load-requires-in-User
plain_load-requires-in-User c κs = search rules

enum_known-item-in-Overflow-1 : tie.Need-enum_known-item-in-Overflow-1
enum_known-item-in-Overflow-1 c = search rules

returns-in-Command : tie.Need-returns-in-Command
returns-in-Command c = rw c.in-Command.is c.tagged_load.ensures

returns-in-Status : tie.Need-returns-in-Status
returns-in-Status c = rw c.in-Status.is c.status_load.ensures

returns-in-Data : tie.Need-returns-in-Data
returns-in-Data c = rw c.in-Data.is c.plain_load.ensures

returns-in-BusError : tie.Need-returns-in-BusError
returns-in-BusError c = rw c.in-BusError.is c.plain_load-in-BusError.ensures

returns-in-Arinc : tie.Need-returns-in-Arinc
returns-in-Arinc c = rw c.in-Arinc.is c.tagged_load-in-Arinc.ensures

returns-in-Notice : tie.Need-returns-in-Notice
returns-in-Notice c = rw c.in-Notice.is c.plain_load-in-Notice.ensures

returns-in-User : tie.Need-returns-in-User
returns-in-User c = rw c.in-User.is c.plain_load-in-User.ensures

returns-in-Overflow : tie.Need-returns-in-Overflow
returns-in-Overflow c = rw c.in-Overflow.is refl

pub load_of_spec : {M : Type 1} → statement M
load_of_spec =
    tie.close
    (tie.spec
    enum_known-item
    tagged_load-requires
    enum_known-item-in-Status-1
    status_load-requires
    enum_known-item-in-Data-1
    plain_load-requires
    enum_known-item-in-BusError-1
    plain_load-requires-in-BusError
    enum_known-item-in-Arinc-1
    tagged_load-requires-in-Arinc
    enum_known-item-in-Notice-1
    plain_load-requires-in-Notice
    enum_known-item-in-User-1
    plain_load-requires-in-User
    enum_known-item-in-Overflow-1
    returns-in-Command
    returns-in-Status
    returns-in-Data
    returns-in-BusError
    returns-in-Arinc
    returns-in-Notice
    returns-in-User
    returns-in-Overflow)
