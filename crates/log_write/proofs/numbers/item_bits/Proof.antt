use borrow.Author.Tests.{eq-eqb, ne_eqb, lt-ltb, le-ltb, le-leb, lt-leb}
use borrow.Author.Rules.{rules}
use Rattle.log_write.proofs.numbers.item_bits.Statement.{statement}
use Rattle.log_write.proofs.numbers.item_bits.Tie as tie

enum_known-item : tie.Need-enum_known-item
enum_known-item c = search rules

command_bits-requires : tie.Need-command_bits-requires
command_bits-requires c κs = search rules

enum_known-item-in-Status-1 : tie.Need-enum_known-item-in-Status-1
enum_known-item-in-Status-1 c = search rules

status_bits-requires : tie.Need-status_bits-requires
status_bits-requires c κs = search rules

enum_known-item-in-Data-1 : tie.Need-enum_known-item-in-Data-1
enum_known-item-in-Data-1 c = search rules

data_bits-requires : tie.Need-data_bits-requires
data_bits-requires c κs = search rules

enum_known-item-in-BusError-1 : tie.Need-enum_known-item-in-BusError-1
enum_known-item-in-BusError-1 c = search rules

error_bits-requires : tie.Need-error_bits-requires
error_bits-requires c κs = search rules

enum_known-item-in-Arinc-1 : tie.Need-enum_known-item-in-Arinc-1
enum_known-item-in-Arinc-1 c = search rules

arinc_bits-requires : tie.Need-arinc_bits-requires
arinc_bits-requires c κs = search rules

enum_known-item-in-Notice-1 : tie.Need-enum_known-item-in-Notice-1
enum_known-item-in-Notice-1 c = search rules

notice_bits-requires : tie.Need-notice_bits-requires
notice_bits-requires c κs = search rules

enum_known-item-in-User-1 : tie.Need-enum_known-item-in-User-1
enum_known-item-in-User-1 c = search rules

user_bits-requires : tie.Need-user_bits-requires
user_bits-requires c κs = search rules

enum_known-item-in-Overflow-1 : tie.Need-enum_known-item-in-Overflow-1
enum_known-item-in-Overflow-1 c = search rules

overflow_bits-requires : tie.Need-overflow_bits-requires
overflow_bits-requires c κs = search rules

returns-in-Command : tie.Need-returns-in-Command
returns-in-Command c = simp c.in-Command.is c.command_bits.ensures

returns-in-Status : tie.Need-returns-in-Status
returns-in-Status c = simp c.in-Status.is c.status_bits.ensures

returns-in-Data : tie.Need-returns-in-Data
returns-in-Data c = simp c.in-Data.is c.data_bits.ensures

returns-in-BusError : tie.Need-returns-in-BusError
returns-in-BusError c = simp c.in-BusError.is c.error_bits.ensures

returns-in-Arinc : tie.Need-returns-in-Arinc
returns-in-Arinc c = simp c.in-Arinc.is c.arinc_bits.ensures

returns-in-Notice : tie.Need-returns-in-Notice
returns-in-Notice c = simp c.in-Notice.is c.notice_bits.ensures

returns-in-User : tie.Need-returns-in-User
returns-in-User c = simp c.in-User.is c.user_bits.ensures

returns-in-Overflow : tie.Need-returns-in-Overflow
returns-in-Overflow c = simp c.in-Overflow.is c.overflow_bits.ensures

pub item_bits_spec : {M : Type 1} → statement M
item_bits_spec =
    tie.close
    (tie.spec
    enum_known-item
    command_bits-requires
    enum_known-item-in-Status-1
    status_bits-requires
    enum_known-item-in-Data-1
    data_bits-requires
    enum_known-item-in-BusError-1
    error_bits-requires
    enum_known-item-in-Arinc-1
    arinc_bits-requires
    enum_known-item-in-Notice-1
    notice_bits-requires
    enum_known-item-in-User-1
    user_bits-requires
    enum_known-item-in-Overflow-1
    overflow_bits-requires
    returns-in-Command
    returns-in-Status
    returns-in-Data
    returns-in-BusError
    returns-in-Arinc
    returns-in-Notice
    returns-in-User
    returns-in-Overflow)
