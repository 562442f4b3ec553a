use borrow.Author.Rules.{rules}
use Rattle.log_text.proofs.item_line.Statement.{statement}
use Rattle.log_text.proofs.item_line.Tie as tie
use Rattle.log_text.proofs.item_line.Reads as reads
use Rattle.log_text.proofs.item_line.Lts as lts
use Rattle.log_text.proofs.arinc_line.Reads as arinc-line-reads
use Rattle.log_text.proofs.command_line.Reads as command-line-reads
use Rattle.log_text.proofs.data_line.Reads as data-line-reads
use Rattle.log_text.proofs.error_line.Reads as error-line-reads
use Rattle.log_text.proofs.notice_line.Reads as notice-line-reads
use Rattle.log_text.proofs.overflow_line.Reads as overflow-line-reads
use Rattle.log_text.proofs.status_line.Reads as status-line-reads
use Rattle.log_text.proofs.user_line.Reads as user-line-reads

enum_known-item : tie.Need-enum_known-item
enum_known-item c = search rules

command_line-requires : tie.Need-command_line-requires
command_line-requires c κs = search rules

enum_known-item-in-Status-1 : tie.Need-enum_known-item-in-Status-1
enum_known-item-in-Status-1 c = search rules

status_line-requires : tie.Need-status_line-requires
status_line-requires c κs = search rules

enum_known-item-in-Data-1 : tie.Need-enum_known-item-in-Data-1
enum_known-item-in-Data-1 c = search rules

data_line-requires : tie.Need-data_line-requires
data_line-requires c κs = search rules

enum_known-item-in-BusError-1 : tie.Need-enum_known-item-in-BusError-1
enum_known-item-in-BusError-1 c = search rules

error_line-requires : tie.Need-error_line-requires
error_line-requires c κs = search rules

enum_known-item-in-Arinc-1 : tie.Need-enum_known-item-in-Arinc-1
enum_known-item-in-Arinc-1 c = search rules

arinc_line-requires : tie.Need-arinc_line-requires
arinc_line-requires c κs = search rules

enum_known-item-in-Notice-1 : tie.Need-enum_known-item-in-Notice-1
enum_known-item-in-Notice-1 c = search rules

notice_line-requires : tie.Need-notice_line-requires
notice_line-requires c κs = search rules

enum_known-item-in-User-1 : tie.Need-enum_known-item-in-User-1
enum_known-item-in-User-1 c = search rules

user_line-requires : tie.Need-user_line-requires
user_line-requires c κs = search rules

enum_known-item-in-Overflow-1 : tie.Need-enum_known-item-in-Overflow-1
enum_known-item-in-Overflow-1 c = search rules

overflow_line-requires : tie.Need-overflow_line-requires
overflow_line-requires c κs = search rules

shape_of-out-in-Command : tie.Need-shape_of-out-in-Command
shape_of-out-in-Command c = search rules

returns-in-Command : tie.Need-returns-in-Command
returns-in-Command c = rw c.in-Command.is c.command_line.ensures

shape_of-out-in-Status : tie.Need-shape_of-out-in-Status
shape_of-out-in-Status c = search rules

returns-in-Status : tie.Need-returns-in-Status
returns-in-Status c = rw c.in-Status.is c.status_line.ensures

shape_of-out-in-Data : tie.Need-shape_of-out-in-Data
shape_of-out-in-Data c = search rules

returns-in-Data : tie.Need-returns-in-Data
returns-in-Data c = rw c.in-Data.is c.data_line.ensures

shape_of-out-in-BusError : tie.Need-shape_of-out-in-BusError
shape_of-out-in-BusError c = search rules

returns-in-BusError : tie.Need-returns-in-BusError
returns-in-BusError c = rw c.in-BusError.is c.error_line.ensures

shape_of-out-in-Arinc : tie.Need-shape_of-out-in-Arinc
shape_of-out-in-Arinc c = search rules

returns-in-Arinc : tie.Need-returns-in-Arinc
returns-in-Arinc c = rw c.in-Arinc.is c.arinc_line.ensures

shape_of-out-in-Notice : tie.Need-shape_of-out-in-Notice
shape_of-out-in-Notice c = search rules

returns-in-Notice : tie.Need-returns-in-Notice
returns-in-Notice c = rw c.in-Notice.is c.notice_line.ensures

shape_of-out-in-User : tie.Need-shape_of-out-in-User
shape_of-out-in-User c = search rules

returns-in-User : tie.Need-returns-in-User
returns-in-User c = rw c.in-User.is c.user_line.ensures

shape_of-out-in-Overflow : tie.Need-shape_of-out-in-Overflow
shape_of-out-in-Overflow c = search rules

returns-in-Overflow : tie.Need-returns-in-Overflow
returns-in-Overflow c = rw c.in-Overflow.is c.overflow_line.ensures

pub item_line_spec : {M : Type 1} → statement M
item_line_spec =
    tie.close
    (tie.spec
    enum_known-item
    command_line-requires
    enum_known-item-in-Status-1
    status_line-requires
    enum_known-item-in-Data-1
    data_line-requires
    enum_known-item-in-BusError-1
    error_line-requires
    enum_known-item-in-Arinc-1
    arinc_line-requires
    enum_known-item-in-Notice-1
    notice_line-requires
    enum_known-item-in-User-1
    user_line-requires
    enum_known-item-in-Overflow-1
    overflow_line-requires
    shape_of-out-in-Command
    returns-in-Command
    shape_of-out-in-Status
    returns-in-Status
    shape_of-out-in-Data
    returns-in-Data
    shape_of-out-in-BusError
    returns-in-BusError
    shape_of-out-in-Arinc
    returns-in-Arinc
    shape_of-out-in-Notice
    returns-in-Notice
    shape_of-out-in-User
    returns-in-User
    shape_of-out-in-Overflow
    returns-in-Overflow)
