use Rattle.format.specs.Item.{in_time}
use borrow.Author.Tests.{eq-eqb, ne_eqb, lt-ltb, le-ltb, le-leb, lt-leb}
use borrow.Author.Rules.{rules}
use Rattle.log_read.proofs.faults.in_time.Statement.{statement}
use Rattle.log_read.proofs.faults.in_time.Tie as tie

enum_known-item : tie.Need-enum_known-item
enum_known-item c = search rules

tag_in_time-requires : tie.Need-tag_in_time-requires
tag_in_time-requires c κs = search rules

enum_known-item-in-Status-1 : tie.Need-enum_known-item-in-Status-1
enum_known-item-in-Status-1 c = search rules

response_in_time-requires : tie.Need-response_in_time-requires
response_in_time-requires c κs = search rules

enum_told-1 : tie.Need-enum_told-1
enum_told-1 c = search rules

enum_told-in-BusError : tie.Need-enum_told-in-BusError
enum_told-in-BusError c = search rules

enum_known-item-in-Arinc-1 : tie.Need-enum_known-item-in-Arinc-1
enum_known-item-in-Arinc-1 c = search rules

tag_in_time-requires-in-Arinc : tie.Need-tag_in_time-requires-in-Arinc
tag_in_time-requires-in-Arinc c κs = search rules

enum_told-in-Notice : tie.Need-enum_told-in-Notice
enum_told-in-Notice c = search rules

enum_told-in-User : tie.Need-enum_told-in-User
enum_told-in-User c = search rules

enum_told-in-Overflow : tie.Need-enum_told-in-Overflow
enum_told-in-Overflow c = search rules

returns-in-Command : tie.Need-returns-in-Command
unfolding in_time
returns-in-Command c = simp c.in-Command.is c.tag_in_time.ensures

returns-in-Status : tie.Need-returns-in-Status
unfolding in_time
returns-in-Status c = simp c.in-Status.is c.response_in_time.ensures

returns-in-Data : tie.Need-returns-in-Data
unfolding in_time
returns-in-Data c = simp c.in-Data.is

returns-in-BusError : tie.Need-returns-in-BusError
unfolding in_time
returns-in-BusError c = simp c.in-BusError.is

returns-in-Arinc : tie.Need-returns-in-Arinc
unfolding in_time
returns-in-Arinc c = simp c.in-Arinc.is c.tag_in_time-in-Arinc.ensures

returns-in-Notice : tie.Need-returns-in-Notice
unfolding in_time
returns-in-Notice c = simp c.in-Notice.is

returns-in-User : tie.Need-returns-in-User
unfolding in_time
returns-in-User c = simp c.in-User.is

returns-in-Overflow : tie.Need-returns-in-Overflow
unfolding in_time
returns-in-Overflow c = simp c.in-Overflow.is

pub in_time_spec : {M : Type 1} → statement M
in_time_spec =
    tie.close
    (tie.spec
    enum_known-item
    tag_in_time-requires
    enum_known-item-in-Status-1
    response_in_time-requires
    enum_told-1
    enum_told-in-BusError
    enum_known-item-in-Arinc-1
    tag_in_time-requires-in-Arinc
    enum_told-in-Notice
    enum_told-in-User
    enum_told-in-Overflow
    returns-in-Command
    returns-in-Status
    returns-in-Data
    returns-in-BusError
    returns-in-Arinc
    returns-in-Notice
    returns-in-User
    returns-in-Overflow)
