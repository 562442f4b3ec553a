use Rattle.data_start.proofs.Openers.{none_on_unused}
use borrow.Author.Rules.{rules}
use Rattle.data_start.proofs.opens.Statement.{statement}
use Rattle.data_start.proofs.opens.Tie as tie

enum_told-1 : tie.Need-enum_told-1
enum_told-1 c = search rules

enum_told-in-Mil1553 : tie.Need-enum_told-in-Mil1553
enum_told-in-Mil1553 c = search rules

opens_on_1553-requires : tie.Need-opens_on_1553-requires
opens_on_1553-requires c κs = search rules

enum_told-in-Arinc429 : tie.Need-enum_told-in-Arinc429
enum_told-in-Arinc429 c = search rules

opens_on_429-requires : tie.Need-opens_on_429-requires
opens_on_429-requires c κs = search rules

returns-in-Unused : tie.Need-returns-in-Unused
returns-in-Unused c = none_on_unused _ c.requires c.in-Unused.is

returns-in-Mil1553 : tie.Need-returns-in-Mil1553
returns-in-Mil1553 c = rw c.in-Mil1553.is c.opens_on_1553.ensures

returns-in-Arinc429 : tie.Need-returns-in-Arinc429
returns-in-Arinc429 c = rw c.in-Arinc429.is c.opens_on_429.ensures

pub opens_spec : {M : Type 1} → statement M
opens_spec =
    tie.close
    (tie.spec
    enum_told-1
    enum_told-in-Mil1553
    opens_on_1553-requires
    enum_told-in-Arinc429
    opens_on_429-requires
    returns-in-Unused
    returns-in-Mil1553
    returns-in-Arinc429)
