use borrow.Author.Rules.{rules}
use Rattle.data_start.proofs.row_of.Statement.{statement}
use Rattle.data_start.proofs.row_of.Tie as tie

enum_told-1 : tie.Need-enum_told-1
enum_told-1 c = search rules

enum_told-in-Mil1553 : tie.Need-enum_told-in-Mil1553
enum_told-in-Mil1553 c = search rules

enum_told-in-Arinc429 : tie.Need-enum_told-in-Arinc429
enum_told-in-Arinc429 c = search rules

returns-in-Unused : tie.Need-returns-in-Unused
returns-in-Unused c = rw c.in-Unused.is

returns-in-Mil1553 : tie.Need-returns-in-Mil1553
returns-in-Mil1553 c = rw c.in-Mil1553.is

returns-in-Arinc429 : tie.Need-returns-in-Arinc429
returns-in-Arinc429 c = rw c.in-Arinc429.is

pub row_of_spec : {M : Type 1} → statement M
row_of_spec = tie.close (tie.spec enum_told-1 enum_told-in-Mil1553 enum_told-in-Arinc429 returns-in-Unused returns-in-Mil1553 returns-in-Arinc429)
