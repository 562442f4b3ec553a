use borrow.Author.Tests.{eq-eqb, ne_eqb, lt-ltb, le-ltb, le-leb, lt-leb}
use borrow.Author.Rules.{rules}
use Rattle.log_bits.proofs.upper_bits.Statement.{statement}
use Rattle.log_bits.proofs.upper_bits.Tie as tie
use Rattle.log_bits.proofs.upper_bits.Reads as reads
use Rattle.log_bits.proofs.upper_bits.Lts as lts

enum_told-1 : tie.Need-enum_told-1
enum_told-1 c = search rules

enum_told-in-Mil1553 : tie.Need-enum_told-in-Mil1553
enum_told-in-Mil1553 c = search rules

enum_told-in-Arinc429 : tie.Need-enum_told-in-Arinc429
enum_told-in-Arinc429 c = search rules

returns-in-Unused : tie.Need-returns-in-Unused
returns-in-Unused c = simp c.in-Unused.is

returns-then-label-lt2 : tie.Need-returns-then-label-lt2
returns-then-label-lt2 c = simp (c.in-Mil1553.is, lt-ltb _ _ c.if-label-lt2.true)

returns-else-label-lt2 : tie.Need-returns-else-label-lt2
returns-else-label-lt2 c = simp (c.in-Mil1553.is, le-ltb _ _ c.if-label-lt2.false)

returns-then-label-eq1 : tie.Need-returns-then-label-eq1
returns-then-label-eq1 c = simp (c.in-Arinc429.is, eq-eqb _ _ c.if-label-eq1.true)

returns-else-label-eq1 : tie.Need-returns-else-label-eq1
returns-else-label-eq1 c = simp (c.in-Arinc429.is, ne_eqb _ _ c.if-label-eq1.false)

pub upper_bits_spec : {M : Type 1} → statement M
upper_bits_spec =
    tie.close
    (tie.spec enum_told-1 enum_told-in-Mil1553 enum_told-in-Arinc429 returns-in-Unused returns-then-label-lt2 returns-else-label-lt2 returns-then-label-eq1 returns-else-label-eq1)
