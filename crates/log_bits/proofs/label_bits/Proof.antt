use borrow.Author.Tests.{eq-eqb, ne_eqb, lt-ltb, le-ltb, le-leb, lt-leb}
use borrow.Author.Rules.{rules}
use Rattle.log_bits.proofs.label_bits.Statement.{statement}
use Rattle.log_bits.proofs.label_bits.Tie as tie
use Rattle.log_bits.proofs.label_bits.Reads as reads
use Rattle.log_bits.proofs.label_bits.Lts as lts
use Rattle.log_bits.proofs.four_bits.Reads as four-bits-reads
use Rattle.log_bits.proofs.lower_bits.Reads as lower-bits-reads
use Rattle.log_bits.proofs.upper_bits.Reads as upper-bits-reads

upper_bits-requires : tie.Need-upper_bits-requires
upper_bits-requires c κs = search rules

returns-then-label-ge8 : tie.Need-returns-then-label-ge8
returns-then-label-ge8 c = simp (le-leb _ _ c.if-label-ge8.true) c.upper_bits.ensures

four_bits-requires : tie.Need-four_bits-requires
four_bits-requires c κs = search rules

returns-then-label-eq4 : tie.Need-returns-then-label-eq4
returns-then-label-eq4 c = simp (lt-leb _ _ c.if-label-ge8.false, eq-eqb _ _ c.if-label-eq4.true) c.four_bits.ensures

lower_bits-requires : tie.Need-lower_bits-requires
lower_bits-requires c κs = search rules

returns : tie.Need-returns
returns c = simp (lt-leb _ _ c.if-label-ge8.false, ne_eqb _ _ c.if-label-eq4.false) c.lower_bits.ensures

pub label_bits_spec : {M : Type 1} → statement M
label_bits_spec =
    tie.close
    (tie.spec
    upper_bits-requires
    returns-then-label-ge8
    four_bits-requires
    returns-then-label-eq4
    lower_bits-requires
    returns)
