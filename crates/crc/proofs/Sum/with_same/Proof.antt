use Rattle.crc.proofs.Sums.{summed_true, summed_false}
use Rattle.crc.specs.Running.{same}
use borrow.Author.Rules.{rules}
use Rattle.crc.proofs.Sum.with_same.Statement.{statement}
use Rattle.crc.proofs.Sum.with_same.Tie as tie
use Rattle.crc.proofs.Sum.with_same.Reads as reads
use Rattle.crc.proofs.Sum.with_same.Lts as lts
use Rattle.crc.proofs.Sum.add_same.Reads as add-same-reads

add_same-requires : tie.Need-add_same-requires
add_same-requires c κs = search rules

returns-then-crc : tie.Need-returns-then-crc
returns-then-crc c = summed_true c.if-crc.true c.add_same.ensures

returns-else-crc : tie.Need-returns-else-crc
returns-else-crc c = summed_false (same c.args.word c.args.times) c.if-crc.false c.requires.0

pub with_same_spec : {M : Type 1} → statement M
with_same_spec = tie.close (tie.spec add_same-requires returns-then-crc returns-else-crc)
