use Rattle.crc.proofs.Sums.{summed_true, summed_false}
use mathlib.Core.List.{[], ◌∷◌}
use borrow.Author.Rules.{rules}
use Rattle.crc.proofs.Sum.with_one.Statement.{statement}
use Rattle.crc.proofs.Sum.with_one.Tie as tie
use Rattle.crc.proofs.Sum.with_one.Reads as reads
use Rattle.crc.proofs.Sum.with_one.Lts as lts
use Rattle.crc.proofs.Sum.add.Reads as add_reads

add-requires : tie.Need-add-requires
add-requires c κs = search rules

returns-then-crc : tie.Need-returns-then-crc
returns-then-crc c = summed_true c.if-crc.true c.add.ensures

returns-else-crc : tie.Need-returns-else-crc
returns-else-crc c = summed_false (c.args.word ∷ []) c.if-crc.false c.requires.0

pub with_one_spec : {M : Type 1} → statement M
with_one_spec = tie.close (tie.spec add-requires returns-then-crc returns-else-crc)
