use Rattle.crc.proofs.Sums.{summed_true, summed_false}
use mathlib.Core.List.{[], ◌∷◌}
use borrow.Author.Rules.{rules}
use Rattle.crc.proofs.Sum.with_two.Statement.{statement}
use Rattle.crc.proofs.Sum.with_two.Tie as tie
use Rattle.crc.proofs.Sum.with_two.Reads as reads
use Rattle.crc.proofs.Sum.with_two.Lts as lts
use Rattle.crc.proofs.Sum.add_two.Reads as add-two-reads

add_two-requires : tie.Need-add_two-requires
add_two-requires c κs = search rules

returns-then-crc : tie.Need-returns-then-crc
returns-then-crc c = summed_true c.if-crc.true c.add_two.ensures

returns-else-crc : tie.Need-returns-else-crc
returns-else-crc c = summed_false (c.args.one ∷ c.args.two ∷ []) c.if-crc.false c.requires.0

pub with_two_spec : {M : Type 1} → statement M
with_two_spec = tie.close (tie.spec add_two-requires returns-then-crc returns-else-crc)
