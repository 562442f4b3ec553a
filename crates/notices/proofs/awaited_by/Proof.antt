use native.Mathlib.Omega.{arith}
use Rattle.notices.specs.Quiet.{awaited}
use Rattle.notices.specs.Laws.Rows.{bus_low}
use borrow.Author.Rules.{rules}
use Rattle.notices.proofs.awaited_by.Statement.{statement}
use Rattle.notices.proofs.awaited_by.Tie as tie
use Rattle.notices.proofs.awaited_by.Reads as reads
use Rattle.notices.proofs.awaited_by.Lts as lts
use Rattle.word.proofs.bus_of.Reads as bus-of-reads
use Rattle.word.proofs.information_of.Reads as information-of-reads

bus_of-requires : tie.Need-bus_of-requires
bus_of-requires c κs = search rules

overflow_mul-result : tie.Need-overflow_mul-result
overflow_mul-result c = omega (arith, c.bus_of.ensures, bus_low c.args.parity c.args.notice c.requires)

overflow_add-result : tie.Need-overflow_add-result
overflow_add-result c = omega (arith, c.bus_of.ensures, bus_low c.args.parity c.args.notice c.requires)

information_of-requires : tie.Need-information_of-requires
information_of-requires c κs = search rules

overflow_mul-result-2 : tie.Need-overflow_mul-result-2
overflow_mul-result-2 c = search rules

overflow_add-result-2 : tie.Need-overflow_add-result-2
overflow_add-result-2 c = omega (arith, c.bus_of.ensures, bus_low c.args.parity c.args.notice c.requires)

returns : tie.Need-returns
unfolding awaited
returns c = rw (c.bus_of.ensures, c.information_of.ensures) (omega arith)

pub awaited_by_spec : {M : Type 1} → statement M
awaited_by_spec =
    tie.close
    (tie.spec
    bus_of-requires
    overflow_mul-result
    overflow_add-result
    information_of-requires
    overflow_mul-result-2
    overflow_add-result-2
    returns)
