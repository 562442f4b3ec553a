use native.Mathlib.Omega.{arith}
use mathlib.Core.Path.{ap, sym, ◌∙◌}
use lib.Bits.{bit_and, and_le_l}
use borrow.Author.Rules.{rules}
use Rattle.notices.proofs.with_bus.Statement.{statement}
use Rattle.notices.proofs.with_bus.Tie as tie
use Rattle.notices.proofs.with_bus.Reads as reads
use Rattle.notices.proofs.with_bus.Lts as lts
use Rattle.notices.proofs.is_arinc.Reads as is-arinc-reads
use Rattle.notices.proofs.side.Reads as side-reads

is_arinc-requires : tie.Need-is_arinc-requires
is_arinc-requires c κs = search rules

side-requires : tie.Need-side-requires
side-requires c κs = search rules

returns-then-is_arinc : tie.Need-returns-then-is_arinc
returns-then-is_arinc c =
    let a = c.args in
    let n = c.side.result in (
      rw (← c.is_arinc.ensures, c.if-is_arinc.true) (ap (bit_and a.bits) c.side.ensures.0),
      omega (arith, and_le_l a.bits n, c.requires.0),
    )

returns : tie.Need-returns
returns c = search rules

pub with_bus_spec : {M : Type 1} → statement M
with_bus_spec = tie.close (tie.spec is_arinc-requires side-requires returns-then-is_arinc returns)
