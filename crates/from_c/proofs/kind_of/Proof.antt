use borrow.Author.Tests.{ne_eqb}
use Rattle.from_c.proofs.kind_of.Statement.{statement}
use Rattle.from_c.proofs.kind_of.Tie as tie

returns-in-1 : tie.Need-returns-in-1
returns-in-1 c = rw c.in-1.is

returns-in-2 : tie.Need-returns-in-2
returns-in-2 c = rw c.in-2.is

returns-in_default : tie.Need-returns-in_default
returns-in_default c = simp (ne_eqb _ _ c.in_default.in_default-own.rest.1, ne_eqb _ _ c.in_default.in_default-own.rest.0.1)

pub kind_of_spec : {M : Type 1} → statement M
kind_of_spec = tie.close (tie.spec returns-in-1 returns-in-2 returns-in_default)
