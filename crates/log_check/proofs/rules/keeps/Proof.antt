use borrow.Author.Tests.{ne_eqb}
use mathlib.Core.Path.{refl}
use borrow.Author.Rules.{rules}
use Rattle.log_check.proofs.rules.keeps.Statement.{statement}
use Rattle.log_check.proofs.rules.keeps.Tie as tie

licence-requires : tie.Need-licence-requires
licence-requires c κs = search rules

returns-in-0 : tie.Need-returns-in-0
returns-in-0 c = rw c.in-0.is refl

returns-in-1 : tie.Need-returns-in-1
returns-in-1 c = rw c.in-1.is refl

returns-in-2 : tie.Need-returns-in-2
returns-in-2 c = rw c.in-2.is c.licence.ensures

returns-in_default : tie.Need-returns-in_default
returns-in_default c = simp (ne_eqb _ _ c.in_default.in_default-own.rest.1, ne_eqb _ _ c.in_default.in_default-own.rest.0.1, ne_eqb _ _ c.in_default.in_default-own.rest.0.0.1)

pub keeps_spec : {M : Type 1} → statement M
keeps_spec = tie.close (tie.spec licence-requires returns-in-0 returns-in-1 returns-in-2 returns-in_default)
