use borrow.Author.Rules.{rules}
use Rattle.plan.proofs.parity_fits.Statement.{statement}
use Rattle.plan.proofs.parity_fits.Tie as tie

used_buses-requires : tie.Need-used_buses-requires
used_buses-requires c κs = search rules

returns-then-parity : tie.Need-returns-then-parity
returns-then-parity c = rw (c.if-parity.true, c.used_buses.ensures)

returns : tie.Need-returns
returns c = search rules

pub parity_fits_spec : {M : Type 1} → statement M
parity_fits_spec = tie.close (tie.spec used_buses-requires returns-then-parity returns)
