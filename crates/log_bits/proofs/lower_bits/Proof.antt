use native.Mathlib.Omega.{arith}
use borrow.Author.Tests.{le-ltb}
use borrow.Author.Tests.{eq-eqb, ne_eqb, lt-ltb, le-ltb, le-leb, lt-leb}
use borrow.Author.Rules.{rules}
use Rattle.log_bits.proofs.lower_bits.Statement.{statement}
use Rattle.log_bits.proofs.lower_bits.Tie as tie
use Rattle.log_bits.proofs.lower_bits.Reads as reads
use Rattle.log_bits.proofs.lower_bits.Lts as lts

returns-in-0 : tie.Need-returns-in-0
returns-in-0 c = simp c.in-0.is

returns-in-1 : tie.Need-returns-in-1
returns-in-1 c = simp c.in-1.is

returns-in-2 : tie.Need-returns-in-2
returns-in-2 c = simp c.in-2.is

returns-in-3 : tie.Need-returns-in-3
returns-in-3 c = simp c.in-3.is

returns-in-5 : tie.Need-returns-in-5
returns-in-5 c = simp c.in-5.is

returns-in_default : tie.Need-returns-in_default
returns-in_default c =
    let r = c.in_default.in_default-own.rest in
    let l = c.args.label in
    rw (ne_eqb l 0 r.0.0.0.0.1, le-ltb l 4 (omega (arith, r.0.0.0.0.1, r.0.0.0.1, r.0.0.1, r.0.1)), ne_eqb l 5 r.1)

pub lower_bits_spec : {M : Type 1} → statement M
lower_bits_spec = tie.close (tie.spec returns-in-0 returns-in-1 returns-in-2 returns-in-3 returns-in-5 returns-in_default)
