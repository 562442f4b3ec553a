use mathlib.Core.Path.{refl}
use native.Mathlib.Omega.{arith}
use Rattle.data_start.specs.Opening.{opens}
use Rattle.data_start.proofs.Openers.{on_429_syllable}
use borrow.Author.Rules.{rules}
use Rattle.data_start.proofs.opens_on_429.Statement.{statement}
use Rattle.data_start.proofs.opens_on_429.Tie as tie

returns-then-label-eq4 : tie.Need-returns-then-label-eq4
unfolding opens
returns-then-label-eq4 c = rw c.if-label-eq4.true refl

opens_on_either-requires : tie.Need-opens_on_either-requires
opens_on_either-requires c κs = search rules

returns-then-label-lt8 : tie.Need-returns-then-label-lt8
returns-then-label-lt8 c = c.opens_on_either.ensures.1

overflow_mul-result : tie.Need-overflow_mul-result
overflow_mul-result c = search rules

returns : tie.Need-returns
returns c = on_429_syllable _ (omega (arith, c.if-label-lt8.false)) c.requires

pub opens_on_429_spec : {M : Type 1} → statement M
opens_on_429_spec =
    tie.close (tie.spec returns-then-label-eq4 opens_on_either-requires returns-then-label-lt8 overflow_mul-result returns)
