use mathlib.Core.Path.{refl}
use borrow.Author.Rules.{rules}
use Rattle.stream_state.proofs.no_stand.Statement.{statement}
use Rattle.stream_state.proofs.no_stand.Tie as tie
use Rattle.stream_state.proofs.no_stand.Reads as reads
use Rattle.stream_state.proofs.no_stand.Lts as lts
use Rattle.data_start.proofs.nothing.Reads as nothing-reads
use Rattle.from_c.proofs.plan_from.Reads as plan-from-reads

plan_from-requires : tie.Need-plan_from-requires
plan_from-requires c κs = search rules

nothing-requires : tie.Need-nothing-requires
nothing-requires c κs = search rules

returns : tie.Need-returns
returns c = rw (c.plan_from.ensures, c.nothing.ensures) refl

pub no_stand_spec : {M : Type 1} → statement M
no_stand_spec = tie.close (tie.spec plan_from-requires nothing-requires returns)
