use native.Mathlib.Omega.{arith}
use mathlib.Core.Path.{refl}
use Rattle.read_groups.proofs.broken.Statement.{statement}
use Rattle.read_groups.proofs.broken.Tie as tie

overflow_sub-bad : tie.Need-overflow_sub-bad
overflow_sub-bad c = omega (arith, c.requires.2)

stored_place-place-requires : tie.Need-stored_place-place-requires
stored_place-place-requires c κs = (c.requires.0, c.requires.1, omega (arith, c.requires.3))

stored_place-second-requires : tie.Need-stored_place-second-requires
stored_place-second-requires c κs = let s = c.before in (s.requires.0, s.requires.1, s.requires.4)

returns : tie.Need-returns
returns c = rw (c.stored_place-place.ensures, c.stored_place-second.ensures) refl

pub broken_spec : {M : Type 1} → statement M
broken_spec = tie.close (tie.spec overflow_sub-bad stored_place-place-requires stored_place-second-requires returns)
