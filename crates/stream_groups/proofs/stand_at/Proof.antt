use native.Mathlib.Nat.{mod-lt}
use native.Mathlib.Omega.{arith}
use mathlib.Core.Path.{refl}
use Prim.Native.Nat.{ℕ}
use lib.Pow.{pow_pos}
use Rattle.stream_state.proofs.Sizes.{shifted}
use Rattle.stream_groups.proofs.Groups.{pow_low}
use borrow.Author.Rules.{rules}
use Rattle.stream_groups.proofs.stand_at.Statement.{statement}
use Rattle.stream_groups.proofs.stand_at.Tie as tie

overflow_cast-left : tie.Need-overflow_cast-left
overflow_cast-left c = search rules

overflow_cast-result : tie.Need-overflow_cast-result
overflow_cast-result c = search rules

overflow_shl-result : tie.Need-overflow_shl-result
overflow_shl-result c = search rules

nonzero_rem-result : tie.Need-nonzero_rem-result
nonzero_rem-result c = let s = c.before.before.before in rw (shifted s.args.along.pen.bits s.requires) (pow_pos s.args.along.pen.bits)

overflow_cast-result-2 : tie.Need-overflow_cast-result-2
overflow_cast-result-2 c =
    let s = c.before.before.before in
    let n : ℕ = s.args.along.pen.bits in
    rw (shifted n s.requires) (omega (arith, mod-lt s.args.along.pen.last (pow_pos n), pow_low n s.requires))

returns : tie.Need-returns
returns c = let s = c.before.before.before in rw (shifted s.args.along.pen.bits s.requires) refl

pub stand_at_spec : {M : Type 1} → statement M
stand_at_spec = tie.close (tie.spec overflow_cast-left overflow_cast-result overflow_shl-result nonzero_rem-result overflow_cast-result-2 returns)
