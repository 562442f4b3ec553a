use borrow.Author.Rules.{rules}
use native.Mathlib.Omega.{arith}
use native.Mathlib.Nat.{mul-le-mul_left}
use Prim.Native.Nat.{ℕ, ◌/◌}
use Rattle.format.specs.Laws.Limits.{group_most}
use Rattle.stream_group.proofs.Row.{stored_is}
use Rattle.stream_group.proofs.stored_of.Statement.{statement}
use Rattle.stream_group.proofs.stored_of.Tie as tie
use Rattle.stream_group.proofs.stored_of.Reads as reads
use Rattle.stream_group.proofs.stored_of.Lts as lts
use Rattle.group_read.proofs.place_of.Reads as place-of-reads

overflow_sub-dealt : tie.Need-overflow_sub-dealt
overflow_sub-dealt c = search rules

overflow_mul-size : tie.Need-overflow_mul-size
overflow_mul-size c = omega (arith, group_most _ c.requires.0)

overflow_mul-result : tie.Need-overflow_mul-result
overflow_mul-result c = omega (arith, c.requires.3, mul-le-mul_left (c.args.number / 2048) (group_most _ c.requires.0))

place_of-requires : tie.Need-place_of-requires
place_of-requires c κs = search rules

overflow_add-result : tie.Need-overflow_add-result
overflow_add-result c = let s = c.before.before in omega (arith, c.place_of.ensures.1, s.requires.3, mul-le-mul_left (s.args.number / 2048) (group_most _ s.requires.0), group_most _ s.requires.0)

returns : tie.Need-returns
returns c = let s = c.before.before in stored_is s.args.plan s.args.number c.place_of.result s.requires.1 c.place_of.ensures.0

pub stored_of_spec : {M : Type 1} → statement M
stored_of_spec =
    tie.close (tie.spec overflow_sub-dealt overflow_mul-size overflow_mul-result place_of-requires overflow_add-result returns)
