use native.Mathlib.Omega.{arith}
use borrow.Author.Rules.{rules}
use Rattle.log_replay.proofs.replay_sized.Statement.{statement}
use Rattle.log_replay.proofs.replay_sized.Tie as tie

slice_bounds-replay_in-end : tie.Need-slice_bounds-replay_in-end
slice_bounds-replay_in-end c = search rules

replay_in-requires : tie.Need-replay_in-requires
replay_in-requires c κs = (c.requires, λ h. omega (arith, c.if-out-le1024.true))

shape_of-out-then-out-le1024 : tie.Need-shape_of-out-then-out-le1024
shape_of-out-then-out-le1024 c = search rules

returns-then-out-le1024 : tie.Need-returns-then-out-le1024
returns-then-out-le1024 c = c.replay_in.ensures

slice_bounds-replay_in-end-2 : tie.Need-slice_bounds-replay_in-end-2
slice_bounds-replay_in-end-2 c = search rules

replay_in-requires-2 : tie.Need-replay_in-requires-2
replay_in-requires-2 c κs = (c.requires, λ h. absurd (omega (arith, h)))

shape_of-out : tie.Need-shape_of-out
shape_of-out c = search rules

returns : tie.Need-returns
returns c = c.replay_in-2.ensures

pub replay_sized_spec : {M : Type 1} → statement M
replay_sized_spec =
    tie.close
    (tie.spec
    slice_bounds-replay_in-end
    replay_in-requires
    shape_of-out-then-out-le1024
    returns-then-out-le1024
    slice_bounds-replay_in-end-2
    replay_in-requires-2
    shape_of-out
    returns)
