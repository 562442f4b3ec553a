use Rattle.data_start.specs.Step.{ended}
use Prim.Native.Nat.{ℕ, ◌+◌, ◌*◌, ◌/◌, ◌%◌}
use mathlib.Core.Path.{ap, ◌∙◌}
use native.Mathlib.Omega.{arith}
use Rattle.data_start.proofs.Openers.{moved}
use borrow.Author.Rules.{rules}
use Rattle.data_start.proofs.single.Statement.{statement}
use Rattle.data_start.proofs.single.Tie as tie

overflow_shl-head : tie.Need-overflow_shl-head
overflow_shl-head c = search rules

overflow_add-head : tie.Need-overflow_add-head
overflow_add-head c = let m = moved c.args.bus (c.args.opening % 4) (omega (arith, c.requires.1)) (omega arith) in omega (arith, m.0, m.1)

overflow_mul-head : tie.Need-overflow_mul-head
overflow_mul-head c = let m = moved c.args.bus (c.args.opening % 4) (omega (arith, c.requires.1)) (omega arith) in omega (arith, m.0, m.1)

overflow_add-head-2 : tie.Need-overflow_add-head-2
overflow_add-head-2 c = let m = moved c.args.bus (c.args.opening % 4) (omega (arith, c.requires.1)) (omega arith) in omega (arith, m.0, m.1)

overflow_cast-head : tie.Need-overflow_cast-head
overflow_cast-head c = search rules

overflow_add-behind : tie.Need-overflow_add-behind
overflow_add-behind c = search rules

ends-requires : tie.Need-ends-requires
ends-requires c κs = search rules

returns : tie.Need-returns
returns c =
    let a = c.args in
    let m = moved a.bus (a.opening % 4) (omega (arith, c.requires.1)) (omega arith) in
    c.ends.ensures ∙ ap (λ (x : ℕ). ended 0 0 ((a.opening / 4 + x) * 65536 + a.information) (24 + a.opening % 4)) m.0

pub single_spec : {M : Type 1} → statement M
single_spec =
    tie.close
    (tie.spec overflow_shl-head overflow_add-head overflow_mul-head overflow_add-head-2 overflow_cast-head overflow_add-behind ends-requires returns)
