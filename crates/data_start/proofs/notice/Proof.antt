use Prim.Native.Nat.{◌/◌, ◌%◌}
use mathlib.Core.Path.{◌∙◌}
use native.Mathlib.Omega.{arith}
use Rattle.data_start.proofs.Begun.{pair_labels, notice_ends}
use borrow.Author.Rules.{rules}
use Rattle.data_start.proofs.notice.Statement.{statement}
use Rattle.data_start.proofs.notice.Tie as tie

overflow_sub-channel : tie.Need-overflow_sub-channel
overflow_sub-channel c = let k = pair_labels (c.args.information / 4096) (c.args.information / 256 % 16) (omega arith) c.requires.2 in search (rules, k.0)

overflow_add-bus : tie.Need-overflow_add-bus
overflow_add-bus c = search rules

overflow_mul-bus : tie.Need-overflow_mul-bus
overflow_mul-bus c = search rules

overflow_add-bus-2 : tie.Need-overflow_add-bus-2
overflow_add-bus-2 c = search rules

overflow_mul-bus-2 : tie.Need-overflow_mul-bus-2
overflow_mul-bus-2 c = search rules

overflow_add-bus-3 : tie.Need-overflow_add-bus-3
overflow_add-bus-3 c = search rules

overflow_cast-bus : tie.Need-overflow_cast-bus
overflow_cast-bus c = search rules

ends-requires : tie.Need-ends-requires
ends-requires c κs = search rules

returns : tie.Need-returns
returns c = λ held. c.ends.ensures ∙ notice_ends held _ _ _ _ (omega arith) c.requires.2

pub notice_spec : {M : Type 1} → statement M
notice_spec =
    tie.close
    (tie.spec
    overflow_sub-channel
    overflow_add-bus
    overflow_mul-bus
    overflow_add-bus-2
    overflow_mul-bus-2
    overflow_add-bus-3
    overflow_cast-bus
    ends-requires
    returns)
