use Prim.Native.Nat.{◌^◌, ◌<◌}
use native.Mathlib.Omega.{arith}
use borrow.Author.Rules.{rules}
use Rattle.word.proofs.Below.{sent_below, unsent_below}
use Rattle.group_write.proofs.put_row.Statement.{statement}
use Rattle.group_write.proofs.put_row.Tie as tie

low : (c : tie.After-sent-sent) → c.sent-sent.result < 2 ^ 24
low c = rw c.sent-sent.ensures (sent_below c.args.parity c.args.word c.requires.2)

sent-sent-requires : tie.Need-sent-sent-requires
sent-sent-requires c κs = unsent_below c.args.parity c.args.word c.requires.2

overflow_mul-row : tie.Need-overflow_mul-row
overflow_mul-row c = search rules

put_word-requires : tie.Need-put_word-requires
put_word-requires c κs = (omega (arith, c.requires.0), low c.before)

shape_of-out : tie.Need-shape_of-out
shape_of-out c = search rules

returns : tie.Need-returns
returns c = (c.sent-sent.ensures, low c.before.before.before.before, c.put_word.ensures)

pub put_row_spec : {M : Type 1} → statement M
put_row_spec = tie.close (tie.spec sent-sent-requires overflow_mul-row put_word-requires shape_of-out returns)
