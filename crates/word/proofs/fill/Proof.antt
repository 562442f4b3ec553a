use Prim.Native.Nat.{◌*◌, ◌^◌, ◌<◌}
use native.Mathlib.Omega.{arith}
use mathlib.Core.Path.{ap, ◌∙◌}
use Rattle.format.specs.Word.{fill, sent}
use Rattle.format.specs.Lawful.{buses}
use Rattle.word.proofs.Below.{buses_few, sent_below, unsent_below, word_below}
use Rattle.word.proofs.fill.Statement.{statement}
use Rattle.word.proofs.fill.Tie as tie

-- where the fields are joined
low : (c : tie.After-join) → c.join.result < buses c.args.parity * 2 ^ 20
low c = rw c.join.ensures (word_below (buses c.args.parity) c.args.bus 1 0xAAAA c.requires (omega arith) (omega arith))

join-requires : tie.Need-join-requires
join-requires c κs = (buses_few c.args.parity c.args.bus c.requires, omega arith, omega arith)

sent-requires : tie.Need-sent-requires
sent-requires c κs = unsent_below c.args.parity c.join.result (low c)

returns : tie.Need-returns
unfolding fill
returns c =
    let j = c.before in (
      c.sent.ensures ∙ ap (sent j.args.parity) j.join.ensures,
      rw c.sent.ensures (sent_below j.args.parity j.join.result (low j)),
    )

pub fill_spec : {M : Type 1} → statement M
fill_spec = tie.close (tie.spec join-requires sent-requires returns)
