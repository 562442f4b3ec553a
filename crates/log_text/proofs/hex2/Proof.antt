use borrow.Author.Rules.{rules}
use Rattle.log_text.proofs.Digits.{hex_two}
use Rattle.log_text.proofs.Adding.{adds_same, adds_then}
use Rattle.log_text.proofs.hex2.Statement.{statement}
use Rattle.log_text.proofs.hex2.Tie as tie

digit-requires : tie.Need-digit-requires
digit-requires c κs = search rules

put-next-requires : tie.Need-put-next-requires
put-next-requires c κs = search rules

digit-requires-2 : tie.Need-digit-requires-2
digit-requires-2 c κs = search rules

put-requires : tie.Need-put-requires
put-requires c κs = search rules

shape_of-out : tie.Need-shape_of-out
shape_of-out c = search rules

returns : tie.Need-returns
returns c =
    let low = c.before.before in
    let high = low.before.before.before.before.before in
    adds_same (adds_then high.put-next.ensures low.put.ensures)
    (rw (high.digit.ensures, low.digit-2.ensures, hex_two high.args.n))

pub hex2_spec : {M : Type 1} → statement M
hex2_spec = tie.close (tie.spec digit-requires put-next-requires digit-requires-2 put-requires shape_of-out returns)
