use Rattle.log_words.proofs.Row.{puts_more}
use native.Mathlib.Omega.{arith}
use borrow.Author.Rules.{rules}
use Rattle.log_words.proofs.put.put_syllables.Statement.{statement}
use Rattle.log_words.proofs.put.put_syllables.Tie as tie

-- where the two words were made, the first one put, and the function's entry
abbrev first : tie.After-put → tie.After-put-next
first c = c.before.before.before.before

abbrev low : tie.After-put-next → tie.After-join-low
low c = c.before.before

abbrev high : tie.After-join-low → tie.After-join-high
high c = c.before.before.before

abbrev entry : tie.After-join-high → tie.Start
entry c = c.before.before.before.before

high_label-requires : tie.Need-high_label-requires
high_label-requires c κs = search rules

join-high-requires : tie.Need-join-high-requires
join-high-requires c κs = search rules

low_label-requires : tie.Need-low_label-requires
low_label-requires c κs = search rules

join-low-requires : tie.Need-join-low-requires
join-low-requires c κs = search rules

put-next-requires : tie.Need-put-next-requires
put-next-requires c κs = search rules

put-requires : tie.Need-put-requires
put-requires c κs = search rules

shape_of-words : tie.Need-shape_of-words
shape_of-words c = search rules

returns : tie.Need-returns
returns c =
    let two = c.before.before in
    let one = first two in
    let b = low one in
    let a = high b in
    rw (← b.low_label.ensures, ← a.high_label.ensures, ← a.join-high.ensures, ← b.join-low.ensures)
    (puts_more one.put-next.ensures two.put.ensures (omega (arith, (entry a).requires)))

pub put_syllables_spec : {M : Type 1} → statement M
put_syllables_spec =
    tie.close
    (tie.spec
    high_label-requires
    join-high-requires
    low_label-requires
    join-low-requires
    put-next-requires
    put-requires
    shape_of-words
    returns)
