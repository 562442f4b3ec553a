use mathlib.Core.Path.{refl}
use borrow.Author.Rules.{rules}
use Rattle.group_read.specs.Faults.{word_number, last_number}
use Rattle.group_read.proofs.last_number.Statement.{statement}
use Rattle.group_read.proofs.last_number.Tie as tie

stored_word-word-requires : tie.Need-stored_word-word-requires
stored_word-word-requires c κs = search rules

parity_number-even-requires : tie.Need-parity_number-even-requires
parity_number-even-requires c κs = search rules

check-requires : tie.Need-check-requires
check-requires c κs = search rules

check_number-check-requires : tie.Need-check_number-check-requires
check_number-check-requires c κs = search rules

earlier_number-requires : tie.Need-earlier_number-requires
earlier_number-requires c κs = search rules

returns-then-plan : tie.Need-returns-then-plan
unfolding last_number word_number
returns-then-plan c =
    let checked = c.before in
    let summed = checked.before in
    let even = summed.before in
    let stored = even.before in
    rw (stored.if-plan.true, ← stored.stored_word-word.ensures.0, ← summed.check.ensures.0, ← even.parity_number-even.ensures, ← checked.check_number-check.ensures)
    c.earlier_number.ensures

returns : tie.Need-returns
unfolding last_number
returns c = rw c.if-plan.false refl

pub last_number_spec : {M : Type 1} → statement M
last_number_spec =
    tie.close
    (tie.spec stored_word-word-requires parity_number-even-requires check-requires check_number-check-requires earlier_number-requires returns-then-plan returns)
