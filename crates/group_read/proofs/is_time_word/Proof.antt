use Rattle.group_read.specs.Faults.{is_time_word}
use borrow.Author.Tests.{eq-eqb, ne_eqb}
use borrow.Author.Rules.{rules}
use Rattle.group_read.proofs.is_time_word.Statement.{statement}
use Rattle.group_read.proofs.is_time_word.Tie as tie

bus_of-requires : tie.Need-bus_of-requires
bus_of-requires c κs = search rules

returns-then-bus_of-ne0 : tie.Need-returns-then-bus_of-ne0
unfolding is_time_word
returns-then-bus_of-ne0 c = rw (← c.bus_of.ensures, ne_eqb _ _ c.if-bus_of-ne0.true)

label_of-requires : tie.Need-label_of-requires
label_of-requires c κs = search rules

returns-then-label_of-label : tie.Need-returns-then-label_of-label
unfolding is_time_word
returns-then-label_of-label c = rw (← c.bus_of.ensures, eq-eqb _ _ c.if-bus_of-ne0.false, ← c.label_of.ensures, ne_eqb _ _ c.if-label_of-label.true)

information_of-requires : tie.Need-information_of-requires
information_of-requires c κs = search rules

returns : tie.Need-returns
unfolding is_time_word
returns c = rw (← c.bus_of.ensures, eq-eqb _ _ c.if-bus_of-ne0.false, ← c.label_of.ensures, eq-eqb _ _ c.if-label_of-label.false, ← c.information_of.ensures)

pub is_time_word_spec : {M : Type 1} → statement M
is_time_word_spec =
    tie.close
    (tie.spec
    bus_of-requires
    returns-then-bus_of-ne0
    label_of-requires
    returns-then-label_of-label
    information_of-requires
    returns)
