use mathlib.Core.Path.{◌∙◌}
use borrow.Author.Rules.{rules}
use Rattle.group_read.proofs.time_word_fault.Statement.{statement}
use Rattle.group_read.proofs.time_word_fault.Tie as tie

stored_word-requires : tie.Need-stored_word-requires
stored_word-requires c κs = search rules

is_time_word-requires : tie.Need-is_time_word-requires
is_time_word-requires c κs = search rules

no_fault-requires : tie.Need-no_fault-requires
no_fault-requires c κs = search rules

returns-then-is_time_word : tie.Need-returns-then-is_time_word
returns-then-is_time_word c = c.no_fault.ensures ∙ rw (← c.stored_word.ensures.0, ← c.is_time_word.ensures, c.if-is_time_word.true)

returns : tie.Need-returns
returns c = rw (← c.stored_word.ensures.0, ← c.is_time_word.ensures, c.if-is_time_word.false)

pub time_word_fault_spec : {M : Type 1} → statement M
time_word_fault_spec =
    tie.close
    (tie.spec stored_word-requires is_time_word-requires no_fault-requires returns-then-is_time_word returns)
