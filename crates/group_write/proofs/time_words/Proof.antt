use Rattle.format.specs.Group.{time_words}
use borrow.Author.Rules.{rules}
use Rattle.group_write.proofs.time_words.Statement.{statement}
use Rattle.group_write.proofs.time_words.Tie as tie

time_parts-parts-requires : tie.Need-time_parts-parts-requires
time_parts-parts-requires c κs = search rules

overflow_cast-parts : tie.Need-overflow_cast-parts
overflow_cast-parts c = search rules

join-requires : tie.Need-join-requires
join-requires c κs = search rules

overflow_cast-parts-2 : tie.Need-overflow_cast-parts-2
overflow_cast-parts-2 c = search rules

join-requires-2 : tie.Need-join-requires-2
join-requires-2 c κs = search rules

overflow_cast-parts-3 : tie.Need-overflow_cast-parts-3
overflow_cast-parts-3 c = search rules

join-requires-3 : tie.Need-join-requires-3
join-requires-3 c κs = search rules

returns : tie.Need-returns
unfolding time_words
returns c = rw (c.join.ensures, c.join-2.ensures, c.join-3.ensures, c.time_parts-parts.ensures)

pub time_words_spec : {M : Type 1} → statement M
time_words_spec =
    tie.close
    (tie.spec
    time_parts-parts-requires
    overflow_cast-parts
    join-requires
    overflow_cast-parts-2
    join-requires-2
    overflow_cast-parts-3
    join-requires-3
    returns)
