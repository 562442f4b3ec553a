use Rattle.format.specs.Group.{group_time}
use borrow.Author.Rules.{rules}
use Rattle.group_read.proofs.group_time.Statement.{statement}
use Rattle.group_read.proofs.group_time.Tie as tie

time_information-requires : tie.Need-time_information-requires
time_information-requires c κs = search rules

time_information-requires-2 : tie.Need-time_information-requires-2
time_information-requires-2 c κs = search rules

time_information-requires-3 : tie.Need-time_information-requires-3
time_information-requires-3 c κs = search rules

time_number-requires : tie.Need-time_number-requires
time_number-requires c κs = search rules

returns : tie.Need-returns
unfolding group_time
returns c = search rules

pub group_time_spec : {M : Type 1} → statement M
group_time_spec =
    tie.close
    (tie.spec
    time_information-requires
    time_information-requires-2
    time_information-requires-3
    time_number-requires
    returns)
