use Rattle.format.specs.Plan.{is_used}
use Rattle.format.proofs.is_used.Goals as goal

pub returns-in-Unused : goal.returns-in-Unused
unfolding is_used
returns-in-Unused c = rw c.in-Unused.is

pub returns-in-Mil1553 : goal.returns-in-Mil1553
unfolding is_used
returns-in-Mil1553 c = rw c.in-Mil1553.is

pub returns-in-Arinc429 : goal.returns-in-Arinc429
unfolding is_used
returns-in-Arinc429 c = rw c.in-Arinc429.is
