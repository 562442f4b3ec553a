use mathlib.Core.Path.{sym}
use mathlib.Core.List.{[]}
use lib.Dec.{lit<}
use Rattle.format.specs.Word.{ones}
use Rattle.crc.specs.Running.{check_from}
use Rattle.crc.specs.Sum.{check_of_sum}
use Rattle.crc.proofs.Running.{check_is_from}
use Rattle.crc.proofs.Sum.start.Statement.{statement}
use Rattle.crc.proofs.Sum.start.Tie as tie

returns : tie.Need-returns
unfolding check_of_sum ones check_from
returns c = record { small = (lit< tt, lit< tt); check = sym (check_is_from []) }

pub start_spec : {M : Type 1} → statement M
start_spec = tie.close (tie.spec returns)
