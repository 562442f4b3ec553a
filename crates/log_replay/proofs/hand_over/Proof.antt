use mathlib.Core.Path.{refl}
use borrow.Author.Rules.{rules}
use Rattle.log_replay.proofs.hand_over.Statement.{statement}
use Rattle.log_replay.proofs.hand_over.Tie as tie

copy-requires : tie.Need-copy-requires
copy-requires c κs = search rules

overflow_cast-result : tie.Need-overflow_cast-result
overflow_cast-result c = search rules

overflow_cast-result-2 : tie.Need-overflow_cast-result-2
overflow_cast-result-2 c = search rules

overflow_cast-result-3 : tie.Need-overflow_cast-result-3
overflow_cast-result-3 c = search rules

shape_of-out : tie.Need-shape_of-out
shape_of-out c = search rules

returns : tie.Need-returns
returns c = (refl, c.copy.ensures)

pub hand_over_spec : {M : Type 1} → statement M
hand_over_spec = tie.close (tie.spec copy-requires overflow_cast-result overflow_cast-result-2 overflow_cast-result-3 shape_of-out returns)
