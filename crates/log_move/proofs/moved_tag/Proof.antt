use mir.Facts.{to_z-of_z}
use borrow.Author.Tests.{eq-eqb, ne_eqb}
use mathlib.Core.Path.{refl}
use native.Mathlib.Omega.{arith}
use borrow.Author.Rules.{rules}
use Rattle.log_move.proofs.moved_tag.Statement.{statement}
use Rattle.log_move.proofs.moved_tag.Tie as tie
use Rattle.log_move.proofs.moved_tag.Reads as reads
use Rattle.log_move.proofs.moved_tag.Lts as lts
use Rattle.log_move.proofs.moved_by.Reads as moved-by-reads

returns-then-item-ne46 : tie.Need-returns-then-item-ne46
returns-then-item-ne46 c = rw (ne_eqb _ _ c.if-item-ne46.true) refl

overflow_mul-item : tie.Need-overflow_mul-item
overflow_mul-item c = search rules

overflow_add-item : tie.Need-overflow_add-item
overflow_add-item c = search rules

moved_by-requires : tie.Need-moved_by-requires
moved_by-requires c κs = search rules

returns : tie.Need-returns
returns c = rw (eq-eqb _ _ c.if-item-ne46.false) (rw (to_z-of_z c.ranges.by) at c.moved_by.ensures)

pub moved_tag_spec : {M : Type 1} → statement M
moved_tag_spec = tie.close (tie.spec returns-then-item-ne46 overflow_mul-item overflow_add-item moved_by-requires returns)
