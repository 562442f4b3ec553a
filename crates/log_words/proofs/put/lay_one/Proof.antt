use Rattle.log_words.specs.Laid as laid
use mathlib.Core.Path.{refl}
use native.Mathlib.Omega.{arith}
use borrow.Author.Rules.{rules}
use Rattle.log_words.proofs.put.lay_one.Statement.{statement}
use Rattle.log_words.proofs.put.lay_one.Tie as tie

fault-requires : tie.Need-fault-requires
fault-requires c κs = search rules

returns-then-total-at : tie.Need-returns-then-total-at
returns-then-total-at c =
    laid.short c.if-total-at.true c.fault.ensures refl

put-next-requires : tie.Need-put-next-requires
put-next-requires c κs = search rules

shape_of-words-then-stands : tie.Need-shape_of-words-then-stands
shape_of-words-then-stands c = search rules

returns-then-stands : tie.Need-returns-then-stands
returns-then-stands c =
    laid.put c.if-total-at.false c.if-stands.true refl refl refl c.put-next.ensures

fault-requires-2 : tie.Need-fault-requires-2
fault-requires-2 c κs = search rules

returns : tie.Need-returns
returns c =
    laid.misplaced c.if-total-at.false c.if-stands.false c.fault-2.ensures refl

pub lay_one_spec : {M : Type 1} → statement M
lay_one_spec =
    tie.close
    (tie.spec fault-requires returns-then-total-at put-next-requires shape_of-words-then-stands returns-then-stands fault-requires-2 returns)
