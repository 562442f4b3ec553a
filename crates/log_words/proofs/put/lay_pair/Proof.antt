use Rattle.log_words.specs.Laid as laid
use mathlib.Core.Path.{refl}
use native.Mathlib.Omega.{arith}
use borrow.Author.Rules.{rules}
use Rattle.log_words.proofs.put.lay_pair.Statement.{statement}
use Rattle.log_words.proofs.put.lay_pair.Tie as tie

fault-requires : tie.Need-fault-requires
fault-requires c κs = search rules

returns-then-total-fields : tie.Need-returns-then-total-fields
returns-then-total-fields c =
    laid.short c.if-total-fields.true c.fault.ensures refl

put_syllables-next-requires : tie.Need-put_syllables-next-requires
put_syllables-next-requires c κs = search rules

shape_of-words-then-stands : tie.Need-shape_of-words-then-stands
shape_of-words-then-stands c = search rules

returns-then-stands : tie.Need-returns-then-stands
returns-then-stands c =
    laid.put c.if-total-fields.false c.if-stands.true refl refl refl c.put_syllables-next.ensures

fault-requires-2 : tie.Need-fault-requires-2
fault-requires-2 c κs = search rules

returns : tie.Need-returns
returns c =
    laid.misplaced c.if-total-fields.false c.if-stands.false c.fault-2.ensures refl

pub lay_pair_spec : {M : Type 1} → statement M
lay_pair_spec =
    tie.close
    (tie.spec
    fault-requires
    returns-then-total-fields
    put_syllables-next-requires
    shape_of-words-then-stands
    returns-then-stands
    fault-requires-2
    returns)
