use Rattle.log_words.specs.Laid as laid
use mathlib.Core.Path.{refl}
use native.Mathlib.Omega.{arith}
use borrow.Author.Rules.{rules}
use Rattle.log_words.proofs.put.lay_tagged.Statement.{statement}
use Rattle.log_words.proofs.put.lay_tagged.Tie as tie

overflow_mul-log : tie.Need-overflow_mul-log
overflow_mul-log c = search rules

overflow_add-tag : tie.Need-overflow_add-tag
overflow_add-tag c = search rules

fault-requires : tie.Need-fault-requires
fault-requires c κs = search rules

-- where the words before the tag were put
abbrev first : tie.After-lay_tag → tie.After-put-next
first c = c.before.before.before.before

returns-then-log-tag : tie.Need-returns-then-log-tag
returns-then-log-tag c =
    laid.short c.if-log-tag.true c.fault.ensures refl

put-next-requires : tie.Need-put-next-requires
put-next-requires c κs = search rules

lay_tag-requires : tie.Need-lay_tag-requires
lay_tag-requires c κs = search rules

shape_of-words-then-stands : tie.Need-shape_of-words-then-stands
shape_of-words-then-stands c = search rules

returns-then-stands : tie.Need-returns-then-stands
returns-then-stands c =
    let t = c.before.before in
    let w = first t in
    laid.put w.if-log-tag.false w.if-stands.true _ _ w.put-next.ensures t.lay_tag.ensures

fault-requires-2 : tie.Need-fault-requires-2
fault-requires-2 c κs = search rules

returns : tie.Need-returns
returns c =
    laid.misplaced c.if-log-tag.false c.if-stands.false c.fault-2.ensures refl

pub lay_tagged_spec : {M : Type 1} → statement M
lay_tagged_spec =
    tie.close
    (tie.spec
    overflow_mul-log
    overflow_add-tag
    fault-requires
    returns-then-log-tag
    put-next-requires
    lay_tag-requires
    shape_of-words-then-stands
    returns-then-stands
    fault-requires-2
    returns)
