use Rattle.format.specs.Laws.Bits.{length_bytes}
use borrow.Author.Rules.{rules}
use Rattle.log_words.proofs.item.lay_item.Statement.{statement}
use Rattle.log_words.proofs.item.lay_item.Tie as tie

overflow_mul-log : tie.Need-overflow_mul-log
overflow_mul-log c = search rules

lay_data-requires : tie.Need-lay_data-requires
lay_data-requires c κs = search rules

shape_of-words-then-number-eq3 : tie.Need-shape_of-words-then-number-eq3
shape_of-words-then-number-eq3 c = search rules

returns-then-number-eq3 : tie.Need-returns-then-number-eq3
returns-then-number-eq3 c =
    let l = c.before.before in
    λ ks p g b. rw l.if-number-eq3.true (l.lay_data.ensures _ (length_bytes _) ks p g b)

lay_arinc-requires : tie.Need-lay_arinc-requires
lay_arinc-requires c κs = search rules

shape_of-words-then-number-eq5 : tie.Need-shape_of-words-then-number-eq5
shape_of-words-then-number-eq5 c = search rules

returns-then-number-eq5 : tie.Need-returns-then-number-eq5
returns-then-number-eq5 c =
    let l = c.before.before in
    λ ks p g b. rw l.if-number-eq5.true (l.lay_arinc.ensures ks p g b)

lay_other-requires : tie.Need-lay_other-requires
lay_other-requires c κs = search rules

shape_of-words : tie.Need-shape_of-words
shape_of-words c = search rules

returns : tie.Need-returns
returns c =
    c.lay_other.ensures

pub lay_item_spec : {M : Type 1} → statement M
lay_item_spec =
    tie.close
    (tie.spec
    overflow_mul-log
    lay_data-requires
    shape_of-words-then-number-eq3
    returns-then-number-eq3
    lay_arinc-requires
    shape_of-words-then-number-eq5
    returns-then-number-eq5
    lay_other-requires
    shape_of-words
    returns)
