use native.Mathlib.Omega.{arith}
use borrow.Author.Rules.{rules}
use Rattle.split_from_c.proofs.words_bytes.Statement.{statement}
use Rattle.split_from_c.proofs.words_bytes.Tie as tie

slice_bounds-words_by-end : tie.Need-slice_bounds-words_by-end
slice_bounds-words_by-end c = search rules

words_by-requires : tie.Need-words_by-requires
words_by-requires c κs = search rules

shape_of-words-then-times-lt520 : tie.Need-shape_of-words-then-times-lt520
shape_of-words-then-times-lt520 c = search rules

shape_of-times-then-times-lt520 : tie.Need-shape_of-times-then-times-lt520
shape_of-times-then-times-lt520 c = search rules

returns-then-times-lt520 : tie.Need-returns-then-times-lt520
returns-then-times-lt520 c = search rules

slice_bounds-words_by-end-then-capture-lt24960 : tie.Need-slice_bounds-words_by-end-then-capture-lt24960
slice_bounds-words_by-end-then-capture-lt24960 c = search rules

words_by-requires-then-capture-lt24960 : tie.Need-words_by-requires-then-capture-lt24960
words_by-requires-then-capture-lt24960 c κs = λ p q. omega arith

shape_of-words-then-capture-lt24960 : tie.Need-shape_of-words-then-capture-lt24960
shape_of-words-then-capture-lt24960 c = search rules

shape_of-times-then-capture-lt24960 : tie.Need-shape_of-times-then-capture-lt24960
shape_of-times-then-capture-lt24960 c = search rules

returns-then-capture-lt24960 : tie.Need-returns-then-capture-lt24960
returns-then-capture-lt24960 c = search rules

slice_bounds-words_by-end-2 : tie.Need-slice_bounds-words_by-end-2
slice_bounds-words_by-end-2 c = search rules

words_by-requires-2 : tie.Need-words_by-requires-2
words_by-requires-2 c κs = search rules

shape_of-words : tie.Need-shape_of-words
shape_of-words c = search rules

shape_of-times : tie.Need-shape_of-times
shape_of-times c = search rules

returns : tie.Need-returns
returns c = search rules

pub words_bytes_spec : {M : Type 1} → statement M
words_bytes_spec =
    tie.close
    (tie.spec
    slice_bounds-words_by-end
    words_by-requires
    shape_of-words-then-times-lt520
    shape_of-times-then-times-lt520
    returns-then-times-lt520
    slice_bounds-words_by-end-then-capture-lt24960
    words_by-requires-then-capture-lt24960
    shape_of-words-then-capture-lt24960
    shape_of-times-then-capture-lt24960
    returns-then-capture-lt24960
    slice_bounds-words_by-end-2
    words_by-requires-2
    shape_of-words
    shape_of-times
    returns)
