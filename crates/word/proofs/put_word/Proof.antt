use lib.ListN.{length-set}
use native.Mathlib.Omega.{arith}
use borrow.Author.Rules.{rules}
use Rattle.format.specs.Word.{bytes_of}
use Rattle.word.proofs.Stored.{three_put}
use Rattle.word.proofs.put_word.Statement.{statement}
use Rattle.word.proofs.put_word.Tie as tie

overflow_cast-bytes : tie.Need-overflow_cast-bytes
overflow_cast-bytes c = search rules

bounds-bytes-at : tie.Need-bounds-bytes-at
bounds-bytes-at c = search rules

overflow_cast-bytes-2 : tie.Need-overflow_cast-bytes-2
overflow_cast-bytes-2 c = search rules

overflow_add-bytes : tie.Need-overflow_add-bytes
overflow_add-bytes c = search rules

bounds-bytes-at-2 : tie.Need-bounds-bytes-at-2
bounds-bytes-at-2 c = simp length-set (omega arith)

overflow_cast-bytes-3 : tie.Need-overflow_cast-bytes-3
overflow_cast-bytes-3 c = search rules

overflow_add-bytes-2 : tie.Need-overflow_add-bytes-2
overflow_add-bytes-2 c = search rules

bounds-bytes-at-3 : tie.Need-bounds-bytes-at-3
bounds-bytes-at-3 c = simp length-set (omega arith)

shape_of-bytes : tie.Need-shape_of-bytes
shape_of-bytes c = search rules

returns : tie.Need-returns
unfolding bytes_of
returns c = three_put c.args.bytes.now c.args.at _ _ _ c.requires.0

pub put_word_spec : {M : Type 1} → statement M
put_word_spec =
    tie.close
    (tie.spec
    overflow_cast-bytes
    bounds-bytes-at
    overflow_cast-bytes-2
    overflow_add-bytes
    bounds-bytes-at-2
    overflow_cast-bytes-3
    overflow_add-bytes-2
    bounds-bytes-at-3
    shape_of-bytes
    returns)
