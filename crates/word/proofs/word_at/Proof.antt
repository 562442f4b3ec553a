use borrow.Author.Rules.{rules}
use Rattle.word.specs.Stored.{three_at}
use Rattle.word.proofs.word_at.Statement.{statement}
use Rattle.word.proofs.word_at.Tie as tie

bounds-bytes-at : tie.Need-bounds-bytes-at
bounds-bytes-at c = search rules

wide-requires : tie.Need-wide-requires
wide-requires c κs = search rules

overflow_mul-result : tie.Need-overflow_mul-result
overflow_mul-result c = search rules

overflow_add-at : tie.Need-overflow_add-at
overflow_add-at c = search rules

bounds-bytes-at-2 : tie.Need-bounds-bytes-at-2
bounds-bytes-at-2 c = search rules

wide-requires-2 : tie.Need-wide-requires-2
wide-requires-2 c κs = search rules

overflow_mul-result-2 : tie.Need-overflow_mul-result-2
overflow_mul-result-2 c = search rules

overflow_add-result : tie.Need-overflow_add-result
overflow_add-result c = search rules

overflow_add-at-2 : tie.Need-overflow_add-at-2
overflow_add-at-2 c = search rules

bounds-bytes-at-3 : tie.Need-bounds-bytes-at-3
bounds-bytes-at-3 c = search rules

wide-requires-3 : tie.Need-wide-requires-3
wide-requires-3 c κs = search rules

overflow_add-result-2 : tie.Need-overflow_add-result-2
overflow_add-result-2 c = search rules

returns : tie.Need-returns
unfolding three_at
returns c = search rules

pub word_at_spec : {M : Type 1} → statement M
word_at_spec =
    tie.close
    (tie.spec
    bounds-bytes-at
    wide-requires
    overflow_mul-result
    overflow_add-at
    bounds-bytes-at-2
    wide-requires-2
    overflow_mul-result-2
    overflow_add-result
    overflow_add-at-2
    bounds-bytes-at-3
    wide-requires-3
    overflow_add-result-2
    returns)
