use Rattle.from_c.specs.Numbers.{half_at}
use borrow.Author.Rules.{rules}
use Rattle.from_c.proofs.half_at.Statement.{statement}
use Rattle.from_c.proofs.half_at.Tie as tie

bounds-bytes-at : tie.Need-bounds-bytes-at
bounds-bytes-at c = search rules

wide-first-requires : tie.Need-wide-first-requires
wide-first-requires c κs = search rules

overflow_add-at : tie.Need-overflow_add-at
overflow_add-at c = search rules

bounds-bytes-at-2 : tie.Need-bounds-bytes-at-2
bounds-bytes-at-2 c = search rules

wide-second-requires : tie.Need-wide-second-requires
wide-second-requires c κs = search rules

overflow_add-at-2 : tie.Need-overflow_add-at-2
overflow_add-at-2 c = search rules

bounds-bytes-at-3 : tie.Need-bounds-bytes-at-3
bounds-bytes-at-3 c = search rules

wide-third-requires : tie.Need-wide-third-requires
wide-third-requires c κs = search rules

overflow_add-at-3 : tie.Need-overflow_add-at-3
overflow_add-at-3 c = search rules

bounds-bytes-at-4 : tie.Need-bounds-bytes-at-4
bounds-bytes-at-4 c = search rules

wide-fourth-requires : tie.Need-wide-fourth-requires
wide-fourth-requires c κs = search rules

overflow_mul-result : tie.Need-overflow_mul-result
overflow_mul-result c = search rules

overflow_mul-result-2 : tie.Need-overflow_mul-result-2
overflow_mul-result-2 c = search rules

overflow_add-result : tie.Need-overflow_add-result
overflow_add-result c = search rules

overflow_mul-result-3 : tie.Need-overflow_mul-result-3
overflow_mul-result-3 c = search rules

overflow_add-result-2 : tie.Need-overflow_add-result-2
overflow_add-result-2 c = search rules

overflow_add-result-3 : tie.Need-overflow_add-result-3
overflow_add-result-3 c = search rules

returns : tie.Need-returns
unfolding half_at
returns c = search rules

pub half_at_spec : {M : Type 1} → statement M
half_at_spec =
    tie.close
    (tie.spec
    bounds-bytes-at
    wide-first-requires
    overflow_add-at
    bounds-bytes-at-2
    wide-second-requires
    overflow_add-at-2
    bounds-bytes-at-3
    wide-third-requires
    overflow_add-at-3
    bounds-bytes-at-4
    wide-fourth-requires
    overflow_mul-result
    overflow_mul-result-2
    overflow_add-result
    overflow_mul-result-3
    overflow_add-result-2
    overflow_add-result-3
    returns)
