use Rattle.log_walk.proofs.Whole.{whole_item}
use native.Mathlib.Omega.{arith}
use mathlib.Core.Path.{refl}
use borrow.Author.Rules.{rules}
use Rattle.log_walk.proofs.item_in.Statement.{statement}
use Rattle.log_walk.proofs.item_in.Tie as tie
use Rattle.log_walk.proofs.item_in.Reads as reads
use Rattle.log_walk.proofs.item_in.Lts as lts
use Rattle.log_walk.proofs.behind_bits.Reads as behind-bits-reads
use Rattle.log_walk.proofs.behind_in.Reads as behind-in-reads
use Rattle.log_walk.proofs.first_bits.Reads as first-bits-reads

first_bits-first-requires : tie.Need-first_bits-first-requires
first_bits-first-requires c κs = search rules

behind_bits-behind-requires : tie.Need-behind_bits-behind-requires
behind_bits-behind-requires c κs = search rules

overflow_sub-result : tie.Need-overflow_sub-result
overflow_sub-result c = search rules

overflow_cast-result : tie.Need-overflow_cast-result
overflow_cast-result c = search rules

overflow_shr-result : tie.Need-overflow_shr-result
overflow_shr-result c = search rules

overflow_cast-first : tie.Need-overflow_cast-first
overflow_cast-first c = search rules

overflow_add-at : tie.Need-overflow_add-at
overflow_add-at c = search rules

behind_in-requires : tie.Need-behind_in-requires
behind_in-requires c κs = search rules

returns : tie.Need-returns
returns c =
    let a = c.args in
    let q = c.requires in
    let f = c.first_bits-first in
    let b = c.behind_bits-behind in
    whole_item a.log.now a.at a.w q.0 (omega arith) q.1.0 f.result b.result _ _ q.1.2 q.1.3 f.ensures.0 b.ensures.0
    f.ensures.2 b.ensures.1 refl c.behind_in.ensures

pub item_in_spec : {M : Type 1} → statement M
item_in_spec =
    tie.close
    (tie.spec
    first_bits-first-requires
    behind_bits-behind-requires
    overflow_sub-result
    overflow_cast-result
    overflow_shr-result
    overflow_cast-first
    overflow_add-at
    behind_in-requires
    returns)
