use Rattle.log_walk.proofs.Shapes.{item_cut, item_whole}
use mathlib.Core.Path.{refl, sym}
use native.Mathlib.Omega.{arith}
use borrow.Author.Rules.{rules}
use Rattle.log_walk.proofs.item_piece.Statement.{statement}
use Rattle.log_walk.proofs.item_piece.Tie as tie
use Rattle.log_walk.proofs.item_piece.Reads as reads
use Rattle.log_walk.proofs.item_piece.Lts as lts
use Rattle.log_walk.proofs.behind_bits.Reads as behind-bits-reads
use Rattle.log_walk.proofs.behind_number.Reads as behind-number-reads
use Rattle.log_walk.proofs.first_bits.Reads as first-bits-reads

first_bits-first-requires : tie.Need-first_bits-first-requires
first_bits-first-requires c κs = search rules

behind_bits-behind-requires : tie.Need-behind_bits-behind-requires
behind_bits-behind-requires c κs = search rules

overflow_add-first : tie.Need-overflow_add-first
overflow_add-first c = search rules

overflow_cast-first : tie.Need-overflow_cast-first
overflow_cast-first c = search rules

returns-then-left-first : tie.Need-returns-then-left-first
returns-then-left-first c =
    let a = c.args in
    let q = c.requires in
    let f = c.first_bits-first in
    let b = c.behind_bits-behind in
    sym (item_cut a.log.now a.at a.left a.w q.0 q.1.0 (omega arith) q.1.2 a.kind f.result b.result q.1.3 q.1.4 q.1.5 f.ensures.0 b.ensures.0 c.if-left-first.true)

overflow_sub-result : tie.Need-overflow_sub-result
overflow_sub-result c = search rules

overflow_cast-result : tie.Need-overflow_cast-result
overflow_cast-result c = search rules

overflow_shr-result : tie.Need-overflow_shr-result
overflow_shr-result c = search rules

overflow_cast-first-2 : tie.Need-overflow_cast-first-2
overflow_cast-first-2 c = search rules

overflow_add-at : tie.Need-overflow_add-at
overflow_add-at c = search rules

behind_number-requires : tie.Need-behind_number-requires
behind_number-requires c κs = search rules

returns : tie.Need-returns
returns c =
    let a = c.args in
    let q = c.requires in
    let f = c.first_bits-first in
    let b = c.behind_bits-behind in
    item_whole a.log.now a.at a.left a.w q.0 q.1.0 (omega arith) q.1.2 a.kind f.result b.result q.1.3 q.1.4 q.1.5 f.ensures.0 b.ensures.0 _ _ f.ensures.2 (omega arith) refl c.behind_number.ensures

pub item_piece_spec : {M : Type 1} → statement M
item_piece_spec =
    tie.close
    (tie.spec
    first_bits-first-requires
    behind_bits-behind-requires
    overflow_add-first
    overflow_cast-first
    returns-then-left-first
    overflow_sub-result
    overflow_cast-result
    overflow_shr-result
    overflow_cast-first-2
    overflow_add-at
    behind_number-requires
    returns)
