use Rattle.log_walk.proofs.Whole.{tag_top}
use Rattle.log_read.proofs.Eight.{tag_ahead}
use borrow.Author.Rules.{rules}
use Rattle.log_walk.proofs.behind_in.Statement.{statement}
use Rattle.log_walk.proofs.behind_in.Tie as tie
use Rattle.log_walk.proofs.behind_in.Reads as reads
use Rattle.log_walk.proofs.behind_in.Lts as lts
use Rattle.log_read.proofs.Cursor.tag_filled.Reads as tag-filled-reads

tag_filled-w-requires : tie.Need-tag_filled-w-requires
tag_filled-w-requires c κs = search rules

overflow_sub-result : tie.Need-overflow_sub-result
overflow_sub-result c = search rules

overflow_cast-result : tie.Need-overflow_cast-result
overflow_cast-result c = search rules

overflow_shr-result-2 : tie.Need-overflow_shr-result-2
overflow_shr-result-2 c = search rules

returns : tie.Need-returns
returns c =
    let a = c.args in
    let q = c.requires in
    tag_top a.log.now a.at a.bits (tag_ahead a.log.now a.at q.0 c.tag_filled-w.ensures.0) q.2 q.1

pub behind_in_spec : {M : Type 1} → statement M
behind_in_spec = tie.close (tie.spec tag_filled-w-requires overflow_sub-result overflow_cast-result overflow_shr-result-2 returns)
