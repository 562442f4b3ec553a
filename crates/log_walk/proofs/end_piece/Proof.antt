use Rattle.log_walk.proofs.Ends.{end_far, end_clean, end_dirty}
use Rattle.log_walk.specs.Piece.{piece_of}
use mathlib.Core.Path.{sym, ap, ◌∙◌}
use native.Mathlib.Omega.{arith}
use borrow.Author.Rules.{rules}
use Rattle.log_walk.proofs.end_piece.Statement.{statement}
use Rattle.log_walk.proofs.end_piece.Tie as tie
use Rattle.log_walk.proofs.end_piece.Reads as reads
use Rattle.log_walk.proofs.end_piece.Lts as lts

returns-then-left-ge12 : tie.Need-returns-then-left-ge12
returns-then-left-ge12 c =
    let a = c.args in
    let q = c.requires in
    sym (ap piece_of (end_far a.log.now a.at a.left a.w q.0 q.1.0 q.1.2 (omega arith) c.if-left-ge12.true))

overflow_cast-left : tie.Need-overflow_cast-left
overflow_cast-left c = search rules

overflow_sub-left : tie.Need-overflow_sub-left
overflow_sub-left c = search rules

overflow_cast-left-2 : tie.Need-overflow_cast-left-2
overflow_cast-left-2 c = search rules

overflow_shr-w : tie.Need-overflow_shr-w
overflow_shr-w c = search rules

returns-then-w-left-eq0 : tie.Need-returns-then-w-left-eq0
returns-then-w-left-eq0 c =
    let a = c.args in
    let q = c.requires in
    sym (ap piece_of (end_clean a.log.now a.at a.left a.w q.0 q.1.0 q.1.2 (omega arith) c.if-left-ge12.false q.1.3 c.if-w-left-eq0.true))

returns : tie.Need-returns
returns c =
    let a = c.args in
    let q = c.requires in
    sym (ap piece_of (end_dirty a.log.now a.at a.left a.w q.0 q.1.0 q.1.2 (omega arith) c.if-left-ge12.false q.1.3 c.if-w-left-eq0.false))

pub end_piece_spec : {M : Type 1} → statement M
end_piece_spec =
    tie.close (tie.spec returns-then-left-ge12 overflow_cast-left overflow_sub-left overflow_cast-left-2 overflow_shr-w returns-then-w-left-eq0 returns)
