use Rattle.log_walk.proofs.Ends.{next_past, next_end, next_item, next_unknown, pos_of}
use lib.ListN.{length}
use Prim.Native.Nat.{◌*◌, ◌-◌}
use mathlib.Core.Path.{refl}
use Rattle.log_walk.specs.Piece.{piece_of}
use mathlib.Core.Path.{sym, ap, ◌∙◌}
use native.Mathlib.Omega.{arith}
use borrow.Author.Rules.{rules}
use Rattle.log_walk.proofs.piece_at.Statement.{statement}
use Rattle.log_walk.proofs.piece_at.Tie as tie
use Rattle.log_walk.proofs.piece_at.Reads as reads
use Rattle.log_walk.proofs.piece_at.Lts as lts
use Rattle.log_walk.proofs.end_piece.Reads as end-piece-reads
use Rattle.log_walk.proofs.item_piece.Reads as item-piece-reads
use Rattle.log_walk.proofs.window.Reads as window-reads

overflow_mul-left : tie.Need-overflow_mul-left
overflow_mul-left c = search rules

overflow_sub-left : tie.Need-overflow_sub-left
overflow_sub-left c = search rules

returns-then-left-lt4 : tie.Need-returns-then-left-lt4
returns-then-left-lt4 c = let a = c.args in sym (ap piece_of (next_past a.log.now a.at (omega arith)))

window-w-requires : tie.Need-window-w-requires
window-w-requires c κs = search rules

end_piece-requires : tie.Need-end_piece-requires
end_piece-requires c κs = (c.window-w.ensures, (omega arith, c.requires.1, omega arith, c.if-kind-eq0.true))

returns-then-kind-eq0 : tie.Need-returns-then-kind-eq0
returns-then-kind-eq0 c =
    let a = c.args in
    let q = c.requires in
    let l = length a.log.now * 8 - a.at in
    c.end_piece.ensures ∙ sym (ap piece_of (next_end a.log.now a.at l c.window-w.result c.window-w.ensures (omega arith) (omega arith) (omega arith) c.if-kind-eq0.true))

returns-then-kind-gt8 : tie.Need-returns-then-kind-gt8
returns-then-kind-gt8 c =
    let a = c.args in
    let q = c.requires in
    let l = length a.log.now * 8 - a.at in
    sym (ap piece_of (next_unknown a.log.now a.at l c.window-w.result c.window-w.ensures (omega arith) (omega arith) (omega arith) c.if-kind-gt8.true))

item_piece-requires : tie.Need-item_piece-requires
item_piece-requires c κs = (c.window-w.ensures, (omega arith, c.requires.1, omega arith, refl, omega (arith, pos_of _ c.if-kind-eq0.false), omega arith))

returns : tie.Need-returns
returns c =
    let a = c.args in
    let q = c.requires in
    let l = length a.log.now * 8 - a.at in
    c.item_piece.ensures ∙ sym (ap piece_of (next_item a.log.now a.at l c.window-w.result c.window-w.ensures (omega arith) (omega arith) (omega arith) c.if-kind-eq0.false))

pub piece_at_spec : {M : Type 1} → statement M
piece_at_spec =
    tie.close
    (tie.spec
    overflow_mul-left
    overflow_sub-left
    returns-then-left-lt4
    window-w-requires
    end_piece-requires
    returns-then-kind-eq0
    returns-then-kind-gt8
    item_piece-requires
    returns)
