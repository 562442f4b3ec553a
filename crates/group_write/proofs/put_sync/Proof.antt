use native.Mathlib.Omega.{arith}
use mathlib.Core.Path.{refl}
use mathlib.Core.List.{[], ◌∷◌}
use borrow.Author.Rules.{rules}
use Rattle.format.specs.Word.{sync}
use Rattle.crc.proofs.Sums.{sums_more}
use Rattle.group_write.proofs.Words.{Written, written_none, written_word, written_length}
use Rattle.group_write.proofs.Frames.{sync_below}
use Rattle.group_write.proofs.put_sync.Statement.{statement}
use Rattle.group_write.proofs.put_sync.Tie as tie

-- where the word is made, and where it is put
abbrev Made : Type 0
Made = tie.After-sync-sync

abbrev entry : Made → tie.Start
entry c = c.before.before

abbrev made : tie.After-put_word → Made
made c = c.before.before

begun : (c : tie.After-put_word) → Written (sync ∷ []) 1 (entry (made c)).args.out.now c.put_word.new.bytes
begun c = let o = (entry (made c)).args.out.now in
    rw (← (made c).sync-sync.ensures) (written_word 0 (made c).sync-sync.result (written_none o) refl (omega (arith, (entry (made c)).requires)) refl c.put_word.ensures)

sync-sync-requires : tie.Need-sync-sync-requires
sync-sync-requires c κs = search rules

put_word-requires : tie.Need-put_word-requires
put_word-requires c κs = (omega (arith, c.requires), rw c.sync-sync.ensures sync_below)

start-requires : tie.Need-start-requires
start-requires c κs = search rules

add-requires : tie.Need-add-requires
add-requires c κs = (c.start.ensures.small, rw (made c.before.before.before).sync-sync.ensures sync_below)

shape_of-out : tie.Need-shape_of-out
shape_of-out c = written_length (begun c.before.before.before.before)

returns : tie.Need-returns
returns c = let m = made c.before.before.before.before in
    (rw (← m.sync-sync.ensures) (sums_more (m.sync-sync.result ∷ []) c.start.ensures c.add.ensures), (begun c.before.before.before.before).is)

pub put_sync_spec : {M : Type 1} → statement M
put_sync_spec =
    tie.close
    (tie.spec
    sync-sync-requires
    put_word-requires
    start-requires
    add-requires
    shape_of-out
    returns)
