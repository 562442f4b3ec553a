use Rattle.log_close.proofs.Giving.{give_all, give_beyond, give_short}
use Prim.Native.Nat.{◌+◌, ◌≤◌}
use lib.ListN.{length}
use native.Mathlib.Omega.{arith}
use borrow.Author.Rules.{rules}
use Rattle.log_close.proofs.give.Statement.{statement}
use Rattle.log_close.proofs.give.Tie as tie
use Rattle.log_close.proofs.give.Reads as reads
use Rattle.log_close.proofs.give.Lts as lts
use Rattle.log_close.proofs.copy.Reads as copy-reads
use Rattle.log_close.proofs.refusal.Reads as refusal-reads
use Rattle.log_write.proofs.Pen.close.Reads as close-reads

-- the log is closed
abbrev close : tie.After-slice_known-3-1 → tie.After-close-bytes
close c = c.before.before

abbrev start : tie.After-close-bytes → tie.Start
start c = c.before.before.before.before

-- and is not too long
room : (c : tie.Else-bytes-gt32768) → let k = close c.before in k.close-bytes.result + 7 ≤ length (start k).args.built.now
room c = let k = close c.before in (rw (← k.close-bytes.ensures.0) at (start k).requires.1) c.if-bytes-gt32768.false

close-bytes-requires : tie.Need-close-bytes-requires
close-bytes-requires c κs = omega (arith, c.requires.0)

refusal-requires : tie.Need-refusal-requires
refusal-requires c κs = search rules

shape_of-built-then-bytes-gt32768 : tie.Need-shape_of-built-then-bytes-gt32768
shape_of-built-then-bytes-gt32768 c = search rules

returns-then-bytes-gt32768 : tie.Need-returns-then-bytes-gt32768
returns-then-bytes-gt32768 c = let t = c.before in λ is w. give_beyond is _ _ w _ (close t.before).close-bytes.ensures.0 _ _ _ t.if-bytes-gt32768.true c.refusal.ensures

refusal-requires-then-out-bytes : tie.Need-refusal-requires-then-out-bytes
refusal-requires-then-out-bytes c κs = search rules

shape_of-built-then-out-bytes : tie.Need-shape_of-built-then-out-bytes
shape_of-built-then-out-bytes c = search rules

returns-then-out-bytes : tie.Need-returns-then-out-bytes
returns-then-out-bytes c =
    let t = c.before in
    let e = t.before in
    λ is w. give_short is _ _ w _ (close e.before).close-bytes.ensures.0 _ _ _ e.if-bytes-gt32768.false t.if-out-bytes.true c.refusal-then-out-bytes.ensures

copy-requires : tie.Need-copy-requires
copy-requires c κs =
    let f = c.before in
    let e = f.before in
    (f.if-out-bytes.false, omega (arith, room e))

shape_of-built : tie.Need-shape_of-built
shape_of-built c = search rules

shape_of-out : tie.Need-shape_of-out
shape_of-out c = search rules

returns : tie.Need-returns
returns c =
    let y = c.before.before in
    let f = y.before.before in
    let e = f.before in
    let ended = (close e.before).close-bytes.ensures in
    λ is w. give_all is _ _ w _ ended.0 _ _ _ ended.1 e.if-bytes-gt32768.false f.if-out-bytes.false (room e) y.copy.ensures

pub give_spec : {M : Type 1} → statement M
give_spec =
    tie.close
    (tie.spec
    close-bytes-requires
    refusal-requires
    shape_of-built-then-bytes-gt32768
    returns-then-bytes-gt32768
    refusal-requires-then-out-bytes
    shape_of-built-then-out-bytes
    returns-then-out-bytes
    copy-requires
    shape_of-built
    shape_of-out
    returns)
