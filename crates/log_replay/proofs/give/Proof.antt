use Prim.Native.Nat.{◌+◌, ◌≤◌}
use native.Mathlib.Omega.{arith}
use mathlib.Core.Bool.{◌&&◌}
use mathlib.Core.Path.{◌≡◌, sym, ◌∙◌}
use lib.Dec.{leb}
use lib.ListN.{length}
use Rattle.log_replay.proofs.Giving.{enough, gives_short, gives_whole}
use borrow.Author.Rules.{rules}
use Rattle.log_replay.proofs.give.Statement.{statement}
use Rattle.log_replay.proofs.give.Tie as tie

-- how the log's length was judged
abbrev close_of : tie.After-fits_in → tie.After-close-bytes
close_of c = c.before.before.before

judged : (c : tie.After-fits_in) → let bytes = (close_of c).close-bytes.result in
    (leb bytes 32768 && leb bytes (length (close_of c).args.out.now)) ≡ c.fits_in.result
judged c = sym c.fits_in.ensures

-- where it fits, there is room for it everywhere
room : (c : tie.Else-not-fits_in) → let start = c.before.before.before.before.before.before.before.before in let bytes = c.close-bytes.result in
    (bytes ≤ length start.args.out.now) × (bytes + 7 ≤ length start.args.built.now)
room c =
    let start = c.before.before.before.before.before.before.before.before in
    enough c.close-bytes.result (length start.args.out.now) (length start.args.built.now)
    (judged c.before ∙ c.if-not-fits_in.false)
    start.requires.1

close-bytes-requires : tie.Need-close-bytes-requires
close-bytes-requires c κs = search rules

fits_in-requires : tie.Need-fits_in-requires
fits_in-requires c κs = search rules

deny-requires : tie.Need-deny-requires
deny-requires c κs = search rules

shape_of-built-then-not-fits_in : tie.Need-shape_of-built-then-not-fits_in
shape_of-built-then-not-fits_in c = search rules

returns-then-not-fits_in : tie.Need-returns-then-not-fits_in
returns-then-not-fits_in c =
    let fits = c.before.before in
    let close = close_of fits in
    let a = close.args in
    λ s e.
    gives_short s a.built.now a.level a.pen e close.close-bytes.result close.close-bytes.ensures.0 a.out.now _
    (judged fits ∙ c.if-not-fits_in.true) c.deny.ensures

hand_over-requires : tie.Need-hand_over-requires
hand_over-requires c κs =
    let test = c.before in
    ((room test).0, omega (arith, c.built-1.given, (room test).1))

shape_of-built : tie.Need-shape_of-built
shape_of-built c = search rules

shape_of-out : tie.Need-shape_of-out
shape_of-out c = search rules

returns : tie.Need-returns
returns c =
    let hand = c.before.before in
    let test = hand.before.before in
    let fits = test.before in
    let close = close_of fits in
    let a = close.args in
    λ s e.
    gives_whole s a.built.now a.level a.pen e close.close-bytes.result close.close-bytes.ensures.0 a.out.now _ _ _
    (judged fits ∙ test.if-not-fits_in.false) (room test).1 close.close-bytes.ensures.1 hand.hand_over.ensures

pub give_spec : {M : Type 1} → statement M
give_spec =
    tie.close
    (tie.spec
    close-bytes-requires
    fits_in-requires
    deny-requires
    shape_of-built-then-not-fits_in
    returns-then-not-fits_in
    hand_over-requires
    shape_of-built
    shape_of-out
    returns)
