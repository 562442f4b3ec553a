use native.Mathlib.Omega.{arith}
use borrow.Author.Rules.{rules}
use Prim.Native.Nat.{◌+◌}
use mathlib.Core.List.{[], ◌∷◌, ◌++◌, append_assoc}
use lib.ListN.{length}
use Rattle.format.specs.Listing.{decimal}
use Rattle.log_text.specs.Text.{named}
use Rattle.log_text.proofs.Digits.{decimal_few}
use Rattle.log_text.proofs.Pieces.{named_short}
use Rattle.log_text.proofs.Adding.{Short, adds_same, adds_then, short_then, short_room}
use Rattle.log_text.proofs.channelled.Statement.{statement}
use Rattle.log_text.proofs.channelled.Tie as tie

-- ---- the places behind the calls

abbrev start : tie.After-start-n1 → tie.Start
start c = c.before.before.before

abbrev first : tie.After-number-n2 → tie.After-start-n1
first c = c.before.before.before.before

-- ---- the text so far, behind each call

so_far_1 : (c : tie.After-start-n1) → let a = (start c).args in
    Short (named a.a a.b a.c a.bus) a.out.now a.at c.start-n1.new.out c.start-n1.result 25
so_far_1 c = let a = (start c).args in named_short a.a a.b a.c a.bus c.start-n1.ensures

so_far_2 : (c : tie.After-number-n2) → let a = (start (first c)).args in
    Short (named a.a a.b a.c a.bus ++ decimal (a.channel + 1)) a.out.now a.at c.number-n2.new.out c.number-n2.result 45
so_far_2 c = short_then 20 (so_far_1 (first c)) c.number-n2.ensures (decimal_few ((start (first c)).args.channel + 1))

-- ---- the needs

start-n1-requires : tie.Need-start-n1-requires
start-n1-requires c κs = search rules

overflow_add-channel : tie.Need-overflow_add-channel
overflow_add-channel c = search rules

number-n2-requires : tie.Need-number-n2-requires
number-n2-requires c κs =
    let p = c.before.before.before in
    let n = (start p).args.channel + 1 in
    short_room (length (decimal n)) (so_far_1 p) (omega (arith, decimal_few n))

put-requires : tie.Need-put-requires
put-requires c κs = omega (arith, short_room 1 (so_far_2 c.before.before.before) (omega arith))

shape_of-out : tie.Need-shape_of-out
shape_of-out c = search rules

returns : tie.Need-returns
returns c =
    let p = c.before.before in
    let t = p.before.before.before.before in
    let a = (start (first t)).args in
    adds_same (adds_then (so_far_2 t).adds p.put.ensures) (append_assoc (named a.a a.b a.c a.bus) (decimal (a.channel + 1)) (32 ∷ []))

pub channelled_spec : {M : Type 1} → statement M
channelled_spec = tie.close (tie.spec start-n1-requires overflow_add-channel number-n2-requires put-requires shape_of-out returns)
