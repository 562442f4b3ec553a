use native.Mathlib.Omega.{arith}
use borrow.Author.Rules.{rules}
use mathlib.Core.List.{[], ◌∷◌, ◌++◌}
use lib.ListN.{length}
use Rattle.format.specs.Listing.{decimal}
use Rattle.log_text.proofs.Digits.{decimal_few}
use Rattle.log_text.proofs.Adding.{Short, adds_then, short, short_then, short_room}
use Rattle.log_text.proofs.start.Statement.{statement}
use Rattle.log_text.proofs.start.Tie as tie

-- ---- the places behind the calls

abbrev start : tie.After-four-n1 → tie.Start
start c = c.before.before.before

abbrev first : tie.After-number-n2 → tie.After-four-n1
first c = c.before.before.before.before

-- ---- the text so far, behind each call

so_far_1 : (c : tie.After-four-n1) → let a = (start c).args in Short (a.a ∷ a.b ∷ a.c ∷ 32 ∷ []) a.out.now a.at c.four-n1.new.out c.four-n1.result 4
so_far_1 c = short 4 c.four-n1.ensures (omega arith)

so_far_2 : (c : tie.After-number-n2) → let a = (start (first c)).args in
    Short ((a.a ∷ a.b ∷ a.c ∷ 32 ∷ []) ++ decimal a.bus) a.out.now a.at c.number-n2.new.out c.number-n2.result 24
so_far_2 c = short_then 20 (so_far_1 (first c)) c.number-n2.ensures (decimal_few (start (first c)).args.bus)

-- ---- the needs

four-n1-requires : tie.Need-four-n1-requires
four-n1-requires c κs = search rules

number-n2-requires : tie.Need-number-n2-requires
number-n2-requires c κs =
    let p = c.before.before.before in
    let n = (start p).args.bus in
    short_room (length (decimal n)) (so_far_1 p) (omega (arith, decimal_few n))

put-requires : tie.Need-put-requires
put-requires c κs = omega (arith, short_room 1 (so_far_2 c.before.before.before) (omega arith))

shape_of-out : tie.Need-shape_of-out
shape_of-out c = search rules

returns : tie.Need-returns
returns c =
    let p = c.before.before in
    adds_then (so_far_2 p.before.before.before.before).adds p.put.ensures

pub start_spec : {M : Type 1} → statement M
start_spec = tie.close (tie.spec four-n1-requires number-n2-requires put-requires shape_of-out returns)
