use native.Mathlib.Omega.{arith}
use borrow.Author.Rules.{rules}
use mathlib.Core.List.{◌++◌, append_assoc}
use lib.ListN.{length}
use Rattle.format.specs.Lists.{text, list}
use Rattle.format.specs.Listing.{decimal}
use Rattle.log_text.proofs.Digits.{decimal_few}
use Rattle.log_text.proofs.Adding.{Short, adds_same, adds_then, short, short_then, short_room}
use Rattle.log_text.proofs.refused_line.Statement.{statement}
use Rattle.log_text.proofs.refused_line.Tie as tie

-- ---- the places behind the calls: the start, and each call from the one behind it

abbrev start : tie.After-four-n1 → tie.Start
start c = c.before.before.before

abbrev first : tie.After-four-n2 → tie.After-four-n1
first c = c.before.before.before.before

abbrev second : tie.After-number-n3 → tie.After-four-n2
second c = c.before.before.before.before

abbrev third : tie.After-four-n4 → tie.After-number-n3
third c = c.before.before.before.before

abbrev fourth : tie.After-number-n5 → tie.After-four-n4
fourth c = c.before.before.before.before

-- ---- the text so far, behind each call

so_far_1 : (c : tie.After-four-n1) → let a = (start c).args in Short (text "refu") a.out.now a.at c.four-n1.new.out c.four-n1.result 4
unfolding text list
so_far_1 c = short 4 c.four-n1.ensures (omega arith)

so_far_2 : (c : tie.After-four-n2) → let a = (start (first c)).args in
    Short (text "refused ") a.out.now a.at c.four-n2.new.out c.four-n2.result 8
unfolding text list
so_far_2 c = short_then 4 (so_far_1 (first c)) c.four-n2.ensures (omega arith)

so_far_3 : (c : tie.After-number-n3) → let a = (start (first (second c))).args in
    Short (text "refused " ++ decimal a.refusal) a.out.now a.at c.number-n3.new.out c.number-n3.result 28
so_far_3 c = short_then 20 (so_far_2 (second c)) c.number-n3.ensures (decimal_few (start (first (second c))).args.refusal)

so_far_4 : (c : tie.After-four-n4) → let a = (start (first (second (third c)))).args in
    Short ((text "refused " ++ decimal a.refusal) ++ text " at ") a.out.now a.at c.four-n4.new.out c.four-n4.result 32
unfolding text list
so_far_4 c = short_then 4 (so_far_3 (third c)) c.four-n4.ensures (omega arith)

so_far_5 : (c : tie.After-number-n5) → let a = (start (first (second (third (fourth c))))).args in
    Short (((text "refused " ++ decimal a.refusal) ++ text " at ") ++ decimal a.place) a.out.now a.at c.number-n5.new.out c.number-n5.result 52
so_far_5 c = short_then 20 (so_far_4 (fourth c)) c.number-n5.ensures (decimal_few (start (first (second (third (fourth c))))).args.place)

-- ---- the needs

four-n1-requires : tie.Need-four-n1-requires
four-n1-requires c κs = search rules

four-n2-requires : tie.Need-four-n2-requires
four-n2-requires c κs = short_room 4 (so_far_1 c.before.before.before) (omega arith)

number-n3-requires : tie.Need-number-n3-requires
number-n3-requires c κs =
    let p = c.before.before.before in
    let n = (start (first p)).args.refusal in
    short_room (length (decimal n)) (so_far_2 p) (omega (arith, decimal_few n))

four-n4-requires : tie.Need-four-n4-requires
four-n4-requires c κs = short_room 4 (so_far_3 c.before.before.before) (omega arith)

number-n5-requires : tie.Need-number-n5-requires
number-n5-requires c κs =
    let p = c.before.before.before in
    let n = (start (first (second (third p)))).args.place in
    short_room (length (decimal n)) (so_far_4 p) (omega (arith, decimal_few n))

put-requires : tie.Need-put-requires
put-requires c κs = omega (arith, short_room 1 (so_far_5 c.before.before.before) (omega arith))

shape_of-out : tie.Need-shape_of-out
shape_of-out c = search rules

returns : tie.Need-returns
unfolding text list
returns c =
    let p = c.before.before in
    adds_same (adds_then (so_far_5 p.before.before.before.before).adds p.put.ensures) (simp append_assoc)

pub refused_line_spec : {M : Type 1} → statement M
refused_line_spec =
    tie.close
    (tie.spec
    four-n1-requires
    four-n2-requires
    number-n3-requires
    four-n4-requires
    number-n5-requires
    put-requires
    shape_of-out
    returns)
