use native.Mathlib.Omega.{arith}
use borrow.Author.Rules.{rules}
use mathlib.Core.List.{[], ◌∷◌, ◌++◌}
use Rattle.format.specs.Listing.{hex}
use Rattle.log_text.specs.Text.{named}
use Rattle.log_text.proofs.Digits.{hex_long}
use Rattle.log_text.proofs.Pieces.{named_short, user_is}
use Rattle.log_text.proofs.Adding.{Short, adds_same, adds_then, short_then, short_room}
use Rattle.log_text.proofs.user_line.Statement.{statement}
use Rattle.log_text.proofs.user_line.Tie as tie

-- ---- the places behind the calls

abbrev start : tie.After-start-n1 → tie.Start
start c = c.before.before.before

abbrev first : tie.After-two-n2 → tie.After-start-n1
first c = c.before.before.before.before.before

abbrev second : tie.After-hex4-n3 → tie.After-two-n2
second c = c.before.before.before.before

-- ---- the text so far, behind each call

so_far_1 : (c : tie.After-start-n1) → let a = (start c).args in
    Short (named 117 115 114 a.bus) a.out.now a.at c.start-n1.new.out c.start-n1.result 25
so_far_1 c = named_short 117 115 114 (start c).args.bus c.start-n1.ensures

so_far_2 : (c : tie.After-two-n2) → let a = (start (first c)).args in
    Short (named 117 115 114 a.bus ++ (c.user_label.result ∷ 32 ∷ [])) a.out.now a.at c.two-n2.new.out c.two-n2.result 27
so_far_2 c = short_then 2 (so_far_1 (first c)) c.two-n2.ensures (omega arith)

so_far_3 : (c : tie.After-hex4-n3) → let a = (start (first (second c))).args in
    Short ((named 117 115 114 a.bus ++ ((second c).user_label.result ∷ 32 ∷ [])) ++ hex 4 a.word)
    a.out.now a.at c.hex4-n3.new.out c.hex4-n3.result 31
so_far_3 c = short_then 4 (so_far_2 (second c)) c.hex4-n3.ensures (omega (arith, hex_long 4 (start (first (second c))).args.word))

-- ---- the needs

start-n1-requires : tie.Need-start-n1-requires
start-n1-requires c κs = search rules

user_label-requires : tie.Need-user_label-requires
user_label-requires c κs = search rules

two-n2-requires : tie.Need-two-n2-requires
two-n2-requires c κs = short_room 2 (so_far_1 c.before.before.before.before) (omega arith)

hex4-n3-requires : tie.Need-hex4-n3-requires
hex4-n3-requires c κs = short_room 4 (so_far_2 c.before.before.before) (omega arith)

put-requires : tie.Need-put-requires
put-requires c κs = omega (arith, short_room 1 (so_far_3 c.before.before.before) (omega arith))

shape_of-out : tie.Need-shape_of-out
shape_of-out c = search rules

returns : tie.Need-returns
returns c =
    let p = c.before.before in
    let t = p.before.before.before.before in
    let a = (start (first (second t))).args in
    adds_same (adds_then (so_far_3 t).adds p.put.ensures) (user_is a.bus a.three a.word _ (second t).user_label.ensures)

pub user_line_spec : {M : Type 1} → statement M
user_line_spec =
    tie.close
    (tie.spec
    start-n1-requires
    user_label-requires
    two-n2-requires
    hex4-n3-requires
    put-requires
    shape_of-out
    returns)
