use native.Mathlib.Omega.{arith}
use borrow.Author.Rules.{rules}
use mathlib.Core.List.{◌++◌}
use Rattle.format.specs.Listing.{hex}
use Rattle.log_text.specs.Text.{named}
use Rattle.log_text.proofs.Digits.{hex_long}
use Rattle.log_text.proofs.Pieces.{named_short, overflow_is}
use Rattle.log_text.proofs.Adding.{Short, adds_same, adds_then, short_then, short_room}
use Rattle.log_text.proofs.overflow_line.Statement.{statement}
use Rattle.log_text.proofs.overflow_line.Tie as tie

-- ---- the places behind the calls

abbrev start : tie.After-start-n1 → tie.Start
start c = c.before.before.before

abbrev first : tie.After-hex4-n2 → tie.After-start-n1
first c = c.before.before.before.before

-- ---- the text so far, behind each call

so_far_1 : (c : tie.After-start-n1) → let a = (start c).args in
    Short (named 111 118 102 a.bus) a.out.now a.at c.start-n1.new.out c.start-n1.result 25
so_far_1 c = let a = (start c).args in named_short 111 118 102 a.bus c.start-n1.ensures

so_far_2 : (c : tie.After-hex4-n2) → let a = (start (first c)).args in
    Short (named 111 118 102 a.bus ++ hex 4 a.word) a.out.now a.at c.hex4-n2.new.out c.hex4-n2.result 29
so_far_2 c = short_then 4 (so_far_1 (first c)) c.hex4-n2.ensures (omega (arith, hex_long 4 (start (first c)).args.word))

-- ---- the needs

start-n1-requires : tie.Need-start-n1-requires
start-n1-requires c κs = search rules

hex4-n2-requires : tie.Need-hex4-n2-requires
hex4-n2-requires c κs = short_room 4 (so_far_1 c.before.before.before) (omega arith)

put-requires : tie.Need-put-requires
put-requires c κs = omega (arith, short_room 1 (so_far_2 c.before.before.before) (omega arith))

shape_of-out : tie.Need-shape_of-out
shape_of-out c = search rules

returns : tie.Need-returns
returns c =
    let p = c.before.before in
    let t = p.before.before.before.before in
    let a = (start (first t)).args in
    adds_same (adds_then (so_far_2 t).adds p.put.ensures) (overflow_is a.bus a.word)

pub overflow_line_spec : {M : Type 1} → statement M
overflow_line_spec = tie.close (tie.spec start-n1-requires hex4-n2-requires put-requires shape_of-out returns)
