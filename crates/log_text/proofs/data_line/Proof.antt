use native.Mathlib.Omega.{arith}
use borrow.Author.Rules.{rules}
use Rattle.log_text.proofs.Pieces.{sided, sided_short, data_is}
use Rattle.log_text.proofs.Adding.{Short, adds_same, adds_then, short_room}
use Rattle.log_text.proofs.data_line.Statement.{statement}
use Rattle.log_text.proofs.data_line.Tie as tie

abbrev start : tie.After-sided-n1 → tie.Start
start c = c.before.before.before

-- the text so far
so_far : (c : tie.After-sided-n1) → let a = (start c).args in
    Short (sided 100 97 116 a.bus a.b a.word) a.out.now a.at c.sided-n1.new.out c.sided-n1.result 31
so_far c = let a = (start c).args in sided_short 100 97 116 a.bus a.b a.word c.sided-n1.ensures

sided-n1-requires : tie.Need-sided-n1-requires
sided-n1-requires c κs = search rules

put-requires : tie.Need-put-requires
put-requires c κs = omega (arith, short_room 1 (so_far c.before.before.before) (omega arith))

shape_of-out : tie.Need-shape_of-out
shape_of-out c = search rules

returns : tie.Need-returns
returns c =
    let p = c.before.before in
    let s = p.before.before.before.before in
    let a = (start s).args in
    adds_same (adds_then (so_far s).adds p.put.ensures) (data_is a.bus a.b a.word)

pub data_line_spec : {M : Type 1} → statement M
data_line_spec = tie.close (tie.spec sided-n1-requires put-requires shape_of-out returns)
