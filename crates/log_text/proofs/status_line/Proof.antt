use native.Mathlib.Omega.{arith}
use borrow.Author.Rules.{rules}
use mathlib.Core.List.{◌++◌}
use Rattle.format.specs.Listing.{response_text}
use Rattle.log_text.proofs.Pieces.{sided, sided_short, response_few, status_is}
use Rattle.log_text.proofs.Adding.{Short, adds_same, adds_then, short_then, short_room}
use Rattle.log_text.proofs.status_line.Statement.{statement}
use Rattle.log_text.proofs.status_line.Tie as tie

-- ---- the places behind the calls

abbrev start : tie.After-sided-n1 → tie.Start
start c = c.before.before.before

abbrev first : tie.After-response_text-n2 → tie.After-sided-n1
first c = c.before.before.before.before

-- ---- the text so far, behind each call

so_far_1 : (c : tie.After-sided-n1) → let a = (start c).args in
    Short (sided 115 116 97 a.bus a.b a.word) a.out.now a.at c.sided-n1.new.out c.sided-n1.result 31
so_far_1 c = let a = (start c).args in sided_short 115 116 97 a.bus a.b a.word c.sided-n1.ensures

so_far_2 : (c : tie.After-response_text-n2) → let a = (start (first c)).args in
    Short (sided 115 116 97 a.bus a.b a.word ++ response_text a.response) a.out.now a.at c.response_text-n2.new.out c.response_text-n2.result 57
so_far_2 c = short_then 26 (so_far_1 (first c)) c.response_text-n2.ensures (response_few (start (first c)).args.response)

-- ---- the needs

sided-n1-requires : tie.Need-sided-n1-requires
sided-n1-requires c κs = search rules

response_text-n2-requires : tie.Need-response_text-n2-requires
response_text-n2-requires c κs = short_room 26 (so_far_1 c.before.before.before) (omega arith)

put-requires : tie.Need-put-requires
put-requires c κs = omega (arith, short_room 1 (so_far_2 c.before.before.before) (omega arith))

shape_of-out : tie.Need-shape_of-out
shape_of-out c = search rules

returns : tie.Need-returns
returns c =
    let p = c.before.before in
    let t = p.before.before.before.before in
    let a = (start (first t)).args in
    adds_same (adds_then (so_far_2 t).adds p.put.ensures) (status_is a.bus a.b a.response a.word)

pub status_line_spec : {M : Type 1} → statement M
status_line_spec = tie.close (tie.spec sided-n1-requires response_text-n2-requires put-requires shape_of-out returns)
