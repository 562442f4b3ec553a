use native.Mathlib.Omega.{arith}
use borrow.Author.Rules.{rules}
use mathlib.Core.List.{◌++◌}
use Rattle.format.specs.Listing.{hex}
use Rattle.log_text.proofs.Digits.{hex_long}
use Rattle.log_text.proofs.Pieces.{channelled, channelled_short, notice_is}
use Rattle.log_text.proofs.Adding.{Short, adds_same, adds_then, short_then, short_room}
use Rattle.log_text.proofs.notice_line.Statement.{statement}
use Rattle.log_text.proofs.notice_line.Tie as tie

-- ---- the places behind the calls

abbrev start : tie.After-channelled-n1 → tie.Start
start c = c.before.before.before

abbrev first : tie.After-hex2-n2 → tie.After-channelled-n1
first c = c.before.before.before.before

-- ---- the text so far, behind each call

so_far_1 : (c : tie.After-channelled-n1) → let a = (start c).args in
    Short (channelled 97 114 101 a.bus a.channel) a.out.now a.at c.channelled-n1.new.out c.channelled-n1.result 46
so_far_1 c = let a = (start c).args in channelled_short 97 114 101 a.bus a.channel c.channelled-n1.ensures

so_far_2 : (c : tie.After-hex2-n2) → let a = (start (first c)).args in
    Short (channelled 97 114 101 a.bus a.channel ++ hex 2 a.diagnostics) a.out.now a.at c.hex2-n2.new.out c.hex2-n2.result 48
so_far_2 c = short_then 2 (so_far_1 (first c)) c.hex2-n2.ensures (omega (arith, hex_long 2 (start (first c)).args.diagnostics))

-- ---- the needs

channelled-n1-requires : tie.Need-channelled-n1-requires
channelled-n1-requires c κs = search rules

hex2-n2-requires : tie.Need-hex2-n2-requires
hex2-n2-requires c κs = short_room 2 (so_far_1 c.before.before.before) (omega arith)

put-requires : tie.Need-put-requires
put-requires c κs = omega (arith, short_room 1 (so_far_2 c.before.before.before) (omega arith))

shape_of-out : tie.Need-shape_of-out
shape_of-out c = search rules

returns : tie.Need-returns
returns c =
    let p = c.before.before in
    let t = p.before.before.before.before in
    let a = (start (first t)).args in
    adds_same (adds_then (so_far_2 t).adds p.put.ensures) (notice_is a.bus a.channel a.diagnostics)

pub notice_line_spec : {M : Type 1} → statement M
notice_line_spec = tie.close (tie.spec channelled-n1-requires hex2-n2-requires put-requires shape_of-out returns)
