use native.Mathlib.Omega.{arith}
use borrow.Author.Rules.{rules}
use mathlib.Core.List.{[], ◌∷◌, ◌++◌, append_assoc}
use Rattle.format.specs.Listing.{side, hex}
use Rattle.log_text.specs.Text.{named}
use Rattle.log_text.proofs.Pieces.{named_short}
use Rattle.log_text.proofs.Adding.{Short, adds_same, adds_then, short_then, short_room}
use Rattle.log_text.proofs.sided.Statement.{statement}
use Rattle.log_text.proofs.sided.Tie as tie

-- ---- the places behind the calls

abbrev start : tie.After-start-n1 → tie.Start
start c = c.before.before.before

abbrev first : tie.After-two-n2 → tie.After-start-n1
first c = c.before.before.before.before.before

-- ---- the text so far, behind each call

so_far_1 : (c : tie.After-start-n1) → let a = (start c).args in
    Short (named a.a a.b a.c a.bus) a.out.now a.at c.start-n1.new.out c.start-n1.result 25
so_far_1 c = let a = (start c).args in named_short a.a a.b a.c a.bus c.start-n1.ensures

so_far_2 : (c : tie.After-two-n2) → let a = (start (first c)).args in
    Short (named a.a a.b a.c a.bus ++ (c.side_letter.result ∷ 32 ∷ [])) a.out.now a.at c.two-n2.new.out c.two-n2.result 27
so_far_2 c = short_then 2 (so_far_1 (first c)) c.two-n2.ensures (omega arith)

-- ---- the needs

start-n1-requires : tie.Need-start-n1-requires
start-n1-requires c κs = search rules

side_letter-requires : tie.Need-side_letter-requires
side_letter-requires c κs = search rules

two-n2-requires : tie.Need-two-n2-requires
two-n2-requires c κs = short_room 2 (so_far_1 c.before.before.before.before) (omega arith)

hex4-requires : tie.Need-hex4-requires
hex4-requires c κs = short_room 4 (so_far_2 c.before.before.before) (omega arith)

shape_of-out : tie.Need-shape_of-out
shape_of-out c = search rules

returns : tie.Need-returns
returns c =
    let p = c.before.before in
    let t = p.before.before.before.before in
    let a = (start (first t)).args in
    adds_same (adds_then (so_far_2 t).adds p.hex4.ensures)
    (rw (← t.side_letter.ensures) (append_assoc (named a.a a.b a.c a.bus) (_ ∷ 32 ∷ []) (hex 4 a.word)))

pub sided_spec : {M : Type 1} → statement M
sided_spec = tie.close (tie.spec start-n1-requires side_letter-requires two-n2-requires hex4-requires shape_of-out returns)
