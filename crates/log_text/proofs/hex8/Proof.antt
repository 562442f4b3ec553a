use Prim.Native.Nat.{◌/◌}
use native.Mathlib.Omega.{arith}
use borrow.Author.Rules.{rules}
use mathlib.Core.Path.{sym}
use Rattle.log_text.proofs.Digits.{hex_cat, hex_long}
use Rattle.log_text.proofs.Adding.{adds_room, adds_same, adds_then}
use Rattle.log_text.proofs.hex8.Statement.{statement}
use Rattle.log_text.proofs.hex8.Tie as tie

-- behind the high half
abbrev start : tie.After-hex4-next → tie.Start
start c = c.before.before.before

hex4-next-requires : tie.Need-hex4-next-requires
hex4-next-requires c κs = search rules

hex4-requires : tie.Need-hex4-requires
hex4-requires c κs =
    let high = c.before.before.before in
    adds_room high.hex4-next.ensures 4 (rw (hex_long 4 ((start high).args.n / 65536)) (omega arith))

shape_of-out : tie.Need-shape_of-out
shape_of-out c = search rules

returns : tie.Need-returns
returns c =
    let low = c.before.before in
    let high = low.before.before.before.before in
    adds_same (adds_then high.hex4-next.ensures low.hex4.ensures) (sym (hex_cat 4 4 (start high).args.n))

pub hex8_spec : {M : Type 1} → statement M
hex8_spec = tie.close (tie.spec hex4-next-requires hex4-requires shape_of-out returns)
