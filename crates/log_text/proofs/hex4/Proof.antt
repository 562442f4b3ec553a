use Prim.Native.Nat.{◌/◌}
use native.Mathlib.Omega.{arith}
use borrow.Author.Rules.{rules}
use mathlib.Core.Path.{sym}
use Rattle.log_text.proofs.Digits.{hex_cat, hex_long}
use Rattle.log_text.proofs.Adding.{adds_room, adds_same, adds_then}
use Rattle.log_text.proofs.hex4.Statement.{statement}
use Rattle.log_text.proofs.hex4.Tie as tie

-- behind the high half
abbrev start : tie.After-hex2-next → tie.Start
start c = c.before.before.before

hex2-next-requires : tie.Need-hex2-next-requires
hex2-next-requires c κs = search rules

hex2-requires : tie.Need-hex2-requires
hex2-requires c κs =
    let high = c.before.before.before in
    adds_room high.hex2-next.ensures 2 (rw (hex_long 2 ((start high).args.n / 256)) (omega arith))

shape_of-out : tie.Need-shape_of-out
shape_of-out c = search rules

returns : tie.Need-returns
returns c =
    let low = c.before.before in
    let high = low.before.before.before.before in
    adds_same (adds_then high.hex2-next.ensures low.hex2.ensures) (sym (hex_cat 2 2 (start high).args.n))

pub hex4_spec : {M : Type 1} → statement M
hex4_spec = tie.close (tie.spec hex2-next-requires hex2-requires shape_of-out returns)
