use native.Mathlib.Omega.{arith}
use borrow.Author.Rules.{rules}
use lib.ListN.{length}
use Rattle.format.specs.Lists.{text, list}
use Rattle.format.specs.Listing.{decimal}
use Rattle.log_text.proofs.Digits.{decimal_few}
use Rattle.log_text.proofs.Adding.{adds_none, adds_then, short, short_room}
use Rattle.log_text.proofs.tag_text.Statement.{statement}
use Rattle.log_text.proofs.tag_text.Tie as tie

enum_told-1 : tie.Need-enum_told-1
enum_told-1 c = search rules

enum_known-tag : tie.Need-enum_known-tag
enum_known-tag c = search rules

four-n1-requires : tie.Need-four-n1-requires
four-n1-requires c κs = search rules

microseconds_of-requires : tie.Need-microseconds_of-requires
microseconds_of-requires c κs = search rules

number-requires : tie.Need-number-requires
number-requires c κs =
    let n = c.microseconds_of.result in
    short_room (length (decimal n)) (short 4 c.four-n1.ensures (omega arith)) (omega (arith, decimal_few n))

returns-in-Untagged : tie.Need-returns-in-Untagged
returns-in-Untagged c =
    let a = c.args in
    rw c.in-Untagged.is (adds_none a.out.now a.at (omega arith))

shape_of-out : tie.Need-shape_of-out
shape_of-out c = search rules

returns-in-At : tie.Need-returns-in-At
unfolding text list
returns-in-At c =
    let n = c.before.before in
    let f = n.before.before.before.before.before in
    rw (f.in-At.is, ← n.microseconds_of.ensures) (adds_then f.four-n1.ensures n.number.ensures)

pub tag_text_spec : {M : Type 1} → statement M
tag_text_spec =
    tie.close
    (tie.spec
    enum_told-1
    enum_known-tag
    four-n1-requires
    microseconds_of-requires
    number-requires
    returns-in-Untagged
    shape_of-out
    returns-in-At)
