use native.Mathlib.Omega.{arith}
use borrow.Author.Rules.{rules}
use lib.ListN.{length}
use Rattle.format.specs.Lists.{text, list}
use Rattle.format.specs.Listing.{decimal}
use Rattle.log_text.proofs.Digits.{decimal_few}
use Rattle.log_text.proofs.Adding.{Short, adds_none, adds_then, short, short_then, short_room}
use Rattle.log_text.proofs.response_text.Statement.{statement}
use Rattle.log_text.proofs.response_text.Tie as tie

-- ---- the places: there is a response, and behind the calls

abbrev start : tie.In-After → tie.Start
start c = c.before.before

abbrev response : tie.After-four-n1 → tie.In-After
response c = c.before.before

abbrev first : tie.After-two-n2 → tie.After-four-n1
first c = c.before.before.before.before

-- ---- the text so far, behind each call

so_far_1 : (c : tie.After-four-n1) → let a = (start (response c)).args in Short (text " res") a.out.now a.at c.four-n1.new.out c.four-n1.result 4
unfolding text list
so_far_1 c = short 4 c.four-n1.ensures (omega arith)

so_far_2 : (c : tie.After-two-n2) → let a = (start (response (first c))).args in
    Short (text " resp ") a.out.now a.at c.two-n2.new.out c.two-n2.result 6
unfolding text list
so_far_2 c = short_then 2 (so_far_1 (first c)) c.two-n2.ensures (omega arith)

-- ---- the needs

enum_told-1 : tie.Need-enum_told-1
enum_told-1 c = search rules

enum_known-response : tie.Need-enum_known-response
enum_known-response c = search rules

four-n1-requires : tie.Need-four-n1-requires
four-n1-requires c κs = search rules

two-n2-requires : tie.Need-two-n2-requires
two-n2-requires c κs = short_room 2 (so_far_1 c.before.before.before) (omega arith)

overflow_cast-micro : tie.Need-overflow_cast-micro
overflow_cast-micro c = search rules

number-requires : tie.Need-number-requires
number-requires c κs =
    let p = c.before.before.before in
    let n = (response (first p)).in-After.micro in
    short_room (length (decimal n)) (so_far_2 p) (omega (arith, decimal_few n))

returns-in-Untimed : tie.Need-returns-in-Untimed
returns-in-Untimed c =
    let a = c.args in
    rw c.in-Untimed.is (adds_none a.out.now a.at (omega arith))

shape_of-out : tie.Need-shape_of-out
shape_of-out c = search rules

returns-in-After : tie.Need-returns-in-After
unfolding text list
returns-in-After c =
    let n = c.before.before in
    let p = n.before.before.before.before in
    rw (response (first p)).in-After.is (adds_then (so_far_2 p).adds n.number.ensures)

pub response_text_spec : {M : Type 1} → statement M
response_text_spec =
    tie.close
    (tie.spec
    enum_told-1
    enum_known-response
    four-n1-requires
    two-n2-requires
    overflow_cast-micro
    number-requires
    returns-in-Untimed
    shape_of-out
    returns-in-After)
