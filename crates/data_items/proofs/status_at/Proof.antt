use native.Mathlib.Omega.{arith}
use Rattle.data_items.proofs.Arms.{here_none, low_at, status_says, status_taken}
use borrow.Author.Rules.{rules}
use Rattle.data_items.proofs.status_at.Statement.{statement}
use Rattle.data_items.proofs.status_at.Tie as tie

abbrev before-else1 : tie.Else-response-ge10000 → tie.Start
before-else1 c = c.before.before.before.before

abbrev before-top_of : tie.After-top_of-then → tie.Else-response-ge10000
before-top_of c = c.before.before.before

abbrev before-else2 : tie.Else-then-top → tie.After-top_of-then
before-else2 c = c.before

abbrev before-else3 : tie.Else-then-lt8 → tie.Else-then-top
before-else3 c = c.before

abbrev before-else4 : tie.Else-then-ne2 → tie.Else-then-lt8
before-else4 c = c.before

abbrev before-put_in : tie.After-put_in-put → tie.Else-then-ne2
before-put_in c = c.before.before

abbrev start-top_of : tie.After-top_of-then → tie.Start
start-top_of c = c.before.before.before.before.before.before.before

abbrev start-else2 : tie.Else-then-top → tie.Start
start-else2 c = c.before.before.before.before.before.before.before.before

abbrev start-else3 : tie.Else-then-lt8 → tie.Start
start-else3 c = c.before.before.before.before.before.before.before.before.before

abbrev start-else4 : tie.Else-then-ne2 → tie.Start
start-else4 c = c.before.before.before.before.before.before.before.before.before.before

abbrev start-put_in : tie.After-put_in-put → tie.Start
start-put_in c = c.before.before.before.before.before.before.before.before.before.before.before.before

returns-then-response-ge10000 : tie.Need-returns-then-response-ge10000
returns-then-response-ge10000 c = λ ks k. here_none c.requires.0

overflow_add-status : tie.Need-overflow_add-status
overflow_add-status c = omega (arith, (before-else1 c.before).requires.0.five)

offset_bounds-row-from : tie.Need-offset_bounds-row-from
offset_bounds-row-from c = omega (arith, (before-else1 c.before).requires.0.five)

bounds-row-from : tie.Need-bounds-row-from
bounds-row-from c = omega (arith, (before-else1 c.before.before).requires.0.five)

top_of-then-requires : tie.Need-top_of-then-requires
top_of-then-requires c κs = ((before-else1 c.before.before).requires.0.all, low_at (before-else1 c.before.before).requires.0 1 (omega arith))

returns-then-then-top : tie.Need-returns-then-then-top
returns-then-then-top c = λ ks k. here_none (start-top_of c.before).requires.0

returns-then-then-lt8 : tie.Need-returns-then-then-lt8
returns-then-then-lt8 c = λ ks k. here_none (start-else2 c.before).requires.0

returns-then-then-ne2 : tie.Need-returns-then-then-ne2
returns-then-then-ne2 c = λ ks k. here_none (start-else3 c.before).requires.0

overflow_add-bits : tie.Need-overflow_add-bits
overflow_add-bits c = search rules

overflow_mul-bits : tie.Need-overflow_mul-bits
overflow_mul-bits c = search rules

overflow_sub-bits : tie.Need-overflow_sub-bits
overflow_sub-bits c = search rules

overflow_add-bits-2 : tie.Need-overflow_add-bits-2
overflow_add-bits-2 c = search rules

overflow_mul-bits-2 : tie.Need-overflow_mul-bits-2
overflow_mul-bits-2 c = search rules

overflow_add-bits-3 : tie.Need-overflow_add-bits-3
overflow_add-bits-3 c = search rules

overflow_add-bits-4 : tie.Need-overflow_add-bits-4
overflow_add-bits-4 c = search rules

overflow_cast-bits : tie.Need-overflow_cast-bits
overflow_cast-bits c = search rules

overflow_mul-bits-3 : tie.Need-overflow_mul-bits-3
overflow_mul-bits-3 c = search rules

overflow_cast-response : tie.Need-overflow_cast-response
overflow_cast-response c = search rules

overflow_add-bits-5 : tie.Need-overflow_add-bits-5
overflow_add-bits-5 c = search rules

put_in-put-requires : tie.Need-put_in-put-requires
put_in-put-requires c κs = (
  omega (arith, (start-else4 c.before).requires.0.few),
  omega arith,
  (status_says (start-else4 c.before).requires.0
      (start-else4 c.before).requires.1 (omega (arith, (before-top_of (before-else2 (before-else3 (before-else4 c.before)))).if-response-ge10000.false))
      (before-else2 (before-else3 (before-else4 c.before))).top_of-then.ensures.0 (before-else3 (before-else4 c.before)).if-then-top.false
      (before-else4 c.before).if-then-lt8.false c.if-then-ne2.false).fits,
  omega (arith, (start-else4 c.before).requires.0.room),
)

overflow_add-behind : tie.Need-overflow_add-behind
overflow_add-behind c = omega (arith, (start-put_in c.before.before.before).requires.0.five)

shape_of-out : tie.Need-shape_of-out
shape_of-out c = search rules

returns : tie.Need-returns
returns c = λ ks k. status_taken (start-put_in c.before.before.before).requires.0 (start-put_in c.before.before.before).requires.1
    (omega (arith, (before-top_of (before-else2 (before-else3 (before-else4 (before-put_in c.before.before.before))))).if-response-ge10000.false))
    (before-else2 (before-else3 (before-else4 (before-put_in c.before.before.before)))).top_of-then.ensures.0
    (before-else3 (before-else4 (before-put_in c.before.before.before))).if-then-top.false (before-else4 (before-put_in c.before.before.before)).if-then-lt8.false
    (before-put_in c.before.before.before).if-then-ne2.false ks k c.put_in-put.ensures

pub status_at_spec : {M : Type 1} → statement M
status_at_spec =
    tie.close
    (tie.spec
    returns-then-response-ge10000
    overflow_add-status
    offset_bounds-row-from
    bounds-row-from
    top_of-then-requires
    returns-then-then-top
    returns-then-then-lt8
    returns-then-then-ne2
    overflow_add-bits
    overflow_mul-bits
    overflow_sub-bits
    overflow_add-bits-2
    overflow_mul-bits-2
    overflow_add-bits-3
    overflow_add-bits-4
    overflow_cast-bits
    overflow_mul-bits-3
    overflow_cast-response
    overflow_add-bits-5
    put_in-put-requires
    overflow_add-behind
    shape_of-out
    returns)
