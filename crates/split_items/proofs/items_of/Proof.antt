use native.Mathlib.Omega.{arith}
use borrow.Author.Rules.{rules}
use Rattle.split_items.proofs.items_of.Statement.{statement}
use Rattle.split_items.proofs.items_of.Tie as tie

slice_bounds-items_by-end : tie.Need-slice_bounds-items_by-end
slice_bounds-items_by-end c = search rules

items_by-requires : tie.Need-items_by-requires
items_by-requires c κs = let s = c.before.before.before.before.before in (s.requires.0, s.requires.1, λ size a b. omega (arith, a, c.if-words-le256.true))

shape_of-log-then-words-le256 : tie.Need-shape_of-log-then-words-le256
shape_of-log-then-words-le256 c = search rules

returns-then-words-le256 : tie.Need-returns-then-words-le256
returns-then-words-le256 c = search rules

slice_bounds-items_by-end-2 : tie.Need-slice_bounds-items_by-end-2
slice_bounds-items_by-end-2 c = search rules

items_by-requires-2 : tie.Need-items_by-requires-2
items_by-requires-2 c κs = let s = c.before.before.before.before.before in (s.requires.0, s.requires.1, λ size a b. omega (arith, b))

shape_of-log : tie.Need-shape_of-log
shape_of-log c = search rules

returns : tie.Need-returns
returns c = search rules

pub items_of_spec : {M : Type 1} → statement M
items_of_spec =
    tie.close
    (tie.spec
    slice_bounds-items_by-end
    items_by-requires
    shape_of-log-then-words-le256
    returns-then-words-le256
    slice_bounds-items_by-end-2
    items_by-requires-2
    shape_of-log
    returns)
