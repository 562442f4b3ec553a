use native.Mathlib.Omega.{arith}
use mathlib.Core.Path.{sym}
use lib.Seq.{length-take-le}
use Rattle.data_run.proofs.Rows.{from_front, from_none, front_roomy, least_le, words_front}
use lib.ListN.{length}
use Prim.Native.Nat.{◌+◌}
use borrow.Author.Rules.{rules}
use Rattle.data_run.proofs.items_from.Statement.{statement}
use Rattle.data_run.proofs.items_from.Tie as tie

abbrev before-words_in : tie.After-words_in → tie.Then-held-eq0
before-words_in c = c.before

abbrev before-least : tie.After-least-end → tie.After-words_in
before-least c = c.before

abbrev before-take : tie.After-take → tie.After-least-end
before-take c = c.before.before

abbrev start-words_in : tie.After-words_in → tie.Start
start-words_in c = c.before.before.before.before.before.before.before

abbrev start-least : tie.After-least-end → tie.Start
start-least c = c.before.before.before.before.before.before.before.before

abbrev start-take : tie.After-take → tie.Start
start-take c = c.before.before.before.before.before.before.before.before.before.before

words_in-requires : tie.Need-words_in-requires
words_in-requires c κs = search rules

overflow_add-i : tie.Need-overflow_add-i
overflow_add-i c = omega (arith, c.words_in.ensures, (start-words_in c).requires.1, (start-words_in c).requires.2)

least-end-requires : tie.Need-least-end-requires
least-end-requires c κs = search rules

slice_bounds-take-end : tie.Need-slice_bounds-take-end
slice_bounds-take-end c = sym (length-take-le _ (start-least c).args.row.now
    (least_le (length (start-least c).args.row.now) ((start-least c).args.i + (before-least c).words_in.result)
    c.least-end.ensures))

take-requires : tie.Need-take-requires
take-requires c κs = (
  words_front (start-least c.before).args.row.now _
      (least_le (length (start-least c.before).args.row.now) ((start-least c.before).args.i +
      (before-least c.before).words_in.result) c.least-end.ensures) (start-least c.before).requires.0,
  front_roomy
      (start-least c.before).args.row.now (start-least c.before).args.pass (start-least c.before).args.i
      (start-least c.before).args.out.now (start-least c.before).requires.1 (start-least c.before).requires.2
      (start-least c.before).requires.3 c.least-end.ensures (before-least c.before).words_in.ensures,
)

shape_of-out-then-held-eq0 : tie.Need-shape_of-out-then-held-eq0
shape_of-out-then-held-eq0 c = search rules

returns-then-held-eq0 : tie.Need-returns-then-held-eq0
returns-then-held-eq0 c = from_front _ _ (start-take c.before.before).args.row.now (start-take c.before.before).args.pass (start-take c.before.before).args.i
    (least_le (length (start-take c.before.before).args.row.now) ((start-take c.before.before).args.i +
    (before-least (before-take c.before.before)).words_in.result) (before-take c.before.before).least-end.ensures)
    (before-words_in (before-least (before-take c.before.before))).if-held-eq0.true c.take.ensures

returns : tie.Need-returns
returns c = from_none c.requires.1

pub items_from_spec : {M : Type 1} → statement M
items_from_spec =
    tie.close
    (tie.spec
    words_in-requires
    overflow_add-i
    least-end-requires
    slice_bounds-take-end
    take-requires
    shape_of-out-then-held-eq0
    returns-then-held-eq0
    returns)
