use Prim.Native.Nat.{ℕ, ◌+◌, ◌*◌, ◌/◌, ◌%◌, ◌≤◌}
use native.Mathlib.Omega.{arith}
use borrow.Author.Rules.{rules}
use borrow.Author.Tests.{not-true, not-false, eqb-true}
use mathlib.Core.Bool.{true}
use mathlib.Core.List.{List}
use mathlib.Core.Path.{◌≡◌, sym, ◌∙◌}
use lib.ListN.{length}
use Rattle.format.specs.Plan.{group_words, legal}
use Rattle.format.specs.Read.{reading, read_groups, settled}
use Rattle.format.specs.declared.Held.TheVariants.{Nothing}
use Rattle.format.specs.Laws.Limits.{Shape}
use Rattle.read.specs.Room.{Enough}
use Rattle.read.proofs.Short.{small_enough, room_enough}
use Rattle.read.proofs.Given.{shape_of, illegal_refused, long_refused, ragged_refused, read_on}
use Rattle.read.proofs.read_either.Statement.{statement}
use Rattle.read.proofs.read_either.Tie as tie
use Rattle.capture_parts.proofs.Given.{given_refused}

-- ---- the places

-- the plan was judged
abbrev Judged : Type 0
Judged = tie.After-legal

abbrev start : Judged → tie.Start
start c = c.before.before.before.before

abbrev capture : Judged → List ℕ
capture c = (start c).args.capture.now

-- it is legal
abbrev Legal : Type 0
Legal = tie.Else-not-legal

is_legal : (c : Legal) → legal (start c.before).args.plan (start c.before).args.kinds ≡ true
is_legal c = sym c.legal.ensures ∙ c.if-not-legal.false

shape : (c : Legal) → Shape (start c.before).args.plan
shape c = shape_of _ _ (is_legal c)

-- the capture is whole groups
abbrev Whole : Type 0
Whole = tie.Else-not-is_whole

abbrev is_judged : Whole → Judged
is_judged c = c.before.before.before.before

whole : (c : Whole) → length (capture (is_judged c)) % (3 * group_words (start (is_judged c)).args.plan) ≡ 0
whole c = eqb-true _ _ (sym c.is_whole.ensures ∙ c.if-not-is_whole.false)

-- what a reading of one of the sizes asks
asked : (c : Whole) → Shape (start (is_judged c)).args.plan × (length (capture (is_judged c)) ≤ 1048576)
    × (length (capture (is_judged c)) % (3 * group_words (start (is_judged c)).args.plan) ≡ 0)
asked c = (shape c.before.before.before, c.if-length-gt1048576.false, whole c)

-- and the array has room for the capture's log
enough : (c : Whole) (built : ℕ) → 13 * length (capture (is_judged c)) + 89 ≤ 12 * built
    → Enough (start (is_judged c)).args.plan (start (is_judged c)).args.kinds (capture (is_judged c)) built (length (start (is_judged c)).args.log.now)
enough c built h =
    let j = is_judged c in
    small_enough _ (capture j) (λ i. omega (arith, j.shared_slice_known-1.given i)) _ built _ (shape c.before.before.before) (whole c) h

-- ---- the needs

legal-requires : tie.Need-legal-requires
legal-requires c κs = search rules

refusal-requires : tie.Need-refusal-requires
refusal-requires c κs = search rules

returns-then-not-legal : tie.Need-returns-then-not-legal
returns-then-not-legal c =
    let j = c.before.before in
    let s = start j in
    given_refused s.args.log.now s.args.times.now
    (illegal_refused s.args.closed s.args.plan s.args.kinds (capture j) _ _ (sym j.legal.ensures ∙ c.if-not-legal.true))
    c.refusal.ensures

refusal-requires-then-length-gt1048576 : tie.Need-refusal-requires-then-length-gt1048576
refusal-requires-then-length-gt1048576 c κs = search rules

returns-then-length-gt1048576 : tie.Need-returns-then-length-gt1048576
returns-then-length-gt1048576 c =
    let l = c.before.before in
    let s = start l.before in
    given_refused s.args.log.now s.args.times.now
    (long_refused s.args.closed s.args.plan s.args.kinds (capture l.before) _ _ (is_legal l) c.if-length-gt1048576.true)
    c.refusal-then-length-gt1048576.ensures

is_whole-requires : tie.Need-is_whole-requires
is_whole-requires c κs = (shape c.before, c.if-length-gt1048576.false)

refusal-requires-then-not-is_whole : tie.Need-refusal-requires-then-not-is_whole
refusal-requires-then-not-is_whole c κs = search rules

returns-then-not-is_whole : tie.Need-returns-then-not-is_whole
returns-then-not-is_whole c =
    let w = c.before.before in
    let l = w.before.before in
    let s = start l.before in
    given_refused s.args.log.now s.args.times.now
    (ragged_refused s.args.closed s.args.plan s.args.kinds (capture l.before) _ _ (is_legal l) w.if-length-gt1048576.false
    (sym w.is_whole.ensures ∙ c.if-not-is_whole.true))
    c.refusal-then-not-is_whole.ensures

-- the reading is that of the groups
abbrev groups : Whole → ℕ
groups c = length (capture (is_judged c)) / (3 * group_words (start (is_judged c)).args.plan)

read_is : (c : Whole) → (let j = is_judged c in let s = start j in
    reading s.args.closed s.args.plan s.args.kinds (capture j) (length s.args.log.now) (length s.args.times.now)
    ≡ settled s.args.plan (capture j) (groups c) (length s.args.log.now) (length s.args.times.now) s.args.closed
    (read_groups s.args.plan s.args.kinds (capture j) (groups c) 0 Nothing 0))
read_is c =
    let j = is_judged c in
    let s = start j in
    let l = c.before.before.before in
    read_on s.args.closed s.args.plan s.args.kinds (capture j) (length s.args.log.now) (length s.args.times.now) (is_legal l) c.if-length-gt1048576.false
    (whole c)

read_tiny-requires : tie.Need-read_tiny-requires
read_tiny-requires c κs = let w = c.before.before.before in (asked w, enough w 552 (omega (arith, c.if-length-le501.true)))

shape_of-log-then-length-le501 : tie.Need-shape_of-log-then-length-le501
shape_of-log-then-length-le501 c = search rules

shape_of-times-then-length-le501 : tie.Need-shape_of-times-then-length-le501
shape_of-times-then-length-le501 c = search rules

returns-then-length-le501 : tie.Need-returns-then-length-le501
returns-then-length-le501 c = let r = c.before.before.before.before in rw (read_is r.before.before.before.before) r.read_tiny.ensures

read_small-requires : tie.Need-read_small-requires
read_small-requires c κs = let w = c.before.before.before.before in (asked w, enough w 2056 (omega (arith, c.if-length-le1884.true)))

shape_of-log-then-length-le1884 : tie.Need-shape_of-log-then-length-le1884
shape_of-log-then-length-le1884 c = search rules

shape_of-times-then-length-le1884 : tie.Need-shape_of-times-then-length-le1884
shape_of-times-then-length-le1884 c = search rules

returns-then-length-le1884 : tie.Need-returns-then-length-le1884
returns-then-length-le1884 c = let r = c.before.before.before.before in rw (read_is r.before.before.before.before.before) r.read_small.ensures

read_small-requires-then-log-le2048 : tie.Need-read_small-requires-then-log-le2048
read_small-requires-then-log-le2048 c κs = (asked c.before.before.before.before.before, room_enough _ _ _ _ c.if-log-le2048.true)

shape_of-log-then-log-le2048 : tie.Need-shape_of-log-then-log-le2048
shape_of-log-then-log-le2048 c = search rules

shape_of-times-then-log-le2048 : tie.Need-shape_of-times-then-log-le2048
shape_of-times-then-log-le2048 c = search rules

returns-then-log-le2048 : tie.Need-returns-then-log-le2048
returns-then-log-le2048 c = let r = c.before.before.before.before in rw (read_is r.before.before.before.before.before.before) r.read_small-then-log-le2048.ensures

read_middle-requires : tie.Need-read_middle-requires
read_middle-requires c κs = let w = c.before.before.before.before.before.before in (asked w, enough w 8200 (omega (arith, c.if-length-le7560.true)))

shape_of-log-then-length-le7560 : tie.Need-shape_of-log-then-length-le7560
shape_of-log-then-length-le7560 c = search rules

shape_of-times-then-length-le7560 : tie.Need-shape_of-times-then-length-le7560
shape_of-times-then-length-le7560 c = search rules

returns-then-length-le7560 : tie.Need-returns-then-length-le7560
returns-then-length-le7560 c = let r = c.before.before.before.before in rw (read_is r.before.before.before.before.before.before.before) r.read_middle.ensures

read_large-requires : tie.Need-read_large-requires
read_large-requires c κs = asked c.before.before.before.before.before.before

shape_of-log : tie.Need-shape_of-log
shape_of-log c = search rules

shape_of-times : tie.Need-shape_of-times
shape_of-times c = search rules

returns : tie.Need-returns
returns c = let r = c.before.before.before.before in rw (read_is r.before.before.before.before.before.before.before) r.read_large.ensures

pub read_either_spec : {M : Type 1} → statement M
read_either_spec =
    tie.close
    (tie.spec
    legal-requires
    refusal-requires
    returns-then-not-legal
    refusal-requires-then-length-gt1048576
    returns-then-length-gt1048576
    is_whole-requires
    refusal-requires-then-not-is_whole
    returns-then-not-is_whole
    read_tiny-requires
    shape_of-log-then-length-le501
    shape_of-times-then-length-le501
    returns-then-length-le501
    read_small-requires
    shape_of-log-then-length-le1884
    shape_of-times-then-length-le1884
    returns-then-length-le1884
    read_small-requires-then-log-le2048
    shape_of-log-then-log-le2048
    shape_of-times-then-log-le2048
    returns-then-log-le2048
    read_middle-requires
    shape_of-log-then-length-le7560
    shape_of-times-then-length-le7560
    returns-then-length-le7560
    read_large-requires
    shape_of-log
    shape_of-times
    returns)
