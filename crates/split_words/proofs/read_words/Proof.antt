use Prim.Native.Nat.{ℕ, ◌*◌, ◌/◌, ◌%◌}
use native.Mathlib.Omega.{arith}
use borrow.Author.Rules.{rules}
use borrow.Author.Tests.{not-true, not-false, eqb-true}
use mathlib.Core.Bool.{true}
use mathlib.Core.List.{List}
use mathlib.Core.Path.{◌≡◌, sym, ◌∙◌}
use lib.ListN.{length}
use Rattle.format.specs.Plan.{group_words, legal}
use Rattle.format.specs.Laws.Legal.{shape_of}
use Rattle.format.specs.Laws.Limits.{Shape}
use Rattle.capture_parts.proofs.Given.{given_refused}
use Rattle.split_words.proofs.Given.{illegal_refused, long_refused, ragged_refused, read_on}
use Rattle.split_words.proofs.read_words.Statement.{statement}
use Rattle.split_words.proofs.read_words.Tie as tie

-- ---- the places

-- the plan was judged
abbrev Judged : Type 0
Judged = tie.After-legal

abbrev start : Judged → tie.Start
start c = c.before.before.before.before

abbrev capture : Judged → List ℕ
capture c = (start c).args.capture.now

-- it is legal
abbrev Legal : Type 0
Legal = tie.Else-not-legal

is_legal : (c : Legal) → legal (start c.before).args.plan (start c.before).args.kinds ≡ true
is_legal c = sym c.legal.ensures ∙ c.if-not-legal.false

shape : (c : Legal) → Shape (start c.before).args.plan
shape c = shape_of _ _ (is_legal c)

-- the capture is whole groups
abbrev Whole : Type 0
Whole = tie.Else-not-is_whole

abbrev of_legal : Whole → Legal
of_legal c = c.before.before.before

whole : (c : Whole) → let j = (of_legal c).before in length (capture j) % (3 * group_words (start j).args.plan) ≡ 0
whole c = eqb-true _ _ (sym c.is_whole.ensures ∙ c.if-not-is_whole.false)

-- ---- the needs

legal-requires : tie.Need-legal-requires
legal-requires c κs = search rules

refusal-requires : tie.Need-refusal-requires
refusal-requires c κs = search rules

returns-then-not-legal : tie.Need-returns-then-not-legal
returns-then-not-legal c =
    let j = c.before.before in
    let s = start j in
    given_refused s.args.words.now s.args.times.now
    (illegal_refused s.args.plan s.args.kinds (capture j) _ _ (sym j.legal.ensures ∙ c.if-not-legal.true)) c.refusal.ensures

refusal-requires-then-length-gt1048576 : tie.Need-refusal-requires-then-length-gt1048576
refusal-requires-then-length-gt1048576 c κs = search rules

returns-then-length-gt1048576 : tie.Need-returns-then-length-gt1048576
returns-then-length-gt1048576 c =
    let l = c.before.before in
    let s = start l.before in
    given_refused s.args.words.now s.args.times.now
    (long_refused s.args.plan s.args.kinds (capture l.before) _ _ (is_legal l) c.if-length-gt1048576.true) c.refusal-then-length-gt1048576.ensures

is_whole-requires : tie.Need-is_whole-requires
is_whole-requires c κs = (shape c.before, c.if-length-gt1048576.false)

refusal-requires-then-not-is_whole : tie.Need-refusal-requires-then-not-is_whole
refusal-requires-then-not-is_whole c κs = search rules

returns-then-not-is_whole : tie.Need-returns-then-not-is_whole
returns-then-not-is_whole c =
    let w = c.before.before in
    let l = w.before.before in
    let s = start l.before in
    given_refused s.args.words.now s.args.times.now
    (ragged_refused s.args.plan s.args.kinds (capture l.before) _ _ (is_legal l) w.if-length-gt1048576.false
    (sym w.is_whole.ensures ∙ c.if-not-is_whole.true))
    c.refusal-then-not-is_whole.ensures

words_of-requires : tie.Need-words_of-requires
words_of-requires c κs = let w = c.before.before in (shape (of_legal w), w.if-length-gt1048576.false, whole w)

shape_of-words : tie.Need-shape_of-words
shape_of-words c = search rules

shape_of-times : tie.Need-shape_of-times
shape_of-times c = search rules

returns : tie.Need-returns
returns c =
    let r = c.before.before.before.before in
    let w = r.before.before.before in
    let l = of_legal w in
    let s = start l.before in
    rw (read_on s.args.plan s.args.kinds (capture l.before) (length s.args.words.now) (length s.args.times.now) (is_legal l) w.if-length-gt1048576.false (whole w))
    r.words_of.ensures

pub read_words_spec : {M : Type 1} → statement M
read_words_spec =
    tie.close
    (tie.spec
    legal-requires
    refusal-requires
    returns-then-not-legal
    refusal-requires-then-length-gt1048576
    returns-then-length-gt1048576
    is_whole-requires
    refusal-requires-then-not-is_whole
    returns-then-not-is_whole
    words_of-requires
    shape_of-words
    shape_of-times
    returns)
