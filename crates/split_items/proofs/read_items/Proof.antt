use Prim.Native.Nat.{ℕ}
use borrow.Author.Rules.{rules}
use borrow.Author.Tests.{not-true, not-false}
use mathlib.Core.Bool.{true}
use mathlib.Core.Path.{◌≡◌, sym, ◌∙◌}
use lib.ListN.{length}
use Rattle.format.specs.Plan.{legal}
use Rattle.format.specs.Laws.Legal.{shape_of}
use Rattle.split_items.proofs.Given.{illegal_refused, log_refused, many_refused, read_on}
use Rattle.split_items.proofs.read_items.Statement.{statement}
use Rattle.split_items.proofs.read_items.Tie as tie

-- ---- the places

-- the plan was judged
abbrev start : tie.After-legal → tie.Start
start c = c.before.before.before

is_legal : (c : tie.Else-not-legal) → legal (start c.before).args.plan (start c.before).args.kinds ≡ true
is_legal c = sym c.legal.ensures ∙ c.if-not-legal.false

-- ---- the needs

legal-requires : tie.Need-legal-requires
legal-requires c κs = search rules

refusal-requires : tie.Need-refusal-requires
refusal-requires c κs = search rules

returns-then-not-legal : tie.Need-returns-then-not-legal
returns-then-not-legal c =
    let j = c.before.before in
    let s = start j in
    log_refused s.args.log.now (illegal_refused s.args.plan s.args.kinds s.args.words.now _ (sym j.legal.ensures ∙ c.if-not-legal.true)) c.refusal.ensures

refusal-requires-then-count-gt349525 : tie.Need-refusal-requires-then-count-gt349525
refusal-requires-then-count-gt349525 c κs = search rules

returns-then-count-gt349525 : tie.Need-returns-then-count-gt349525
returns-then-count-gt349525 c =
    let l = c.before.before in
    let s = start l.before in
    log_refused s.args.log.now (many_refused s.args.plan s.args.kinds s.args.words.now _ (is_legal l) c.if-count-gt349525.true) c.refusal-then-count-gt349525.ensures

items_of-requires : tie.Need-items_of-requires
items_of-requires c κs = let e = c.before in (shape_of _ _ (is_legal e.before), e.if-count-gt349525.false)

shape_of-log : tie.Need-shape_of-log
shape_of-log c = search rules

returns : tie.Need-returns
returns c =
    let r = c.before.before in
    let e = r.before.before in
    let s = start e.before.before in
    rw (read_on s.args.plan s.args.kinds s.args.words.now (length s.args.log.now) (is_legal e.before) e.if-count-gt349525.false) r.items_of.ensures

pub read_items_spec : {M : Type 1} → statement M
read_items_spec =
    tie.close
    (tie.spec
    legal-requires
    refusal-requires
    returns-then-not-legal
    refusal-requires-then-count-gt349525
    returns-then-count-gt349525
    items_of-requires
    shape_of-log
    returns)
