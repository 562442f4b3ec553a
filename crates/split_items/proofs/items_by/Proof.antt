use Prim.Native.Nat.{ℕ, ◌+◌, ◌≤◌}
use native.Mathlib.Omega.{arith}
use borrow.Author.Rules.{rules}
use mathlib.Core.Bool.{Bool}
use mathlib.Core.Path.{◌≡◌}
use mathlib.Core.List.{List}
use lib.ListN.{length}
use Rattle.format.specs.declared.Kind.{Kind}
use Rattle.split_items.specs.Items.{Logged}
use Rattle.split_items.proofs.Given.{log_closable, log_given, log_refused, log_settled, open_settled, stops_settled}
use Rattle.split_items.proofs.items_by.Statement.{statement}
use Rattle.split_items.proofs.items_by.Tie as tie

-- ---- the places

-- the words were run over, into `built`
abbrev Run-over : Type 0
Run-over = tie.After-struct_known-1

abbrev ran : Run-over → tie.After-run_words-run
ran c = c.before.before.before

abbrev start : Run-over → tie.Start
start c = (ran c).before.before.before.before.before

abbrev kinds : Run-over → List Kind
kinds c = (start c).args.kinds

abbrev parity : Run-over → Bool
parity c = (start c).args.plan.parity

abbrev words : Run-over → List ℕ
words c = (start c).args.words.now

abbrev log : Run-over → List ℕ
log c = (start c).args.log.now

-- they brought items
logged : (c : tie.Else-run-ne0) → let k = c.before in Logged (kinds k) (parity k) (words k) (ran k).run_words-run.result (ran k).run_words-run.new.out
logged c = (ran c.before).run_words-run.ensures.logged c.if-run-ne0.false

-- ---- the needs

run_words-run-requires : tie.Need-run_words-run-requires
run_words-run-requires c κs = let s = c.before.before.before.before in (s.requires.0, s.requires.1)

refusal-requires : tie.Need-refusal-requires
refusal-requires c κs = search rules

shape_of-built-then-run-ne0 : tie.Need-shape_of-built-then-run-ne0
shape_of-built-then-run-ne0 c = search rules

returns-then-run-ne0 : tie.Need-returns-then-run-ne0
returns-then-run-ne0 c =
    let k = c.before.before in
    log_refused (log k) (stops_settled (kinds k) (parity k) (words k) (length (log k)) ((ran k).run_words-run.ensures.refused c.if-run-ne0.true)) c.refusal.ensures

first_open-notice-requires : tie.Need-first_open-notice-requires
first_open-notice-requires c κs = let k = c.before in ((logged c).words, omega (arith, (start k).requires.1))

overflow_sub-notice : tie.Need-overflow_sub-notice
overflow_sub-notice c = omega (arith, c.if-notice-ne0.true)

refusal-requires-then-notice-ne0 : tie.Need-refusal-requires-then-notice-ne0
refusal-requires-then-notice-ne0 c κs = search rules

shape_of-built-then-notice-ne0 : tie.Need-shape_of-built-then-notice-ne0
shape_of-built-then-notice-ne0 c = search rules

returns-then-notice-ne0 : tie.Need-returns-then-notice-ne0
returns-then-notice-ne0 c =
    let o = c.before.before in
    let e = o.before in
    let k = e.before in
    log_refused (log k) (open_settled (kinds k) (parity k) (words k) (length (log k)) (logged e) o.first_open-notice.ensures c.if-notice-ne0.true) c.refusal-then-notice-ne0.ensures

give-requires : tie.Need-give-requires
give-requires c κs =
    let e = c.before.before.before.before.before in
    let k = e.before in
    let r = (start k).requires.2 in
    log_closable (kinds k) (parity k) (words k) (logged e) _ (start k).requires.1 (λ size a b. omega (arith, r size a b, k.built-1.given))

shape_of-built : tie.Need-shape_of-built
shape_of-built c = search rules

shape_of-log : tie.Need-shape_of-log
shape_of-log c = search rules

returns : tie.Need-returns
returns c =
    let g = c.before.before.before.before in
    let z = g.before.before.before in
    let o = z.before in
    let e = o.before.before in
    let k = e.before in
    rw (log_settled (kinds k) (parity k) (words k) (length (log k)) (logged e) o.first_open-notice.ensures z.if-notice-ne0.false)
    (log_given (length (log k)) (logged e).items _ (log k) _ (g.give.ensures (logged e).items (logged e).wrote))

pub items_by_spec : {M : Type 1} → statement M
items_by_spec =
    tie.close
    (tie.spec
    run_words-run-requires
    refusal-requires
    shape_of-built-then-run-ne0
    returns-then-run-ne0
    first_open-notice-requires
    overflow_sub-notice
    refusal-requires-then-notice-ne0
    shape_of-built-then-notice-ne0
    returns-then-notice-ne0
    give-requires
    shape_of-built
    shape_of-log
    returns)
