use mathlib.Core.Path.{◌≡◌, sym, ◌∙◌}
use lib.ListN.{length}
use borrow.Author.Tests.{not-false, not-true}
use Rattle.stream.proofs.Opening.{opens_closed, opens_unread, opens_work}
use borrow.Author.Rules.{rules}
use Rattle.stream.proofs.open.Statement.{statement}
use Rattle.stream.proofs.open.Tie as tie

refusal-requires : tie.Need-refusal-requires
refusal-requires c κs = search rules

returns-then-state-ne7168 : tie.Need-returns-then-state-ne7168
returns-then-state-ne7168 c = let a = c.args in opens_unread a.plan a.kinds a.state.now c.if-state-ne7168.true c.refusal.ensures

legal-requires : tie.Need-legal-requires
legal-requires c κs = search rules

store_closed-requires : tie.Need-store_closed-requires
store_closed-requires c κs = search rules

refusal-requires-then-not-legal : tie.Need-refusal-requires-then-not-legal
refusal-requires-then-not-legal c κs = search rules

shape_of-state-then-not-legal : tie.Need-shape_of-state-then-not-legal
shape_of-state-then-not-legal c = search rules

returns-then-not-legal : tie.Need-returns-then-not-legal
returns-then-not-legal c = let a = c.args in opens_closed a.plan a.kinds a.state.now
    c.if-state-ne7168.false
    (sym c.legal.ensures ∙ c.if-not-legal.true) c.refusal-then-not-legal.ensures
    c.store_closed.ensures

store_open-requires : tie.Need-store_open-requires
store_open-requires c κs = let sixteen : length c.args.kinds ≡ 16 = search rules in
    (c.if-state-ne7168.false, sym c.legal.ensures ∙ c.if-not-legal.false, sixteen)

refusal-requires-2 : tie.Need-refusal-requires-2
refusal-requires-2 c κs = search rules

shape_of-state : tie.Need-shape_of-state
shape_of-state c = search rules

returns : tie.Need-returns
returns c = let a = c.args in opens_work a.plan a.kinds a.state.now
    c.if-state-ne7168.false
    (sym c.legal.ensures ∙ c.if-not-legal.false) c.refusal-2.ensures
    c.store_open.ensures

pub open_spec : {M : Type 1} → statement M
open_spec =
    tie.close
    (tie.spec
    refusal-requires
    returns-then-state-ne7168
    legal-requires
    store_closed-requires
    refusal-requires-then-not-legal
    shape_of-state-then-not-legal
    returns-then-not-legal
    store_open-requires
    refusal-requires-2
    shape_of-state
    returns)
