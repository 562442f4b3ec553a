use mathlib.Core.Bool.{true}
use mathlib.Core.Path.{◌≡◌, sym, ◌∙◌}
use Rattle.from_c.specs.Numbers.{named}
use Rattle.from_c.specs.Laws.{sixteen}
use Rattle.stream_from_c.proofs.Opening.{opens_named, opens_none}
use borrow.Author.Rules.{rules}
use Rattle.stream_from_c.proofs.open_from.Statement.{statement}
use Rattle.stream_from_c.proofs.open_from.Tie as tie
use Rattle.stream_from_c.proofs.open_from.Reads as reads
use Rattle.stream_from_c.proofs.open_from.Lts as lts
use Rattle.from_c.proofs.kinds_from.Reads as kinds-from-reads
use Rattle.from_c.proofs.named.Reads as named-reads
use Rattle.from_c.proofs.plan_from.Reads as plan-from-reads
use Rattle.stream.proofs.open.Reads as open-reads

-- ---- the places

abbrev start : tie.After-named → tie.Start
start c = c.before.before.before

is_named : (c : tie.Then-named) → let a = (start c.before).args in named a.frame_time a.crc a.parity a.kinds.now ≡ true
is_named c = sym c.named.ensures ∙ c.if-named.true

-- ---- the needs

named-requires : tie.Need-named-requires
named-requires c κs = search rules

plan_from-plan-requires : tie.Need-plan_from-plan-requires
plan_from-plan-requires c κs = search rules

kinds_from-requires : tie.Need-kinds_from-requires
kinds_from-requires c κs =
    let t = c.before in
    let a = (start t.before).args in
    sixteen a.frame_time a.crc a.parity a.kinds.now (is_named t)

open-requires : tie.Need-open-requires
open-requires c κs = search rules

shape_of-state-then-named : tie.Need-shape_of-state-then-named
shape_of-state-then-named c = search rules

returns-then-named : tie.Need-returns-then-named
returns-then-named c =
    let o = c.before.before in
    let k = o.before.before in
    let p = k.before in
    let t = p.before in
    let a = (start t.before).args in
    opens_named a.words a.tracks a.frame_time a.crc a.parity a.crc_label a.fill_bus a.kinds.now a.state.now p.plan_from-plan.result k.kinds_from.result (is_named t)
    p.plan_from-plan.ensures k.kinds_from.ensures o.«open».ensures

plan_from-none-requires : tie.Need-plan_from-none-requires
plan_from-none-requires c κs = search rules

open-requires-2 : tie.Need-open-requires-2
open-requires-2 c κs = search rules

shape_of-state : tie.Need-shape_of-state
shape_of-state c = search rules

returns : tie.Need-returns
returns c =
    let o = c.before.before in
    let p = o.before.before in
    let e = p.before in
    let a = (start e.before).args in
    opens_none a.words a.tracks a.frame_time a.crc a.parity a.crc_label a.fill_bus a.kinds.now a.state.now p.plan_from-none.result _
    (sym e.named.ensures ∙ e.if-named.false)
    p.plan_from-none.ensures o.open-2.ensures

pub open_from_spec : {M : Type 1} → statement M
open_from_spec =
    tie.close
    (tie.spec
    named-requires
    plan_from-plan-requires
    kinds_from-requires
    open-requires
    shape_of-state-then-named
    returns-then-named
    plan_from-none-requires
    open-requires-2
    shape_of-state
    returns)
