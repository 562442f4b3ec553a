use borrow.Author.Rules.{rules}
use mathlib.Core.Bool.{true}
use mathlib.Core.Path.{◌≡◌, refl, sym, ◌∙◌}
use lib.ListN.{length}
use Rattle.from_c.specs.Numbers.{named}
use Rattle.from_c.specs.Laws.{sixteen}
use Rattle.salvage_from_c.proofs.Rooms.{saves_none}
use Rattle.salvage_from_c.proofs.NamedKinds.{salvage_named, salvage_unnamed}
use Rattle.salvage_from_c.proofs.salvage_from.Statement.{statement}
use Rattle.salvage_from_c.proofs.salvage_from.Tie as tie

-- ---- the places

abbrev start : tie.After-named → tie.Start
start c = c.before.before.before.before.before.before

is_named : (c : tie.Then-named) → let a = (start c.before).args in named a.frame_time a.crc a.parity a.kinds.now ≡ true
is_named c = sym c.named.ensures ∙ c.if-named.true

-- ---- the needs

named-requires : tie.Need-named-requires
named-requires c κs = search rules

plan_from-plan-requires : tie.Need-plan_from-plan-requires
plan_from-plan-requires c κs = search rules

kinds_from-requires : tie.Need-kinds_from-requires
kinds_from-requires c κs =
    let t = c.before in
    let a = (start t.before).args in
    sixteen a.frame_time a.crc a.parity a.kinds.now (is_named t)

salvage_bytes-requires : tie.Need-salvage_bytes-requires
salvage_bytes-requires c κs = search rules

shape_of-log-then-named : tie.Need-shape_of-log-then-named
shape_of-log-then-named c = search rules

shape_of-times-then-named : tie.Need-shape_of-times-then-named
shape_of-times-then-named c = search rules

shape_of-report-then-named : tie.Need-shape_of-report-then-named
shape_of-report-then-named c = search rules

returns-then-named : tie.Need-returns-then-named
returns-then-named c =
    let d = c.before.before.before.before.before.before in
    let k = d.before.before.before.before in
    let p = k.before in
    let a = (start p.before.before).args in
    rw
    (salvage_named a.words a.tracks a.frame_time a.crc a.parity a.crc_label a.fill_bus a.kinds.now a.capture.now
    (length a.log.now) (length a.times.now) (length a.report.now) p.plan_from-plan.result k.kinds_from.result (is_named p.before) p.plan_from-plan.ensures k.kinds_from.ensures)
    d.salvage_bytes.ensures

returns : tie.Need-returns
returns c =
    let a = (start c.before).args in
    rw
    (salvage_unnamed a.words a.tracks a.frame_time a.crc a.parity a.crc_label a.fill_bus a.kinds.now a.capture.now
    (length a.log.now) (length a.times.now) (length a.report.now) (sym c.named.ensures ∙ c.if-named.false))
    (saves_none _ a.log.now a.times.now a.report.now 1 0 refl)

pub salvage_from_spec : {M : Type 1} → statement M
salvage_from_spec =
    tie.close
    (tie.spec
    named-requires
    plan_from-plan-requires
    kinds_from-requires
    salvage_bytes-requires
    shape_of-log-then-named
    shape_of-times-then-named
    shape_of-report-then-named
    returns-then-named
    returns)
