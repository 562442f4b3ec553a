use mathlib.Core.Path.{sym, ◌∙◌}
use lib.ListN.{length}
use Rattle.from_c.specs.Laws.{sixteen}
use Rattle.read_from_c.proofs.NamedKinds.{read_named, read_unnamed}
use Rattle.read_from_c.proofs.Rooms.{given_none}
use borrow.Author.Rules.{rules}
use Rattle.read_from_c.proofs.read_from.Statement.{statement}
use Rattle.read_from_c.proofs.read_from.Tie as tie

named-requires : tie.Need-named-requires
named-requires c κs = search rules

plan_from-plan-requires : tie.Need-plan_from-plan-requires
plan_from-plan-requires c κs = search rules

kinds_from-requires : tie.Need-kinds_from-requires
kinds_from-requires c κs =
    let a = c.args in
    sixteen a.frame_time a.crc a.parity a.kinds.now (sym c.named.ensures ∙ c.if-named.true)

read_bytes-requires : tie.Need-read_bytes-requires
read_bytes-requires c κs = search rules

shape_of-log-then-named : tie.Need-shape_of-log-then-named
shape_of-log-then-named c = search rules

shape_of-times-then-named : tie.Need-shape_of-times-then-named
shape_of-times-then-named c = search rules

returns-then-named : tie.Need-returns-then-named
returns-then-named c =
    let k = c.before.before.before.before.before.before.before in
    let p = k.before in
    let t = p.before in
    let a = t.args in
    let e = sym t.named.ensures ∙ t.if-named.true in
    rw
    (read_named a.words a.tracks a.frame_time a.crc a.parity a.crc_label a.fill_bus a.kinds.now p.plan_from-plan.result k.kinds_from.result e
    p.plan_from-plan.ensures k.kinds_from.ensures a.closed a.capture.now (length a.log.now) (length a.times.now))
    c.read_bytes.ensures

unnamed-requires : tie.Need-unnamed-requires
unnamed-requires c κs = search rules

returns : tie.Need-returns
returns c =
    let a = c.args in
    rw
    (read_unnamed a.words a.tracks a.frame_time a.crc a.parity a.crc_label a.fill_bus a.kinds.now a.closed a.capture.now (length a.log.now)
    (length a.times.now) (sym c.named.ensures ∙ c.if-named.false))
    (given_none _ a.log.now a.times.now 1 0 0 c.unnamed.ensures)

pub read_from_spec : {M : Type 1} → statement M
read_from_spec =
    tie.close
    (tie.spec
    named-requires
    plan_from-plan-requires
    kinds_from-requires
    read_bytes-requires
    shape_of-log-then-named
    shape_of-times-then-named
    returns-then-named
    unnamed-requires
    returns)
