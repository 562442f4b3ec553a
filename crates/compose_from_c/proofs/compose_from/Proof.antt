use mathlib.Core.Path.{refl, sym, ◌∙◌}
use lib.ListN.{length}
use Rattle.from_c.specs.Laws.{sixteen}
use Rattle.compose_from_c.proofs.NamedKinds.{composed_named, composed_unnamed}
use borrow.Author.Rules.{rules}
use Rattle.compose_from_c.proofs.compose_from.Statement.{statement}
use Rattle.compose_from_c.proofs.compose_from.Tie as tie

named-requires : tie.Need-named-requires
named-requires c κs = search rules

plan_from-plan-requires : tie.Need-plan_from-plan-requires
plan_from-plan-requires c κs = search rules

kinds_from-requires : tie.Need-kinds_from-requires
kinds_from-requires c κs =
    let a = c.args in
    sixteen a.frame_time a.crc a.parity a.kinds.now (sym c.named.ensures ∙ c.if-named.true)

compose_bytes-requires : tie.Need-compose_bytes-requires
compose_bytes-requires c κs = search rules

shape_of-out-then-named : tie.Need-shape_of-out-then-named
shape_of-out-then-named c = search rules

returns-then-named : tie.Need-returns-then-named
returns-then-named c =
    let k = c.before.before.before.before in
    let p = k.before in
    let t = p.before in
    let a = t.args in
    let e = sym t.named.ensures ∙ t.if-named.true in
    rw
    (composed_named a.words a.tracks a.frame_time a.crc a.parity a.crc_label a.fill_bus a.kinds.now p.plan_from-plan.result k.kinds_from.result e
    p.plan_from-plan.ensures k.kinds_from.ensures a.log.now a.times.now (length a.out.now))
    c.compose_bytes.ensures

unnamed-requires : tie.Need-unnamed-requires
unnamed-requires c κs = search rules

returns : tie.Need-returns
returns c =
    let a = c.args in
    rw
    (composed_unnamed a.words a.tracks a.frame_time a.crc a.parity a.crc_label a.fill_bus a.kinds.now a.log.now a.times.now (length a.out.now)
    (sym c.named.ensures ∙ c.if-named.false))
    (c.unnamed.ensures, refl)

pub compose_from_spec : {M : Type 1} → statement M
compose_from_spec =
    tie.close
    (tie.spec
    named-requires
    plan_from-plan-requires
    kinds_from-requires
    compose_bytes-requires
    shape_of-out-then-named
    returns-then-named
    unnamed-requires
    returns)
