use borrow.Author.Rules.{rules}
use mathlib.Core.Bool.{true}
use mathlib.Core.Path.{◌≡◌, sym, ◌∙◌}
use lib.ListN.{length}
use Rattle.from_c.specs.Numbers.{named}
use Rattle.from_c.specs.Laws.{sixteen}
use Rattle.read_from_c.proofs.Rooms.{given_none}
use Rattle.split_from_c.proofs.NamedKinds.{words_named, words_unnamed}
use Rattle.split_from_c.proofs.words_from.Statement.{statement}
use Rattle.split_from_c.proofs.words_from.Tie as tie

-- ---- the places

abbrev start : tie.After-named → tie.Start
start c = c.before.before.before.before.before

is_named : (c : tie.Then-named) → let a = (start c.before).args in named a.frame_time a.crc a.parity a.kinds.now ≡ true
is_named c = sym c.named.ensures ∙ c.if-named.true

-- ---- the needs

named-requires : tie.Need-named-requires
named-requires c κs = search rules

plan_from-plan-requires : tie.Need-plan_from-plan-requires
plan_from-plan-requires c κs = search rules

kinds_from-requires : tie.Need-kinds_from-requires
kinds_from-requires c κs =
    let t = c.before in
    let a = (start t.before).args in
    sixteen a.frame_time a.crc a.parity a.kinds.now (is_named t)

words_bytes-requires : tie.Need-words_bytes-requires
words_bytes-requires c κs = search rules

shape_of-words_out-then-named : tie.Need-shape_of-words_out-then-named
shape_of-words_out-then-named c = search rules

shape_of-times-then-named : tie.Need-shape_of-times-then-named
shape_of-times-then-named c = search rules

returns-then-named : tie.Need-returns-then-named
returns-then-named c =
    let r = c.before.before.before.before in
    let k = r.before.before.before in
    let p = k.before in
    let a = (start p.before.before).args in
    rw
    (words_named a.words a.tracks a.frame_time a.crc a.parity a.crc_label a.fill_bus a.kinds.now p.plan_from-plan.result k.kinds_from.result (is_named p.before)
    p.plan_from-plan.ensures k.kinds_from.ensures a.capture.now (length a.words_out.now) (length a.times.now))
    r.words_bytes.ensures

unnamed-requires : tie.Need-unnamed-requires
unnamed-requires c κs = search rules

returns : tie.Need-returns
returns c =
    let e = c.before in
    let a = (start e.before).args in
    rw
    (words_unnamed a.words a.tracks a.frame_time a.crc a.parity a.crc_label a.fill_bus a.kinds.now a.capture.now (length a.words_out.now) (length a.times.now) (sym e.named.ensures ∙ e.if-named.false))
    (given_none _ a.words_out.now a.times.now 1 0 0 c.unnamed.ensures)

pub words_from_spec : {M : Type 1} → statement M
words_from_spec =
    tie.close
    (tie.spec
    named-requires
    plan_from-plan-requires
    kinds_from-requires
    words_bytes-requires
    shape_of-words_out-then-named
    shape_of-times-then-named
    returns-then-named
    unnamed-requires
    returns)
