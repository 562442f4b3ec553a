use borrow.Author.Rules.{rules}
use Rattle.salvage_run.proofs.Steps.{start_sane}
use Rattle.data_items.proofs.Words.{bus_low, info_low, label_low}
use Rattle.salvage_run.proofs.Steps.{start_fits, start_lost, start_step, start_taken, tape_lost}
use Rattle.salvage_run.specs.Tape.{Tape, tape, word_step}
use Rattle.format.specs.declared.Held.TheVariants.{Nothing}
use mathlib.Core.Path.{◌≡◌, ◌∙◌}
use Rattle.salvage_run.proofs.try_start.Statement.{statement}
use Rattle.salvage_run.proofs.try_start.Tie as tie
use Rattle.salvage_run.proofs.try_start.Reads as reads
use Rattle.salvage_run.proofs.try_start.Lts as lts
use Rattle.data_start.proofs.nothing.Reads as nothing-reads
use Rattle.data_word.proofs.feed.Reads as feed-reads
use Rattle.capture_parts.proofs.stored_place.Reads as stored-place-reads
use Rattle.salvage_run.proofs.next.Reads as next-reads
use Rattle.salvage_run.proofs.put_at.Reads as put-at-reads
use Rattle.salvage_run.proofs.put_items.Reads as put-items-reads
use Rattle.word.proofs.bus_of.Reads as bus-of-reads
use Rattle.word.proofs.information_of.Reads as information-of-reads
use Rattle.word.proofs.label_of.Reads as label-of-reads

abbrev before : tie.Start → Tape
before s = tape s.args.pass s.args.out.now s.args.report.now

-- the word was fed
abbrev start : tie.After-feed-step → tie.Start
start c = c.before.before.before.before.before.before.before.before

fed_step : (c : tie.After-feed-step) → let a = (start c).args in c.feed-step.result ≡ word_step a.kinds a.plan.parity Nothing a.word
fed_step c =
    let a = (start c).args in
    let n = c.nothing in
    start_step a.kinds a.plan.parity n.result a.word n.ensures
    c.bus_of.ensures c.label_of.ensures c.information_of.ensures c.feed-step.ensures

nothing-requires : tie.Need-nothing-requires
nothing-requires c κs = search rules

bus_of-requires : tie.Need-bus_of-requires
bus_of-requires c κs = search rules

label_of-requires : tie.Need-label_of-requires
label_of-requires c κs = search rules

information_of-requires : tie.Need-information_of-requires
information_of-requires c κs = search rules

feed-step-requires : tie.Need-feed-step-requires
feed-step-requires c κs =
    let s = c.before.before.before.before.before.before.before in (
      (
        rw c.bus_of.ensures (bus_low _ _ s.requires.3),
        rw c.label_of.ensures (label_low _),
        rw c.information_of.ensures (info_low _),
      ),
      start_sane _ c.nothing.ensures,
    )

stored_place-requires : tie.Need-stored_place-requires
stored_place-requires c κs = search rules

put_at-requires : tie.Need-put_at-requires
put_at-requires c κs = search rules

nothing-requires-then-step : tie.Need-nothing-requires-then-step
nothing-requires-then-step c κs = search rules

overflow_add-result : tie.Need-overflow_add-result
overflow_add-result c = search rules

shape_of-report-then-step : tie.Need-shape_of-report-then-step
shape_of-report-then-step c = search rules

returns-then-step : tie.Need-returns-then-step
returns-then-step c =
    let p = c.before.before.before in
    let t = p.before.before.before.before in
    let s = start t.before in
    let a = s.args in
    tape_lost a.plan a.pass a.out.now a.report.now a.number c.nothing-then-step.ensures p.stored_place.ensures p.put_at.ensures
    ∙ start_lost a.plan (before s) a.kinds a.number a.word (fed_step t.before) t.if-step.true

next-requires : tie.Need-next-requires
next-requires c κs = search rules

put_items-requires : tie.Need-put_items-requires
put_items-requires c κs =
    let e = c.before.before in
    let s = start e.before in
    (s.requires.5, start_fits s.args.kinds s.args.plan.parity s.args.word s.requires.3 (fed_step e.before) e.if-step.false)

shape_of-out : tie.Need-shape_of-out
shape_of-out c = search rules

returns : tie.Need-returns
returns c =
    let p = c.before.before in
    let n = p.before.before in
    let e = n.before in
    let s = start e.before in
    let a = s.args in
    p.put_items.ensures a.report.now
    ∙ start_taken a.plan (before s) a.kinds a.number a.word (fed_step e.before) e.if-step.false n.next.ensures

pub try_start_spec : {M : Type 1} → statement M
try_start_spec =
    tie.close
    (tie.spec
    nothing-requires
    bus_of-requires
    label_of-requires
    information_of-requires
    feed-step-requires
    stored_place-requires
    put_at-requires
    nothing-requires-then-step
    overflow_add-result
    shape_of-report-then-step
    returns-then-step
    next-requires
    put_items-requires
    shape_of-out
    returns)
