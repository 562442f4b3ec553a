use borrow.Author.Rules.{rules}
use Rattle.salvage_run.proofs.Steps.{word_broken, word_fits, word_step_lem, word_taken}
use Rattle.salvage_run.proofs.Sounds.{gone_few, low_more}
use Rattle.salvage_run.specs.Tape.{Tape, tape, try_start, word_step}
use Rattle.data_word.specs.Holding.{held_of}
use Rattle.data_items.proofs.Words.{bus_low, info_low, label_low}
use mathlib.Core.Path.{◌≡◌, ap, ◌∙◌}
use native.Mathlib.Omega.{arith}
use Prim.Native.Nat.{◌^◌}
use Rattle.salvage_run.proofs.on_word.Statement.{statement}
use Rattle.salvage_run.proofs.on_word.Tie as tie
use Rattle.salvage_run.proofs.on_word.Reads as reads
use Rattle.salvage_run.proofs.on_word.Lts as lts
use Rattle.data_word.proofs.feed.Reads as feed-reads
use Rattle.salvage_run.proofs.let_go.Reads as let-go-reads
use Rattle.salvage_run.proofs.next.Reads as next-reads
use Rattle.salvage_run.proofs.put_items.Reads as put-items-reads
use Rattle.salvage_run.proofs.try_start.Reads as try-start-reads
use Rattle.word.proofs.bus_of.Reads as bus-of-reads
use Rattle.word.proofs.information_of.Reads as information-of-reads
use Rattle.word.proofs.label_of.Reads as label-of-reads

abbrev before : tie.Start → Tape
before s = tape s.args.pass s.args.out.now s.args.report.now

-- the word was fed
abbrev start : tie.After-feed-step → tie.Start
start c = c.before.before.before.before.before.before.before.before

fed_step : (c : tie.After-feed-step)
    → let a = (start c).args in c.feed-step.result ≡ word_step a.kinds a.plan.parity (held_of a.pass.held) a.word
fed_step c =
    let a = (start c).args in
    word_step_lem a.kinds a.plan.parity (held_of a.pass.held) a.word
    c.bus_of.ensures c.label_of.ensures c.information_of.ensures c.feed-step.ensures

-- it is bad, and what is held is let go
abbrev bad : tie.After-let_go-arg-then-step-1 → tie.Then-step
bad c = c.before.before

abbrev gone : tie.After-try_start-arg-then-step-1 → tie.After-let_go-free
gone c = c.before.before.before.before.before.before

bus_of-requires : tie.Need-bus_of-requires
bus_of-requires c κs = search rules

label_of-requires : tie.Need-label_of-requires
label_of-requires c κs = search rules

information_of-requires : tie.Need-information_of-requires
information_of-requires c κs = search rules

feed-step-requires : tie.Need-feed-step-requires
feed-step-requires c κs =
    let s = c.before.before.before.before.before.before in (
      (
        rw c.bus_of.ensures (bus_low _ _ s.requires.4),
        rw c.label_of.ensures (label_low _),
        rw c.information_of.ensures (info_low _),
      ),
      s.requires.2.sane,
    )

let_go-free-requires : tie.Need-let_go-free-requires
let_go-free-requires c κs =
    let s = start (bad c).before in
    let x = s.requires.2 in (
      s.requires.0,
      s.requires.1,
      x.sane,
      low_more (2 ^ 32) (omega (arith, s.requires.3)) x.low,
      omega (arith, s.requires.3, x.few_entries),
      omega (arith, s.requires.3, x.few_bits),
    )

try_start-requires : tie.Need-try_start-requires
try_start-requires c κs =
    let l = gone c in
    let s = start (bad l.before).before in
    let x = s.requires.2 in
    let g = gone_few s.args.plan (before s) x.sane l.let_go-free.ensures in (
      s.requires.0,
      s.requires.1,
      omega (arith, s.requires.3),
      s.requires.4,
      omega (arith, s.requires.3, x.few_entries, g.few_entries),
      omega (arith, s.requires.3, x.few_bits, g.few_bits),
    )

shape_of-out-then-step : tie.Need-shape_of-out-then-step
shape_of-out-then-step c = search rules

shape_of-report-then-step : tie.Need-shape_of-report-then-step
shape_of-report-then-step c = search rules

returns-then-step : tie.Need-returns-then-step
returns-then-step c =
    let t = c.before.before.before.before in
    let l = gone t.before in
    let b = bad l.before in
    let s = start b.before in
    let a = s.args in
    t.try_start.ensures ∙ ap (try_start a.kinds a.plan a.number a.word) l.let_go-free.ensures
    ∙ word_broken a.plan (before s) a.kinds a.number a.word (fed_step b.before) b.if-step.true

next-requires : tie.Need-next-requires
next-requires c κs = search rules

put_items-requires : tie.Need-put_items-requires
put_items-requires c κs =
    let e = c.before.before in
    let s = start e.before in
    let x = s.requires.2 in (
      omega (arith, s.requires.3, x.few_bits),
      word_fits s.args.kinds s.args.plan.parity s.args.pass.held s.args.word s.requires.4 x.sane (fed_step e.before) e.if-step.false,
    )

shape_of-out : tie.Need-shape_of-out
shape_of-out c = search rules

returns : tie.Need-returns
returns c =
    let p = c.before.before in
    let n = p.before.before in
    let e = n.before in
    let s = start e.before in
    let a = s.args in
    p.put_items.ensures a.report.now
    ∙ word_taken a.plan (before s) a.kinds a.number a.word (fed_step e.before) e.if-step.false n.next.ensures

pub on_word_spec : {M : Type 1} → statement M
on_word_spec =
    tie.close
    (tie.spec
    bus_of-requires
    label_of-requires
    information_of-requires
    feed-step-requires
    let_go-free-requires
    try_start-requires
    shape_of-out-then-step
    shape_of-report-then-step
    returns-then-step
    next-requires
    put_items-requires
    shape_of-out
    returns)
