use native.Mathlib.Omega.{arith}
use mathlib.Core.Path.{refl, sym, ◌∙◌}
use Rattle.data_items.proofs.Words.{bus_low, info_low, label_low}
use Rattle.data_run.specs.Pass.{word_pass, word_out}
use Rattle.data_run.proofs.OneSlot.{word_fill, word_fits, word_step_lem}
use borrow.Author.Rules.{rules}
use Rattle.data_run.proofs.on_word.Statement.{statement}
use Rattle.data_run.proofs.on_word.Tie as tie

abbrev before-is_fill : tie.After-is_fill → tie.After-bus_of-bus
before-is_fill c = c.before.before

abbrev before-then1 : tie.Then-is_fill → tie.After-is_fill
before-then1 c = c.before

abbrev before-is_odd_fill : tie.After-is_odd_fill → tie.Then-is_fill
before-is_odd_fill c = c.before.before.before

abbrev before-on_fill : tie.After-on_fill-fills → tie.After-is_odd_fill
before-on_fill c = c.before

abbrev before-else1 : tie.Else-is_fill → tie.After-is_fill
before-else1 c = c.before

abbrev before-label_of : tie.After-label_of → tie.Else-is_fill
before-label_of c = c.before

abbrev before-information_of : tie.After-information_of → tie.After-label_of
before-information_of c = c.before

abbrev before-feed : tie.After-feed-step → tie.After-information_of
before-feed c = c.before

abbrev before-on_step : tie.After-on_step → tie.After-feed-step
before-on_step c = c.before.before

abbrev start-is_odd_fill : tie.After-is_odd_fill → tie.Start
start-is_odd_fill c = c.before.before.before.before.before.before.before.before

abbrev start-on_fill : tie.After-on_fill-fills → tie.Start
start-on_fill c = start-is_odd_fill c.before

abbrev start-information_of : tie.After-information_of → tie.Start
start-information_of c = c.before.before.before.before.before.before.before

abbrev start-feed : tie.After-feed-step → tie.Start
start-feed c = c.before.before.before.before.before.before.before.before

abbrev start-on_step : tie.After-on_step → tie.Start
start-on_step c = c.before.before.before.before.before.before.before.before.before.before

bus_of-bus-requires : tie.Need-bus_of-bus-requires
bus_of-bus-requires c κs = search rules

is_fill-requires : tie.Need-is_fill-requires
is_fill-requires c κs = search rules

is_odd_fill-requires : tie.Need-is_odd_fill-requires
is_odd_fill-requires c κs = search rules

on_fill-fills-requires : tie.Need-on_fill-fills-requires
on_fill-fills-requires c κs = (start-is_odd_fill c).requires.2

returns-then-is_fill : tie.Need-returns-then-is_fill
unfolding word_out
returns-then-is_fill c =
    let s = start-on_fill c in
    let o = before-on_fill c in
    let t = before-is_odd_fill o in
    let f = before-then1 t in
    let e = sym f.is_fill.ensures ∙ t.if-is_fill.true in (
      word_fill s.args.kinds s.args.parity s.args.code s.args.i s.args.number s.args.word s.args.pass e
          (before-is_fill f).bus_of-bus.ensures o.is_odd_fill.ensures c.on_fill-fills.ensures,
      rw e refl,
    )

label_of-requires : tie.Need-label_of-requires
label_of-requires c κs = search rules

information_of-requires : tie.Need-information_of-requires
information_of-requires c κs = search rules

feed-step-requires : tie.Need-feed-step-requires
feed-step-requires c κs = (
  (
    rw (before-is_fill (before-else1 (before-label_of (before-information_of c)))).bus_of-bus.ensures
        (bus_low _ _ (start-information_of c).requires.3),
    rw (before-information_of c).label_of.ensures (label_low _),
    rw c.information_of.ensures (info_low _),
  ),
  (start-information_of c).requires.0.sane,
)

on_step-requires : tie.Need-on_step-requires
on_step-requires c κs = (
  (start-feed c.before).requires.0,
  omega (arith, (start-feed c.before).requires.1),
  (start-feed c.before).requires.2,
  word_fits _ _ _ (start-feed c.before).args.pass (start-feed c.before).requires.3
      (start-feed c.before).requires.0.sane (word_step_lem (start-feed c.before).args.kinds (start-feed c.before).args.parity
      (start-feed c.before).args.word (start-feed c.before).args.pass
      (before-is_fill (before-else1 (before-label_of (before-information_of (before-feed c.before))))).bus_of-bus.ensures
      (before-information_of (before-feed c.before)).label_of.ensures (before-feed c.before).information_of.ensures c.feed-step.ensures),
)

shape_of-out : tie.Need-shape_of-out
shape_of-out c = search rules

returns : tie.Need-returns
unfolding word_pass word_out
returns c = let e = sym (before-else1 (before-label_of (before-information_of (before-feed (before-on_step c.before.before))))).is_fill.ensures ∙
    (before-label_of (before-information_of (before-feed (before-on_step c.before.before)))).if-is_fill.false in let s = word_step_lem
    (start-on_step c.before.before).args.kinds (start-on_step c.before.before).args.parity (start-on_step c.before.before).args.word
    (start-on_step c.before.before).args.pass (before-is_fill (before-else1
    (before-label_of (before-information_of (before-feed (before-on_step c.before.before)))))).bus_of-bus.ensures
    (before-information_of (before-feed (before-on_step c.before.before))).label_of.ensures
    (before-feed (before-on_step c.before.before)).information_of.ensures (before-on_step c.before.before).feed-step.ensures in
    (rw (e, ← s) c.on_step.ensures.0, rw (e, ← s) c.on_step.ensures.1)

pub on_word_spec : {M : Type 1} → statement M
on_word_spec =
    tie.close
    (tie.spec
    bus_of-bus-requires
    is_fill-requires
    is_odd_fill-requires
    on_fill-fills-requires
    returns-then-is_fill
    label_of-requires
    information_of-requires
    feed-step-requires
    on_step-requires
    shape_of-out
    returns)
