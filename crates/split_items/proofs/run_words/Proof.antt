use Prim.Native.Nat.{ℕ, ◌+◌, ◌*◌, ◌^◌, ◌≤◌, ◌<◌}
use native.Mathlib.Omega.{arith}
use borrow.Author.Rules.{rules}
use mathlib.Core.Bool.{Bool}
use mathlib.Core.Path.{◌≡◌, refl, sym, ap, subst, ◌∙◌}
use mathlib.Core.List.{List}
use lib.ListN.{length, take}
use lib.Seq.{length-take-le}
use Rattle.format.specs.Reader.{counted, run}
use Rattle.format.specs.Read.{finish, stopped}
use Rattle.format.specs.declared.Kind.{Kind}
use Rattle.format.specs.declared.Held.TheVariants.{Nothing}
use Rattle.data_word.specs.Holding.{held_of}
use Rattle.data_word.specs.Meaning.{Closes}
use Rattle.data_word.proofs.Meaning.{finish_means}
use Rattle.data_run.specs.declared.Pass.{Pass}
use Rattle.data_run.specs.declared.fill.Fills.{Fills}
use Rattle.data_run.specs.Fills.{fills_in}
use Rattle.data_run.specs.Pass.{RanTo, start_pass}
use Rattle.data_run.proofs.Closing.{closing_fits}
use Rattle.split_items.specs.Numbers.{LowFront}
use Rattle.split_items.proofs.Running.{Good, bad_stops, cut_stops, from_start, front_words, good, large_stops, start_empty, start_sound, stops_to, words_log}
use Rattle.split_items.proofs.run_words.Statement.{statement}
use Rattle.split_items.proofs.run_words.Tie as tie

-- ---- the places

-- the row was run over
abbrev Row : Type 0
Row = tie.After-on_row-pass

abbrev first : Row → tie.After-low_front-low
first c = c.before.before.before

abbrev start : Row → tie.Start
start c = (first c).before.before.before

abbrev kinds : Row → List Kind
kinds c = (start c).args.kinds

abbrev parity : Row → Bool
parity c = (start c).args.plan.parity

abbrev words : Row → List ℕ
words c = (start c).args.words.now

abbrev low : Row → ℕ
low c = (first c).low_front-low.result

is_low : (c : Row) → LowFront (words c) (low c)
is_low c = (first c).low_front-low.ensures

abbrev pass : Row → Pass
pass c = c.on_row-pass.result

abbrev out : Row → List ℕ
out c = c.on_row-pass.new.out

abbrev fills : Row → Fills
fills c =
    fills_in (parity c) (start c).args.plan.fill_bus 0 (counted 0 (take (low c) (words c))) c.start_pass-start.result.fills

is_ran : (c : Row) → RanTo start_pass (start c).args.out.now (run (kinds c) (parity c) (counted 0 (take (low c) (words c))) Nothing 0) (fills c) (pass c) (out c)
is_ran c =
    from_start (kinds c) (parity c) (words c) (low c) (is_low c) (start c).args.out.now (out c) (pass c) (fills c) c.start_pass-start.ensures
    c.on_row-pass.ensures.0

-- what it carries is known
abbrev ran : tie.After-struct_known-1 → Row
ran c = c.before.before.before.before.before

-- no word of it is bad
abbrev Good-row : Type 0
Good-row = tie.Else-pass-ne0

good_row : (c : Good-row) → let k = ran c.before in
    Good (kinds k) (parity k) (words k) (low k) (is_low k) (start k).args.out.now (pass k) (out k) (fills k) (is_ran k)
good_row c =
    let k = ran c.before in
    good (kinds k) (parity k) (words k) (low k) (is_low k) (start k).args.out.now (pass k) (out k) (fills k) (is_ran k) c.if-pass-ne0.false

few : (c : Good-row) → let k = ran c.before in (pass k).pen.bits ≤ 128 * length (words k)
few c =
    let k = ran c.before in
    omega (arith, k.on_row-pass.ensures.1 c.if-pass-ne0.false, length-take-le (low k) (words k) (is_low k).few, (is_low k).few)

-- what is held is finished, or cut
closes : (c : tie.After-finish-step) → let k = ran c.before.before.before in Closes (finish (held_of (pass k).held) (pass k).since) c.finish-step.result
closes c =
    let g = c.before.before in
    let k = ran g.before in
    subst (Closes (finish (held_of (pass k).held) (pass k).since)) (sym (c.finish-step.ensures (pass k).since))
    (finish_means (pass k).held (good_row g).brought.sound.sane (pass k).since)

-- ---- the needs

low_front-low-requires : tie.Need-low_front-low-requires
low_front-low-requires c κs = let s = c.before.before in omega (arith, s.requires.1)

start_pass-start-requires : tie.Need-start_pass-start-requires
start_pass-start-requires c κs = search rules

slice_bounds-on_row-end : tie.Need-slice_bounds-on_row-end
slice_bounds-on_row-end c =
    let f = c.before in
    sym (length-take-le f.low_front-low.result f.args.words.now f.low_front-low.ensures.few)

on_row-pass-requires : tie.Need-on_row-pass-requires
on_row-pass-requires c κs =
    let p = c.before in
    let l = p.before in
    let s = l.before.before in
    let ws = s.args.words.now in
    let long = length-take-le l.low_front-low.result ws l.low_front-low.ensures.few in (
      start_sound p.start_pass-start.ensures,
      front_words s.args.kinds s.args.plan.parity ws l.low_front-low.result l.low_front-low.ensures,
      start_empty p.start_pass-start.ensures,
      omega (arith, long, l.low_front-low.ensures.few, s.requires.1),
      s.requires.0.filling,
    )

overflow_sub-pass : tie.Need-overflow_sub-pass
overflow_sub-pass c = omega (arith, c.if-pass-ne0.true)

stops-requires : tie.Need-stops-requires
stops-requires c κs = search rules

shape_of-out-then-pass-ne0 : tie.Need-shape_of-out-then-pass-ne0
shape_of-out-then-pass-ne0 c = search rules

returns-then-pass-ne0 : tie.Need-returns-then-pass-ne0
returns-then-pass-ne0 c =
    let k = ran c.before.before.before in
    stops_to (kinds k) (parity k) (words k) _ c.stops.ensures
    (bad_stops (kinds k) (parity k) (words k) (low k) (is_low k) (start k).args.out.now (pass k) (out k) (fills k) (is_ran k) c.if-pass-ne0.true)

begun-requires : tie.Need-begun-requires
begun-requires c κs = (good_row c.before).brought.sound.sane

stops-requires-then-low-words : tie.Need-stops-requires-then-low-words
stops-requires-then-low-words c κs = search rules

shape_of-out-then-low-words : tie.Need-shape_of-out-then-low-words
shape_of-out-then-low-words c = search rules

returns-then-low-words : tie.Need-returns-then-low-words
returns-then-low-words c =
    let t = c.before.before in
    let g = t.before in
    let k = ran g.before in
    stops_to (kinds k) (parity k) (words k) _ c.stops-then-low-words.ensures
    (large_stops (kinds k) (parity k) (words k) (low k) (is_low k) (start k).args.out.now (pass k) (out k) (fills k) (is_ran k) g.if-pass-ne0.false t.if-low-words.true
    ∙ ap (stopped 13 (low k)) (sym c.begun.ensures))

finish-step-requires : tie.Need-finish-step-requires
finish-step-requires c κs = (good_row c.before).brought.sound.sane

stops-requires-then-step : tie.Need-stops-requires-then-step
stops-requires-then-step c κs = search rules

shape_of-out-then-step : tie.Need-shape_of-out-then-step
shape_of-out-then-step c = search rules

returns-then-step : tie.Need-returns-then-step
returns-then-step c =
    let e = c.before.before in
    let g = e.before.before in
    let k = ran g.before in
    stops_to (kinds k) (parity k) (words k) _ c.stops-then-step.ensures
    (cut_stops (kinds k) (parity k) (words k) (low k) (is_low k) (start k).args.out.now (pass k) (out k) (fills k) (is_ran k) g.if-pass-ne0.false e.if-low-words.false e.finish-step.result (closes e)
    c.if-step.true)

put_step-end-requires : tie.Need-put_step-end-requires
put_step-end-requires c κs =
    let e = c.before.before in
    let k = ran e.before.before.before in
    (omega (arith, few e.before.before, (start k).requires.1), closing_fits (finish (held_of (pass k).held) (pass k).since) e.finish-step.result (closes e) c.if-step.false)

shape_of-out : tie.Need-shape_of-out
shape_of-out c = search rules

returns : tie.Need-returns
returns c =
    let p = c.before.before in
    let z = p.before.before in
    let e = z.before in
    let g = e.before.before in
    let k = ran g.before in
    record {
      logged = λ _. words_log (kinds k) (parity k) (words k) (low k) (is_low k) (start k).args.out.now (pass k) (out k) (fills k) (is_ran k) g.if-pass-ne0.false e.if-low-words.false
          e.finish-step.result (closes e) z.if-step.false (few g) _ p.put_step-end.ensures.0 p.put_step-end.ensures.1;
      refused = λ y. absurd (y refl);
    }

pub run_words_spec : {M : Type 1} → statement M
run_words_spec =
    tie.close
    (tie.spec
    low_front-low-requires
    start_pass-start-requires
    slice_bounds-on_row-end
    on_row-pass-requires
    overflow_sub-pass
    stops-requires
    shape_of-out-then-pass-ne0
    returns-then-pass-ne0
    begun-requires
    stops-requires-then-low-words
    shape_of-out-then-low-words
    returns-then-low-words
    finish-step-requires
    stops-requires-then-step
    shape_of-out-then-step
    returns-then-step
    put_step-end-requires
    shape_of-out
    returns)
