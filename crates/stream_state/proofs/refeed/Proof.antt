use Prim.Native.Nat.{ℕ, ◌+◌, ◌*◌, ◌-◌, ◌/◌, ◌%◌, ◌^◌, ◌≤◌, ◌<◌}
use mathlib.Core.Path.{◌≡◌, refl, sym, ap, ap₂, subst, ◌∙◌}
use mathlib.Core.Bool.{false}
use Rattle.from_c.specs.Numbers.{time_at}
use Rattle.format.specs.declared.Held.{Held}
use Rattle.format.specs.Word.{bus_of, label_of, info_of}
use Rattle.format.specs.Reader.{Fed, bad, feed}
use Rattle.stream_rules.specs.Laws.Stream.Held.{only_held}
use Rattle.data_word.specs.Meaning.{Means}
use Rattle.data_start.specs.declared.Step.{Step}
use Rattle.data_start.specs.declared.Holding.{Holding}
use Rattle.stream_state.specs.declared.Again.{Again}
use native.Mathlib.Omega.{arith}
use lib.ListN.{length}
use Rattle.format.specs.declared.Held.TheVariants.{Nothing}
use Rattle.format.specs.Lists.{list}
use Rattle.data_word.specs.Holding.{Sane, held_of}
use Rattle.data_word.proofs.Meaning.{feed_means, nothing_is_sane}
use Rattle.data_word.proofs.Flat.{nothing_is_held}
use Rattle.stream_state.specs.Layout.{number_at}
use Rattle.stream_state.specs.Again.{again, again_from}
use Rattle.stream_state.proofs.FedAgain.{again_end, ends_bad, ends_item, fed_bad, fed_on_lem, goes_on, too_wide}
use borrow.Author.Rules.{rules}
use Rattle.stream_state.proofs.refeed.Statement.{statement}
use Rattle.stream_state.proofs.refeed.Tie as tie
use Rattle.stream_state.proofs.refeed.Reads as reads
use Rattle.stream_state.proofs.refeed.Lts as lts
use Rattle.data_start.proofs.nothing.Reads as nothing-reads
use Rattle.data_word.proofs.feed.Reads as feed-reads
use Rattle.from_c.proofs.time_at.Reads as time-at-reads
use Rattle.stream_state.proofs.kept.Reads as kept-reads
use Rattle.stream_state.proofs.lost.Reads as lost-reads

abbrev invariant-loop-index : tie.invariant-loop-index
invariant-loop-index state count kinds held₀ index₀ held index =
    (index ≤ count) × (count ≤ 4) × (length state ≡ 7168) × Sane held
    × (again kinds Nothing (list (number_at state) 16 count) ≡ again kinds (held_of held) (list (number_at state) (16 + index) (count - index)))

abbrev decreases-loop-index : tie.decreases-loop-index
decreases-loop-index state count kinds held₀ index₀ held index = count - index

-- the word in hand, its place known, and what it brings
abbrev Read : Type 0
Read = tie.After-time_at-word invariant-loop-index decreases-loop-index

abbrev start : Read → tie.Start invariant-loop-index decreases-loop-index
start c = c.before.before.before.before.before

abbrev at : Read → ℕ → ℕ
at c = number_at (start c).args.state.now

abbrev index : Read → ℕ
index c = c.loop-index.index

abbrev holding : Read → Held
holding c = held_of c.loop-index.held

less : (c : Read) → index c < (start c).args.count
less c = c.loop-index-test.true

word_is : (c : Read) → at c (16 + index c) ≡ c.time_at-word.result
word_is c =
    let e : 8 * (16 + index c) ≡ 128 + 8 * index c = omega arith in
    ap (time_at (start c).args.state.now) e ∙ sym c.time_at-word.ensures

abbrev Fed-one : Type 0
Fed-one = tie.After-feed-step invariant-loop-index decreases-loop-index

abbrev read : Fed-one → Read
read c = c.before.before

small : (c : Fed-one) → at (read c) (16 + index (read c)) < 2 ^ 24
small c = omega (arith, word_is (read c), c.if-word-ge16777216.false)

abbrev feeding : Fed-one → ℕ → Fed
feeding c w = feed (start (read c)).args.kinds (holding (read c)) (bus_of false w) (label_of w) (info_of w)

means : (c : Fed-one) → Means (feeding c (at (read c) (16 + index (read c)))) c.feed-step.result
unfolding bus_of label_of info_of
means c =
    let w = (read c).time_at-word.result in
    let l : w < 2 ^ 24 = omega (arith, c.if-word-ge16777216.false) in
    let s : Sane (read c).loop-index.held = (read c).loop-index.invariant.3 in
    subst (λ (v : ℕ). Means (feeding c v) c.feed-step.result) (sym (word_is (read c)))
    (subst (λ (r : Step). Means (feeding c w) r) (sym c.feed-step.ensures)
    (feed_means (start (read c)).args.kinds (read c).loop-index.held (w / 2 ^ 20) (w / 2 ^ 16 % 16) (w % 2 ^ 16) s (omega arith) (omega arith) (omega arith)))

-- what is held, handed over
abbrev keeping : Holding → Again
keeping g = record { bad = false; held = g }

-- the words come to nothing
fails : (c : Read) → again (start c).args.kinds (holding c) (list (at c) (16 + index c) ((start c).args.count - index c)) ≡ bad
    → again_from bad ≡ again_from (again (start c).args.kinds Nothing (list (at c) 16 (start c).args.count))
fails c e = ap again_from (sym (c.loop-index.invariant.4 ∙ e))

fails_fed : (c : Fed-one) → ((go : Held → Fed) → only_held (feeding c (at (read c) (16 + index (read c)))) go ≡ bad)
    → again_from bad ≡ again_from (again (start (read c)).args.kinds Nothing (list (at (read c)) 16 (start (read c)).args.count))
fails_fed c e =
    let r = read c in
    fails r (fed_bad (start r).args.kinds (holding r) (at r) (index r) (start r).args.count (less r) (small c) e)

nothing-held-requires : tie.Need-nothing-held-requires invariant-loop-index decreases-loop-index
nothing-held-requires c κs = search rules

loop-index-init : tie.Need-loop-index-init invariant-loop-index decreases-loop-index
loop-index-init c = let a = c.args in
    let z : a.count ≡ a.count - 0 = omega arith in
    let h : held_of c.nothing-held.result ≡ Nothing = ap held_of c.nothing-held.ensures ∙ nothing_is_held in
    let sane = subst Sane (sym c.nothing-held.ensures) nothing_is_sane in
    (omega arith, c.requires.1, c.requires.0, sane, ap₂ (λ (k : Held) (n : ℕ). again a.kinds k (list (number_at a.state.now) 16 n)) (sym h) z)

overflow_mul-index : tie.Need-overflow_mul-index invariant-loop-index decreases-loop-index
overflow_mul-index c = search rules

overflow_add-index : tie.Need-overflow_add-index invariant-loop-index decreases-loop-index
overflow_add-index c = search rules

time_at-word-requires : tie.Need-time_at-word-requires invariant-loop-index decreases-loop-index
time_at-word-requires c κs = search rules

lost-requires : tie.Need-lost-requires invariant-loop-index decreases-loop-index
lost-requires c κs = search rules

returns-then-word-ge16777216 : tie.Need-returns-then-word-ge16777216 invariant-loop-index decreases-loop-index
returns-then-word-ge16777216 c = let r = c.before.before in
    c.lost.ensures
    ∙ fails r (too_wide (start r).args.kinds (holding r) (at r) (index r) (start r).args.count (less r) (omega (arith, word_is r, c.if-word-ge16777216.true)))

overflow_cast-bus : tie.Need-overflow_cast-bus invariant-loop-index decreases-loop-index
overflow_cast-bus c = search rules

overflow_cast-label : tie.Need-overflow_cast-label invariant-loop-index decreases-loop-index
overflow_cast-label c = search rules

overflow_cast-information : tie.Need-overflow_cast-information invariant-loop-index decreases-loop-index
overflow_cast-information c = search rules

feed-step-requires : tie.Need-feed-step-requires invariant-loop-index decreases-loop-index
feed-step-requires c κs = ((omega (arith, c.if-word-ge16777216.false), omega arith, omega arith), c.loop-index.invariant.3)

lost-requires-then-step : tie.Need-lost-requires-then-step invariant-loop-index decreases-loop-index
lost-requires-then-step c κs = search rules

returns-then-step : tie.Need-returns-then-step invariant-loop-index decreases-loop-index
returns-then-step c = let f = c.before.before in
    c.lost-then-step.ensures ∙ fails_fed f (λ go. ends_bad (feeding f (at (read f) (16 + index (read f)))) f.feed-step.result go (means f) c.if-step.true)

lost-requires-then-step-ne0 : tie.Need-lost-requires-then-step-ne0 invariant-loop-index decreases-loop-index
lost-requires-then-step-ne0 c κs = search rules

returns-then-step-ne0 : tie.Need-returns-then-step-ne0 invariant-loop-index decreases-loop-index
returns-then-step-ne0 c = let f = c.before.before.before.before in
    c.lost-then-step-ne0.ensures ∙ fails_fed f (λ go. ends_item (feeding f (at (read f) (16 + index (read f)))) f.feed-step.result go (means f) (λ e. absurd (c.if-step-ne0.true (omega (arith, e)))))

lost-requires-then-step-ne0-2 : tie.Need-lost-requires-then-step-ne0-2 invariant-loop-index decreases-loop-index
lost-requires-then-step-ne0-2 c κs = search rules

returns-then-step-ne0-2 : tie.Need-returns-then-step-ne0-2 invariant-loop-index decreases-loop-index
returns-then-step-ne0-2 c = let f = c.before.before.before.before.before.before in
    c.lost-then-step-ne0-2.ensures ∙ fails_fed f (λ go. ends_item (feeding f (at (read f) (16 + index (read f)))) f.feed-step.result go (means f) (λ e. absurd (c.if-step-ne0-2.true (omega (arith, e)))))

overflow_add-index-in-loop-index : tie.Need-overflow_add-index-in-loop-index invariant-loop-index decreases-loop-index
overflow_add-index-in-loop-index c = search rules

loop-index-smaller : tie.Need-loop-index-smaller invariant-loop-index decreases-loop-index
loop-index-smaller c = search rules

loop-index-preserved : tie.Need-loop-index-preserved invariant-loop-index decreases-loop-index
loop-index-preserved c = let f = c.before.before.before.before.before.before in
    let r = read f in
    let o = r.loop-index in
    let t = c.before.before.before in
    let g = goes_on (feeding f (at r (16 + index r))) f.feed-step.result (means f) t.if-step.false t.if-step-ne0.false c.if-step-ne0-2.false in (
      omega (arith, less r),
      o.invariant.1,
      o.invariant.2,
      g.1,
      o.invariant.4 ∙ fed_on_lem (start r).args.kinds (holding r) (at r) (index r) (start r).args.count (less r) (held_of f.feed-step.result.held) (small f) g.0,
    )

kept-requires : tie.Need-kept-requires invariant-loop-index decreases-loop-index
kept-requires c κs = search rules

returns : tie.Need-returns invariant-loop-index decreases-loop-index
returns c = let o = c.loop-index in
    let a = c.args in
    c.kept.ensures
    ∙ (rw (o.invariant.4, again_end a.kinds (held_of o.held) (number_at a.state.now) o.index a.count (omega arith)) (ap keeping o.invariant.3.is))

pub refeed_spec : {M : Type 1} → statement M
refeed_spec =
    tie.close
    (tie.spec
    invariant-loop-index
    decreases-loop-index
    nothing-held-requires
    loop-index-init
    overflow_mul-index
    overflow_add-index
    time_at-word-requires
    lost-requires
    returns-then-word-ge16777216
    overflow_cast-bus
    overflow_cast-label
    overflow_cast-information
    feed-step-requires
    lost-requires-then-step
    returns-then-step
    lost-requires-then-step-ne0
    returns-then-step-ne0
    lost-requires-then-step-ne0-2
    returns-then-step-ne0-2
    overflow_add-index-in-loop-index
    loop-index-smaller
    loop-index-preserved
    kept-requires
    returns)
