use Prim.Native.Nat.{ℕ, ◌+◌, ◌≤◌}
use mathlib.Core.Bool.{true, ◌&&◌}
use mathlib.Core.List.{List}
use mathlib.Core.Path.{◌≡◌, ap, ap₂, sym, ◌∙◌}
use native.Mathlib.Omega.{arith}
use borrow.Author.Tests.{leb-true, not-true, not-false}
use Rattle.format.specs.Lists.{list}
use Rattle.from_c.specs.Numbers.{are_kinds, is_choice}
use Rattle.stream_state.specs.declared.Buses.{Buses}
use Rattle.stream_state.specs.Layout.{number_at}
use Rattle.stream_state.specs.Parts.{used_in}
use Rattle.stream_state.specs.Laws.Working.{ranges}
use Rattle.stream_state.proofs.Used.{kinds_both, used_both, used_few}
use Rattle.stream_state.proofs.Parts.{Seven, planned, unkind, unnamed}
use borrow.Author.Rules.{rules}
use Rattle.stream_state.proofs.load_working.Statement.{statement}
use Rattle.stream_state.proofs.load_working.Tie as tie
use Rattle.stream_state.proofs.load_working.Reads as reads
use Rattle.stream_state.proofs.load_working.Lts as lts
use Rattle.from_c.proofs.plan_from.Reads as plan-from-reads
use Rattle.from_c.proofs.time_at.Reads as time-at-reads
use Rattle.stream_state.proofs.ended.Reads as ended-reads
use Rattle.stream_state.proofs.both.Reads as both-reads
use Rattle.stream_state.proofs.eight_buses.Reads as eight-buses-reads
use Rattle.stream_state.proofs.load_planned.Reads as load-planned-reads
use Rattle.stream_state.proofs.plan_named.Reads as plan-named-reads

-- ---- the places

-- the plan's seven numbers were read and tested
abbrev Tested : Type 0
Tested = tie.After-plan_named

abbrev start : Tested → tie.Start
start c = c.before.before.before.before.before.before.before.before.before

abbrev bytes : Tested → List ℕ
bytes c = (start c).args.state.now

abbrev words : Tested → ℕ
words c = c.time_at-words.result

abbrev tracks : Tested → ℕ
tracks c = c.time_at-tracks.result

abbrev time : Tested → ℕ
time c = c.time_at-frame_time.result

abbrev crc : Tested → ℕ
crc c = c.time_at-crc.result

abbrev parity : Tested → ℕ
parity c = c.time_at-parity.result

abbrev label : Tested → ℕ
label c = c.time_at-label.result

abbrev code : Tested → ℕ
code c = c.time_at-code.result

seven : (c : Tested) → Seven (bytes c) (words c) (tracks c) (time c) (crc c) (parity c) (label c) (code c)
seven c = record {
  first = c.time_at-words.ensures;
  second = c.time_at-tracks.ensures;
  third = c.time_at-frame_time.ensures;
  fourth = c.time_at-crc.ensures;
  fifth = c.time_at-parity.ensures;
  sixth = c.time_at-label.ensures;
  seventh = c.time_at-code.ensures;
}

-- they are in their ranges
abbrev Good : Type 0
Good = tie.Else-not-plan_named

in_ranges : (c : Good) → let t = c.before in
    (words t ≤ 512) × (tracks t ≤ 4) × (is_choice (time t) ≡ true) × (is_choice (crc t) ≡ true) × (is_choice (parity t) ≡ true) × (label t ≤ 7) × (code t ≤ 15)
in_ranges c = let t = c.before in
    ranges (words t) (tracks t) (time t) (crc t) (parity t) (label t) (code t) (sym t.plan_named.ensures ∙ c.if-not-plan_named.false)

-- the kinds were looked at
abbrev Kinds : Type 0
Kinds = tie.After-both

abbrev good : Kinds → Good
good k = k.before.before.before

abbrev tested : Kinds → Tested
tested k = (good k).before

low_used : (k : Kinds) → k.eight_buses-low.result.used ≡ used_in (list (number_at (bytes (tested k))) 20 8)
low_used k = ap (λ (x : Buses). x.used) k.eight_buses-low.ensures

high_used : (k : Kinds) → k.eight_buses-high.result.used ≡ used_in (list (number_at (bytes (tested k))) 28 8)
high_used k = ap (λ (x : Buses). x.used) k.eight_buses-high.ensures

kinds_tested : (k : Kinds) → k.both.result ≡ are_kinds (list (number_at (bytes (tested k))) 20 16)
kinds_tested k =
    k.both.ensures
    ∙ ap₂ (λ (x y : Buses). x.named && y.named) k.eight_buses-low.ensures k.eight_buses-high.ensures
    ∙ sym (kinds_both (number_at (bytes (tested k))))

time_at-words-requires : tie.Need-time_at-words-requires
time_at-words-requires c κs = search rules

time_at-tracks-requires : tie.Need-time_at-tracks-requires
time_at-tracks-requires c κs = search rules

time_at-frame_time-requires : tie.Need-time_at-frame_time-requires
time_at-frame_time-requires c κs = search rules

time_at-crc-requires : tie.Need-time_at-crc-requires
time_at-crc-requires c κs = search rules

time_at-parity-requires : tie.Need-time_at-parity-requires
time_at-parity-requires c κs = search rules

time_at-label-requires : tie.Need-time_at-label-requires
time_at-label-requires c κs = search rules

time_at-code-requires : tie.Need-time_at-code-requires
time_at-code-requires c κs = search rules

plan_named-requires : tie.Need-plan_named-requires
plan_named-requires c κs = search rules

ended-requires : tie.Need-ended-requires
ended-requires c κs = search rules

returns-then-not-plan_named : tie.Need-returns-then-not-plan_named
returns-then-not-plan_named c = let t = c.before.before in
    c.ended.ensures ∙ unnamed (seven t) (start t).requires.1 (sym t.plan_named.ensures ∙ c.if-not-plan_named.true)

eight_buses-low-requires : tie.Need-eight_buses-low-requires
eight_buses-low-requires c κs = search rules

eight_buses-high-requires : tie.Need-eight_buses-high-requires
eight_buses-high-requires c κs = search rules

both-requires : tie.Need-both-requires
both-requires c κs = search rules

ended-requires-then-not-both : tie.Need-ended-requires-then-not-both
ended-requires-then-not-both c κs = search rules

returns-then-not-both : tie.Need-returns-then-not-both
returns-then-not-both c = let k = c.before.before in
    let t = tested k in
    c.ended-then-not-both.ensures ∙ unkind (bytes t) (start t).requires.1 (sym (kinds_tested k) ∙ c.if-not-both.true)

overflow_cast-words : tie.Need-overflow_cast-words
overflow_cast-words c = omega (arith, (in_ranges (good c.before)).0)

overflow_cast-tracks : tie.Need-overflow_cast-tracks
overflow_cast-tracks c = omega (arith, (in_ranges (good c.before)).1)

overflow_cast-frame_time : tie.Need-overflow_cast-frame_time
overflow_cast-frame_time c = omega (arith, leb-true (time (tested c.before)) 1 (in_ranges (good c.before)).2)

overflow_cast-crc : tie.Need-overflow_cast-crc
overflow_cast-crc c = omega (arith, leb-true (crc (tested c.before)) 1 (in_ranges (good c.before)).3)

overflow_cast-parity : tie.Need-overflow_cast-parity
overflow_cast-parity c = omega (arith, leb-true (parity (tested c.before)) 1 (in_ranges (good c.before)).4)

overflow_cast-label : tie.Need-overflow_cast-label
overflow_cast-label c = omega (arith, (in_ranges (good c.before)).5)

overflow_cast-code : tie.Need-overflow_cast-code
overflow_cast-code c = omega (arith, (in_ranges (good c.before)).6)

plan_from-plan-requires : tie.Need-plan_from-plan-requires
plan_from-plan-requires c κs = search rules

overflow_add-low : tie.Need-overflow_add-low
overflow_add-low c = let k = c.before.before.before.before in
    let f = number_at (bytes (tested k)) in
    omega (arith, low_used k, high_used k, used_few f 20, used_few f 28)

load_planned-requires : tie.Need-load_planned-requires
load_planned-requires c κs = let f = c.before.before in
    let k = f.before.before in
    let t = tested k in
    let named = sym t.plan_named.ensures ∙ (good k).if-not-plan_named.false in
    let kinds = sym (kinds_tested k) ∙ f.if-not-both.false in (
      rw f.plan_from-plan.ensures (planned (seven t) (start t).requires.0 (start t).requires.1 named kinds),
      ap₂ (λ (n m : ℕ). n + m) (low_used k) (high_used k) ∙ used_both (number_at (bytes t)),
      high_used k,
    )

returns : tie.Need-returns
returns c = c.load_planned.ensures

pub load_working_spec : {M : Type 1} → statement M
load_working_spec =
    tie.close
    (tie.spec
    time_at-words-requires
    time_at-tracks-requires
    time_at-frame_time-requires
    time_at-crc-requires
    time_at-parity-requires
    time_at-label-requires
    time_at-code-requires
    plan_named-requires
    ended-requires
    returns-then-not-plan_named
    eight_buses-low-requires
    eight_buses-high-requires
    both-requires
    ended-requires-then-not-both
    returns-then-not-both
    overflow_cast-words
    overflow_cast-tracks
    overflow_cast-frame_time
    overflow_cast-crc
    overflow_cast-parity
    overflow_cast-label
    overflow_cast-code
    plan_from-plan-requires
    overflow_add-low
    load_planned-requires
    returns)
