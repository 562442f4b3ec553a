use Prim.Native.Nat.{ℕ, ◌*◌, ◌/◌, ◌≤◌}
use native.Mathlib.Nat.{mul-le-mul_right}
use native.Mathlib.Omega.{arith}
use borrow.Author.Rules.{rules}
use mathlib.Core.Path.{◌≡◌, ap, ap₂, sym, ◌∙◌}
use mathlib.Core.List.{List}
use lib.ListN.{length}
use Rattle.format.specs.Plan.{group_words, slots, times_needed}
use Rattle.format.specs.Group.{none}
use Rattle.format.specs.declared.Plan.{Plan}
use Rattle.capture_rules.specs.Split.{groups_fault}
use Rattle.capture_parts.proofs.Part.{numbers_few}
use Rattle.capture_parts.proofs.Given.{given_refused, times_few, whole_groups}
use Rattle.split_words.proofs.Given.{both_fit, fault_refused, room_number, words_refused, times_refused, words_given}
use Rattle.split_words.proofs.words_by.Statement.{statement}
use Rattle.split_words.proofs.words_by.Tie as tie
use Rattle.capture_parts.specs.Room.{earlier}

-- ---- the places

-- the groups were judged
abbrev Judged : Type 0
Judged = tie.After-struct_known-1

abbrev judged : Judged → tie.After-first_fault-fault
judged c = c.before.before.before

abbrev counting : Judged → tie.After-groups_in-n
counting c = (judged c).before.before

abbrev start : Judged → tie.Start
start c = (counting c).before.before.before.before.before

abbrev plan : Judged → Plan
plan c = (start c).args.plan

abbrev capture : Judged → List ℕ
capture c = (start c).args.capture.now

abbrev words : Judged → List ℕ
words c = (start c).args.words.now

abbrev times : Judged → List ℕ
times c = (start c).args.times.now

abbrev n : Judged → ℕ
n c = (counting c).groups_in-n.result

abbrev groups : Judged → ℕ
groups c = length (capture c) / (3 * group_words (plan c))

n_is : (c : Judged) → n c ≡ groups c
n_is c = (counting c).groups_in-n.ensures

whole : (c : Judged) → length (capture c) ≡ n c * (3 * group_words (plan c))
whole c =
    whole_groups (plan c) (length (capture c)) (start c).requires.0.2 ∙ ap (λ (k : ℕ). k * (3 * group_words (plan c))) (sym (n_is c))

-- they have no fault, and their words are counted
abbrev Counted : Type 0
Counted = tie.After-slots

abbrev sound : Counted → Judged
sound c = c.before.before

clear : (c : Counted) → groups_fault (plan (sound c)) (capture (sound c)) (n (sound c)) 0 ≡ none
clear c = (judged (sound c)).first_fault-fault.ensures.clear c.if-fault-ne0.false

count_is : (c : Counted) → n (sound c) * c.slots.result ≡ n (sound c) * slots (plan (sound c))
count_is c = ap (λ (k : ℕ). n (sound c) * k) c.slots.ensures.0

few : (c : Counted) → n (sound c) * c.slots.result ≤ 349525
few c =
    let j = sound c in
    omega (arith, count_is c, numbers_few (plan j) (start j).requires.0.0 (n j) (length (capture j)) (whole j) (start j).requires.0.1)

-- their rooms were judged
abbrev Measured : Type 0
Measured = tie.After-earlier-number

abbrev timed : Measured → tie.After-times_of-need
timed c = c.before.before.before

abbrev counted : Measured → Counted
counted c = (timed c).before

need_is : (c : Measured) → let j = sound (counted c) in (timed c).times_of-need.result ≡ times_needed (plan j) (n j)
need_is c = (timed c).times_of-need.ensures

number_is : (c : Measured) → let j = sound (counted c) in
    c.earlier-number.result ≡ room_number (n j * (counted c).slots.result) (timed c).times_of-need.result (length (words j)) (length (times j))
number_is c = c.earlier-number.ensures ∙ ap₂ (λ (a b : ℕ). earlier a b) c.short_of-words_short.ensures c.short_of-times_short.ensures

-- and suffice
abbrev Roomed : Type 0
Roomed = tie.Else-number-eq7

abbrev measured : Roomed → Measured
measured c = c.before.before

fit : (c : Roomed) → let k = counted (measured c) in let j = sound k in
    (n j * k.slots.result ≤ length (words j)) × ((timed (measured c)).times_of-need.result ≤ length (times j))
fit c = both_fit _ _ _ _ (number_is (measured c)) c.if-number-eq6.false c.if-number-eq7.false

-- ---- the needs

groups_in-n-requires : tie.Need-groups_in-n-requires
groups_in-n-requires c κs = let s = c.before.before.before.before in (s.requires.0.0, s.requires.0.1)

first_fault-fault-requires : tie.Need-first_fault-fault-requires
first_fault-fault-requires c κs =
    let g = c.before in
    let s = g.before.before.before.before.before in
    let e = g.groups_in-n.ensures in (
      (s.requires.0.0, λ h. s.requires.1 (rw e at h)),
      (whole_groups s.args.plan (length s.args.capture.now) s.requires.0.2 ∙ ap (λ (k : ℕ). k * (3 * group_words s.args.plan)) (sym e), s.requires.0.1),
    )

refusal-requires : tie.Need-refusal-requires
refusal-requires c κs = search rules

shape_of-row-then-fault-ne0 : tie.Need-shape_of-row-then-fault-ne0
shape_of-row-then-fault-ne0 c = search rules

returns-then-fault-ne0 : tie.Need-returns-then-fault-ne0
returns-then-fault-ne0 c =
    let t = c.before in
    let j = t.before in
    given_refused (words j) (times j)
    (fault_refused (plan j) (capture j) (length (words j)) (length (times j)) (n j) (groups j) (n_is j) (judged j).first_fault-fault.ensures t.if-fault-ne0.true) c.refusal.ensures

slots-requires : tie.Need-slots-requires
slots-requires c κs = (start c.before).requires.0.0

overflow_mul-count : tie.Need-overflow_mul-count
overflow_mul-count c = omega (arith, few c)

times_of-need-requires : tie.Need-times_of-need-requires
times_of-need-requires c κs = search rules

short_of-words_short-requires : tie.Need-short_of-words_short-requires
short_of-words_short-requires c κs = search rules

short_of-times_short-requires : tie.Need-short_of-times_short-requires
short_of-times_short-requires c κs = search rules

earlier-number-requires : tie.Need-earlier-number-requires
earlier-number-requires c κs = search rules

refusal-requires-then-number-eq6 : tie.Need-refusal-requires-then-number-eq6
refusal-requires-then-number-eq6 c κs = search rules

shape_of-row-then-number-eq6 : tie.Need-shape_of-row-then-number-eq6
shape_of-row-then-number-eq6 c = search rules

returns-then-number-eq6 : tie.Need-returns-then-number-eq6
returns-then-number-eq6 c =
    let m = c.before.before in
    let k = counted m in
    let j = sound k in
    given_refused (words j) (times j)
    (words_refused (plan j) (capture j) (length (words j)) (length (times j)) (n j) (groups j) (n_is j) (clear k) (count_is k) (need_is m) (number_is m) c.if-number-eq6.true)
    c.refusal-then-number-eq6.ensures

refusal-requires-then-number-eq7 : tie.Need-refusal-requires-then-number-eq7
refusal-requires-then-number-eq7 c κs = search rules

shape_of-row-then-number-eq7 : tie.Need-shape_of-row-then-number-eq7
shape_of-row-then-number-eq7 c = search rules

returns-then-number-eq7 : tie.Need-returns-then-number-eq7
returns-then-number-eq7 c =
    let m = c.before.before.before in
    let k = counted m in
    let j = sound k in
    given_refused (words j) (times j)
    (times_refused (plan j) (capture j) (length (words j)) (length (times j)) (n j) (groups j) (n_is j) (clear k) (count_is k) (need_is m) (number_is m) c.if-number-eq7.true)
    c.refusal-then-number-eq7.ensures

write_words-requires : tie.Need-write_words-requires
write_words-requires c κs =
    let r = c.before.before in
    let k = counted (measured r) in
    let j = sound k in
    let s = start j in (
      (s.requires.0.0, λ h. omega (arith, s.requires.1 (rw (n_is j) at h), j.row-1.given), omega (arith, count_is k, (fit r).0)),
      (whole j, s.requires.0.1, clear k),
    )

write_times-requires : tie.Need-write_times-requires
write_times-requires c κs =
    let r = c.before.before.before.before.before.before.before.before in
    let m = measured r in
    let j = sound (counted m) in
    let s = start j in
    let f = mul-le-mul_right (group_words (plan j)) (times_few (plan j) (n j)) in
    (s.requires.0.0, rw (need_is m) (omega (arith, f, whole j)), s.requires.0.1, (fit r).1)

shape_of-row : tie.Need-shape_of-row
shape_of-row c = search rules

shape_of-words : tie.Need-shape_of-words
shape_of-words c = search rules

shape_of-times : tie.Need-shape_of-times
shape_of-times c = search rules

returns : tie.Need-returns
returns c =
    let w = c.before.before in
    let ww = w.before.before.before.before.before.before in
    let r = ww.before.before.before in
    let m = measured r in
    let k = counted m in
    let j = sound k in
    words_given (plan j) (capture j) (n j) (groups j) (n_is j) (clear k) (n j * k.slots.result) (timed m).times_of-need.result (words j) _ (times j) _ (count_is k) (need_is m) (fit r).0
    (fit r).1 ww.write_words.ensures w.write_times.ensures

pub words_by_spec : {M : Type 1} → statement M
words_by_spec =
    tie.close
    (tie.spec
    groups_in-n-requires
    first_fault-fault-requires
    refusal-requires
    shape_of-row-then-fault-ne0
    returns-then-fault-ne0
    slots-requires
    overflow_mul-count
    times_of-need-requires
    short_of-words_short-requires
    short_of-times_short-requires
    earlier-number-requires
    refusal-requires-then-number-eq6
    shape_of-row-then-number-eq6
    returns-then-number-eq6
    refusal-requires-then-number-eq7
    shape_of-row-then-number-eq7
    returns-then-number-eq7
    write_words-requires
    write_times-requires
    shape_of-row
    shape_of-words
    shape_of-times
    returns)
