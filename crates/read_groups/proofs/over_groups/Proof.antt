use Prim.Native.Nat.{ℕ, ◌+◌, ◌*◌, ◌-◌, ◌^◌, ◌≤◌, ◌<◌}
use native.Mathlib.Nat.{mul-le-mul_right}
use native.Mathlib.Omega.{arith}
use borrow.Author.Rules.{rules}
use mathlib.Core.Path.{◌≡◌, refl, sym, ap, ap₂, ◌∙◌}
use mathlib.Core.List.{List}
use lib.ListN.{length, get_or, take, drop}
use Rattle.format.specs.Plan.{group_words, slots, lead}
use Rattle.format.specs.Group.{none, group_fault, group_slots}
use Rattle.format.specs.Reader.{counted}
use Rattle.format.specs.Laws.Limits.{Shape, group_most, most_group_words, slots_most, lead_few}
use Rattle.format.specs.Laws.Reader.Slots.{words_in}
use Rattle.format.specs.Laws.Word.Bytes.{all_bytes}
use Rattle.format.specs.declared.Plan.{Plan}
use Rattle.group_read.proofs.Answers.{words_length, words_low}
use Rattle.read_groups.specs.Misplaced.{numbers_of}
use Rattle.read_groups.specs.Groups.{Over}
use Rattle.notices.specs.Laws.Groups.{open_number, NotedTo, noted_none, noted_more, noted_all}
use Rattle.notices.specs.Table.{all_zero, earliest_of}
use Rattle.read_groups.proofs.Groups.{over_none, over_fault, over_bad, walked_bad, over_more, over_all, told_low}
use Rattle.read_groups.proofs.over_groups.Statement.{statement}
use Rattle.read_groups.proofs.over_groups.Tie as tie
use Rattle.capture_parts.proofs.Part.{dealt_all, numbers_few, group_room, part_length, dealt_none, dealt_found, dealt_low, dealt_words}

abbrev invariant-loop-g : tie.invariant-loop-g
invariant-loop-g kinds plan count capture groups row₀ out₀ size first behind start arinc table₀ noted₀ pass₀ g₀ from₀ row out table noted pass g from =
    (g ≤ groups) × (from ≡ g * slots plan) × (length row ≡ length row₀) × Over kinds plan capture groups out₀ g pass out
    × (length table ≡ 64) × NotedTo kinds plan capture groups g noted.found table × (noted.clear ≡ all_zero table)

abbrev decreases-loop-g : tie.decreases-loop-g
decreases-loop-g kinds plan count capture groups row₀ out₀ size first behind start arinc table₀ noted₀ pass₀ g₀ from₀ row out table noted pass g from = groups - g

-- ---- the places

-- at a group
abbrev AtLoop : Type 0
AtLoop = tie.At-loop-g invariant-loop-g decreases-loop-g

abbrev start : AtLoop → tie.Start invariant-loop-g decreases-loop-g
start c = c.before.before.before.before.before.before.before.before

abbrev plan : AtLoop → Plan
plan c = (start c).args.plan

abbrev capture : AtLoop → List ℕ
capture c = (start c).args.capture.now

shape : (c : AtLoop) → Shape (plan c)
shape c = (start c).requires.0.0

all : (c : AtLoop) → length (capture c) ≡ (start c).args.groups * (3 * group_words (plan c))
all c = (start c).requires.1.0

-- in a group
abbrev InLoop : Type 0
InLoop = tie.In-loop-g invariant-loop-g decreases-loop-g

room : (c : InLoop) → c.loop-g.g * (3 * group_words (plan c.before)) + 3 * group_words (plan c.before) ≤ length (capture c.before)
room c = let l = c.before in group_room (plan l) (shape l) (start l).args.groups l.loop-g.g (length (capture l)) (all l) c.loop-g-test.true

bytes : (c : AtLoop) (i : ℕ) → get_or (capture c) i 0 < 2 ^ 8
bytes c i = omega (arith, c.shared_slice_known-1.given i)

size : (c : AtLoop) → group_words (plan c) ≤ most_group_words
size c = group_most (plan c) (shape c)

over : (c : AtLoop) → Over (start c).args.kinds (plan c) (capture c) (start c).args.groups (start c).args.out.now c.loop-g.g c.loop-g.pass c.loop-g.out
over c = c.loop-g.invariant.3

-- it is dealt
abbrev Dealt : Type 0
Dealt = tie.After-deal-fault invariant-loop-g decreases-loop-g

abbrev in_loop : Dealt → InLoop
in_loop c = c.before.before.before

abbrev loop : Dealt → AtLoop
loop c = (in_loop c).before

abbrev row : Dealt → List ℕ
row c = c.deal-fault.new.row

low : (c : Dealt) → c.deal-fault.result.place < group_words (plan (loop c))
low c = dealt_low (plan (loop c)) (shape (loop c)) (capture (loop c)) (loop c).loop-g.g c.deal-fault.ensures

-- without a fault
abbrev Sound-group : Type 0
Sound-group = tie.Else-fault-ne0 invariant-loop-g decreases-loop-g

abbrev dealt : Sound-group → Dealt
dealt c = c.before.before.before.before

abbrev group : Sound-group → AtLoop
group c = loop (dealt c)

first : (c : Sound-group) → (group c).lead-first.result ≡ lead (plan (group c))
first c = (group c).lead-first.ensures

abbrev words : Sound-group → List ℕ
words c = words_in (group_slots (plan (group c)) (capture (group c)) ((group c).loop-g.g * group_words (plan (group c))))

abbrev part : Sound-group → List ℕ
part c =
    let n = (group c).lead-first.result in
    take (n + (start (group c)).args.count - n) (drop n (row (dealt c)))

part_is : (c : Sound-group) → part c ≡ words c
part_is c =
    let l = group c in
    dealt_words (plan l) (shape l) (capture l) l.loop-g.g (dealt c).deal-fault.ensures l.lead-first.result (start l).args.count c.if-fault-ne0.false (first c)
    (start l).requires.0.1

part_length_is : (c : Sound-group) → length (part c) ≡ slots (plan (group c))
part_length_is c = ap (λ (l : List ℕ). length l) (part_is c) ∙ words_length (plan (group c)) (capture (group c)) ((group c).loop-g.g * group_words (plan (group c)))

numbers : (c : Sound-group) → ((group c).loop-g.g + 1) * slots (plan (group c)) ≤ 349525
numbers c =
    let l = group c in
    let k : l.loop-g.g + 1 ≤ (start l).args.groups = omega (arith, (in_loop (dealt c)).loop-g-test.true) in
    omega (arith, numbers_few (plan l) (shape l) (start l).args.groups (length (capture l)) (all l) (start l).requires.1.1, mul-le-mul_right (slots (plan l)) k)

counted_is : (c : Sound-group) → counted (group c).loop-g.from (part c) ≡ numbers_of (plan (group c)) (capture (group c)) (group c).loop-g.g
counted_is c = ap₂ counted (group c).loop-g.invariant.1 (part_is c)

sound : (c : Sound-group) → group_fault (plan (group c)) (capture (group c)) ((group c).loop-g.g * group_words (plan (group c))) ≡ none
sound c = dealt_none (plan (group c)) (shape (group c)) (capture (group c)) (group c).loop-g.g (dealt c).deal-fault.ensures c.if-fault-ne0.false

words_of_row : (c : Sound-group) (i : ℕ) → i < length (part c) → get_or (part c) i 0 < 2 ^ 24
words_of_row c i h =
    let l = group c in
    rw (part_is c) (words_low (plan l) (capture l) (l.loop-g.g * group_words (plan l)) (bytes l) i (rw (part_is c) at h))

part_room : (c : Sound-group) → (group c).lead-first.result + (start (group c)).args.count ≤ length (row (dealt c))
part_room c =
    let l = group c in
    let r = (start l).requires.0.2 (omega (arith, (in_loop (dealt c)).loop-g-test.true)) in
    omega (arith, first c, (start l).requires.0.1, (dealt c).deal-fault.ensures.long, l.loop-g.invariant.2, r, dealt_all (plan l) (shape l))

-- its row was read
abbrev Ran-row : Type 0
Ran-row = tie.After-on_row-pass invariant-loop-g decreases-loop-g

abbrev of_row : Ran-row → Sound-group
of_row c = c.before.before.before

abbrev out : Ran-row → List ℕ
out c = c.on_row-pass.new.out

told_few : (c : Ran-row) → (c.on_row-pass.result.since < 2 ^ 32) × (c.on_row-pass.result.bad < 2 ^ 32)
told_few c =
    let e = of_row c in
    let l = group e in
    let t =
    told_low (start l).args.kinds (plan l) (capture l) (start l).args.groups (start l).args.out.now (shape l) l.loop-g.g (in_loop (dealt e)).loop-g-test.true
    l.loop-g.pass l.loop-g.out (over l) (counted l.loop-g.from (part e)) (counted_is e) (sound e) c.on_row-pass.result (out c) c.on_row-pass.ensures.0 in
    (omega (arith, t.0, numbers e), omega (arith, t.1, numbers e))

-- a word of it is bad
abbrev Bad-row : Type 0
Bad-row = tie.Then-pass-ne0 invariant-loop-g decreases-loop-g

abbrev bad_row : Bad-row → Ran-row
bad_row c = c.before.before.before.before

-- no word of it is bad
abbrev Good-row : Type 0
Good-row = tie.Else-pass-ne0 invariant-loop-g decreases-loop-g

abbrev good : Good-row → Ran-row
good c = c.before.before.before.before

abbrev good_group : Good-row → Sound-group
good_group c = of_row (good c)

-- and its notices are noted
abbrev Noted-row : Type 0
Noted-row = tie.After-note_row-noted invariant-loop-g decreases-loop-g

abbrev noted : Noted-row → Good-row
noted c = c.before.before.before

noted_next : (c : Noted-row)
    → let e = good_group (noted c) in
    let l = group e in NotedTo (start l).args.kinds (plan l) (capture l) (start l).args.groups (l.loop-g.g + 1) c.note_row-noted.result.found c.note_row-noted.new.table
noted_next c =
    let e = good_group (noted c) in
    let l = group e in
    noted_more (start l).args.kinds (plan l) (capture l) (start l).args.groups l.loop-g.g (in_loop (dealt e)).loop-g-test.true l.loop-g.invariant.5 l.loop-g.from (part e)
    l.loop-g.invariant.1 (part_is e) c.note_row-noted.ensures.0

-- all groups were passed
abbrev Passed : Type 0
Passed = tie.After-loop-g invariant-loop-g decreases-loop-g

last : (c : Passed) → c.loop-g.g ≡ (start c.before).args.groups
last c = omega (arith, c.loop-g-test.false, c.loop-g.invariant.0)

earliest : (c : Passed) → let l = c.before in earliest_of l.loop-g.noted.found l.loop-g.table ≡ open_number (start l).args.kinds (plan l) (capture l) (start l).args.groups
earliest c =
    let l = c.before in
    noted_all (start l).args.kinds (plan l) (capture l) (start l).args.groups (all_bytes (capture l) (bytes l)) l.loop-g.g (last c) l.loop-g.invariant.5

-- ---- the needs

overflow_mul-size : tie.Need-overflow_mul-size invariant-loop-g decreases-loop-g
overflow_mul-size c = let s = c.before.before.before.before in omega (arith, group_most s.args.plan s.requires.0.0)

lead-first-requires : tie.Need-lead-first-requires invariant-loop-g decreases-loop-g
lead-first-requires c κs = search rules

overflow_add-behind : tie.Need-overflow_add-behind invariant-loop-g decreases-loop-g
overflow_add-behind c =
    let s = c.before.before.before.before.before in
    omega (arith, c.lead-first.ensures, lead_few s.args.plan, s.requires.0.1, slots_most s.args.plan s.requires.0.0)

start_pass-start-requires : tie.Need-start_pass-start-requires invariant-loop-g decreases-loop-g
start_pass-start-requires c κs = search rules

has_arinc-arinc-requires : tie.Need-has_arinc-arinc-requires invariant-loop-g decreases-loop-g
has_arinc-arinc-requires c κs = search rules

loop-g-init : tie.Need-loop-g-init invariant-loop-g decreases-loop-g
unfolding all_zero
loop-g-init c = (omega arith, omega arith, refl, over_none _ _ _ _ _ c.start_pass-start.ensures, refl, noted_none _ _ _ _, refl)

overflow_mul-begin : tie.Need-overflow_mul-begin invariant-loop-g decreases-loop-g
overflow_mul-begin c = omega (arith, size c.before)

overflow_mul-begin-in-loop-g : tie.Need-overflow_mul-begin-in-loop-g invariant-loop-g decreases-loop-g
overflow_mul-begin-in-loop-g c = omega (arith, room c, (start c.before).requires.1.1)

overflow_mul-end : tie.Need-overflow_mul-end invariant-loop-g decreases-loop-g
overflow_mul-end c = omega (arith, size c.before)

overflow_add-end : tie.Need-overflow_add-end invariant-loop-g decreases-loop-g
overflow_add-end c = omega (arith, room c, (start c.before).requires.1.1)

slice_bounds-deal-count : tie.Need-slice_bounds-deal-count invariant-loop-g decreases-loop-g
slice_bounds-deal-count c = search rules

slice_bounds-deal-start : tie.Need-slice_bounds-deal-start invariant-loop-g decreases-loop-g
slice_bounds-deal-start c = search rules

slice_bounds-deal-end : tie.Need-slice_bounds-deal-end invariant-loop-g decreases-loop-g
slice_bounds-deal-end c = room c

deal-fault-requires : tie.Need-deal-fault-requires invariant-loop-g decreases-loop-g
deal-fault-requires c κs =
    let i = c.before.before in
    let l = i.before in (
      shape l,
      part_length (plan l) (shape l) (capture l) (start l).args.groups l.loop-g.g (all l) i.loop-g-test.true,
      omega (arith, l.loop-g.invariant.2, (start l).requires.0.2 (omega (arith, i.loop-g-test.true))),
    )

overflow_mul-place : tie.Need-overflow_mul-place invariant-loop-g decreases-loop-g
overflow_mul-place c = let d = c.before.before.before.before in omega (arith, room (in_loop d), (start (loop d)).requires.1.1)

overflow_add-place : tie.Need-overflow_add-place invariant-loop-g decreases-loop-g
overflow_add-place c = let d = c.before.before.before.before.before in omega (arith, low d, room (in_loop d), (start (loop d)).requires.1.1)

shape_of-row-then-fault-ne0 : tie.Need-shape_of-row-then-fault-ne0 invariant-loop-g decreases-loop-g
shape_of-row-then-fault-ne0 c = search rules

shape_of-out-then-fault-ne0 : tie.Need-shape_of-out-then-fault-ne0 invariant-loop-g decreases-loop-g
shape_of-out-then-fault-ne0 c = search rules

returns-then-fault-ne0 : tie.Need-returns-then-fault-ne0 invariant-loop-g decreases-loop-g
returns-then-fault-ne0 c =
    let t = c.before in
    let d = t.before.before.before.before in
    let l = loop d in
    record {
      through = λ z. absurd (t.if-fault-ne0.true z);
      notice = λ z. absurd (t.if-fault-ne0.true z);
      stops = λ z.
          over_fault (start l).args.kinds (plan l) (capture l) (start l).args.groups (start l).args.out.now (shape l) l.loop-g.g (in_loop d).loop-g-test.true l.loop-g.pass
          l.loop-g.out (over l) (dealt_found (plan l) (shape l) (capture l) l.loop-g.g d.deal-fault.ensures z);
    }

offset_bounds-row-first : tie.Need-offset_bounds-row-first invariant-loop-g decreases-loop-g
offset_bounds-row-first c = omega (arith, first c, lead_few (plan (group c)))

slice_bounds-on_row-count : tie.Need-slice_bounds-on_row-count invariant-loop-g decreases-loop-g
slice_bounds-on_row-count c = search rules

slice_bounds-on_row-start : tie.Need-slice_bounds-on_row-start invariant-loop-g decreases-loop-g
slice_bounds-on_row-start c = search rules

slice_bounds-on_row-end : tie.Need-slice_bounds-on_row-end invariant-loop-g decreases-loop-g
slice_bounds-on_row-end c = part_room c

on_row-pass-requires : tie.Need-on_row-pass-requires invariant-loop-g decreases-loop-g
on_row-pass-requires c κs =
    let e = c.before.before in
    let l = group e in (
      (over l).brought.sound,
      words_of_row e,
      rw l.loop-g.invariant.1 (over l).few,
      omega (arith, l.loop-g.invariant.1, part_length_is e, numbers e),
      (shape l).filling,
    )

broken-requires : tie.Need-broken-requires invariant-loop-g decreases-loop-g
broken-requires c κs =
    let r = bad_row c in
    let l = group (of_row r) in
    let t = told_few r in
    (shape l, (start l).requires.0.1, omega (arith, c.if-pass-ne0.true), t.1, t.0)

shape_of-row-then-pass-ne0 : tie.Need-shape_of-row-then-pass-ne0 invariant-loop-g decreases-loop-g
shape_of-row-then-pass-ne0 c =
    let e = of_row (bad_row c.before) in
    (dealt e).deal-fault.ensures.long ∙ (group e).loop-g.invariant.2

shape_of-out-then-pass-ne0 : tie.Need-shape_of-out-then-pass-ne0 invariant-loop-g decreases-loop-g
shape_of-out-then-pass-ne0 c = c.out-1.given ∙ (over (group (of_row (bad_row c.before)))).brought.long

returns-then-pass-ne0 : tie.Need-returns-then-pass-ne0 invariant-loop-g decreases-loop-g
returns-then-pass-ne0 c =
    let t = c.before in
    let r = bad_row t in
    let e = of_row r in
    let l = group e in
    walked_bad _ _ _ _ _ r.on_row-pass.result.bad r.on_row-pass.result.since
    (over_bad (start l).args.kinds (plan l) (capture l) (start l).args.groups (start l).args.out.now (shape l) l.loop-g.g (in_loop (dealt e)).loop-g-test.true
    l.loop-g.pass l.loop-g.out (over l) (counted l.loop-g.from (part e)) (counted_is e) (sound e) r.on_row-pass.result (out r) r.on_row-pass.ensures.0 t.if-pass-ne0.true)
    c.broken.ensures

offset_bounds-row-first-in-loop-g : tie.Need-offset_bounds-row-first-in-loop-g invariant-loop-g decreases-loop-g
offset_bounds-row-first-in-loop-g c = let e = good_group c in omega (arith, first e, lead_few (plan (group e)))

slice_bounds-note_row-count : tie.Need-slice_bounds-note_row-count invariant-loop-g decreases-loop-g
slice_bounds-note_row-count c = search rules

slice_bounds-note_row-start : tie.Need-slice_bounds-note_row-start invariant-loop-g decreases-loop-g
slice_bounds-note_row-start c = search rules

slice_bounds-note_row-end : tie.Need-slice_bounds-note_row-end invariant-loop-g decreases-loop-g
slice_bounds-note_row-end c = part_room (good_group c)

slice_bounds-note_row-end-in-loop-g : tie.Need-slice_bounds-note_row-end-in-loop-g invariant-loop-g decreases-loop-g
slice_bounds-note_row-end-in-loop-g c = sym (group (good_group c.before.before)).loop-g.invariant.4

note_row-noted-requires : tie.Need-note_row-noted-requires invariant-loop-g decreases-loop-g
note_row-noted-requires c κs =
    let e = good_group c.before.before in
    let l = group e in (
      l.has_arinc-arinc.ensures,
      words_of_row e,
      omega (arith, part_length_is e, numbers e),
      omega (arith, l.loop-g.invariant.1, part_length_is e, numbers e),
      l.loop-g.invariant.4,
      l.loop-g.invariant.6,
    )

overflow_add-from : tie.Need-overflow_add-from invariant-loop-g decreases-loop-g
overflow_add-from c = let e = good_group (noted c.before) in omega (arith, (group e).loop-g.invariant.1, (start (group e)).requires.0.1, numbers e)

overflow_add-g : tie.Need-overflow_add-g invariant-loop-g decreases-loop-g
overflow_add-g c = let e = good_group (noted c.before) in omega (arith, (in_loop (dealt e)).loop-g-test.true, (start (group e)).ranges.groups)

loop-g-smaller : tie.Need-loop-g-smaller invariant-loop-g decreases-loop-g
loop-g-smaller c = omega (arith, (in_loop (dealt (good_group (noted c.before)))).loop-g-test.true)

loop-g-preserved : tie.Need-loop-g-preserved invariant-loop-g decreases-loop-g
loop-g-preserved c =
    let q = noted c.before in
    let r = good q in
    let e = of_row r in
    let l = group e in (
      omega (arith, (in_loop (dealt e)).loop-g-test.true),
      omega (arith, l.loop-g.invariant.1, (start l).requires.0.1),
      (dealt e).deal-fault.ensures.long ∙ l.loop-g.invariant.2,
      over_more (start l).args.kinds (plan l) (capture l) (start l).args.groups (start l).args.out.now (shape l) l.loop-g.g (in_loop (dealt e)).loop-g-test.true
          l.loop-g.pass l.loop-g.out (over l) (counted l.loop-g.from (part e)) (counted_is e) (sound e) r.on_row-pass.result (out r) r.on_row-pass.ensures.0 q.if-pass-ne0.false
          (omega (arith, r.on_row-pass.ensures.1 q.if-pass-ne0.false, l.loop-g.invariant.1, part_length_is e)),
      c.table-in-loop-g-1.given,
      noted_next c.before,
      c.note_row-noted.ensures.1,
    )

slice_bounds-at_end-end : tie.Need-slice_bounds-at_end-end invariant-loop-g decreases-loop-g
slice_bounds-at_end-end c = search rules

at_end-notice-requires : tie.Need-at_end-notice-requires invariant-loop-g decreases-loop-g
at_end-notice-requires c κs = let l = c.before.before in (omega (arith, l.loop-g.invariant.4), l.loop-g.invariant.6)

shape_of-row : tie.Need-shape_of-row invariant-loop-g decreases-loop-g
shape_of-row c = search rules

shape_of-out : tie.Need-shape_of-out invariant-loop-g decreases-loop-g
shape_of-out c = search rules

returns : tie.Need-returns invariant-loop-g decreases-loop-g
returns c =
    let e = c.before.before in
    let l = e.before in
    record { through = λ z. over_all _ _ _ _ _ _ (last e) (over l); notice = λ z. c.at_end-notice.ensures ∙ earliest e; stops = λ z. absurd (z refl) }

pub over_groups_spec : {M : Type 1} → statement M
over_groups_spec =
    tie.close
    (tie.spec
    invariant-loop-g
    decreases-loop-g
    overflow_mul-size
    lead-first-requires
    overflow_add-behind
    start_pass-start-requires
    has_arinc-arinc-requires
    loop-g-init
    overflow_mul-begin
    overflow_mul-begin-in-loop-g
    overflow_mul-end
    overflow_add-end
    slice_bounds-deal-count
    slice_bounds-deal-start
    slice_bounds-deal-end
    deal-fault-requires
    overflow_mul-place
    overflow_add-place
    shape_of-row-then-fault-ne0
    shape_of-out-then-fault-ne0
    returns-then-fault-ne0
    offset_bounds-row-first
    slice_bounds-on_row-count
    slice_bounds-on_row-start
    slice_bounds-on_row-end
    on_row-pass-requires
    broken-requires
    shape_of-row-then-pass-ne0
    shape_of-out-then-pass-ne0
    returns-then-pass-ne0
    offset_bounds-row-first-in-loop-g
    slice_bounds-note_row-count
    slice_bounds-note_row-start
    slice_bounds-note_row-end
    slice_bounds-note_row-end-in-loop-g
    note_row-noted-requires
    overflow_add-from
    overflow_add-g
    loop-g-smaller
    loop-g-preserved
    slice_bounds-at_end-end
    at_end-notice-requires
    shape_of-row
    shape_of-out
    returns)
