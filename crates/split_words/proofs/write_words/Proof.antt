use Prim.Native.Nat.{ℕ, ◌+◌, ◌*◌, ◌-◌, ◌≤◌, ◌<◌}
use native.Mathlib.Omega.{arith}
use borrow.Author.Rules.{rules}
use mathlib.Core.Path.{◌≡◌, refl, ap, sym, ◌∙◌}
use mathlib.Core.List.{List}
use lib.ListN.{length, take, drop}
use Rattle.format.specs.Plan.{group_words, slots, lead}
use Rattle.format.specs.Group.{none, group_fault, group_slots}
use Rattle.format.specs.Read.{slots_from}
use Rattle.format.specs.Laws.Front.{Front, front_long}
use Rattle.format.specs.Laws.Limits.{Shape, group_most, most_group_words, slots_most, lead_few}
use Rattle.format.specs.Laws.Reader.Slots.{words_in}
use Rattle.format.specs.declared.Plan.{Plan}
use Rattle.capture_rules.specs.Split.{groups_fault}
use Rattle.group_read.proofs.Answers.{words_length}
use Rattle.capture_parts.proofs.Part.{group_room, part_length, dealt_all, none_dealt, dealt_words, numbers_few}
use Rattle.split_words.proofs.Groups.{lent_length, fault_first, fault_none, words_none, share_room, group_more, words_all}
use Rattle.split_words.proofs.write_words.Statement.{statement}
use Rattle.split_words.proofs.write_words.Tie as tie
use Rattle.group_read.proofs.lead.Reads as lead-reads
use Rattle.plan.proofs.slots.Reads as slots-reads
use Rattle.split_words.proofs.copy_words.Reads as copy-words-reads

abbrev invariant-loop-g : tie.invariant-loop-g
invariant-loop-g plan capture n row₀ words₀ size count first behind g₀ row words g =
    (g ≤ n) × (length row ≡ length row₀) × (groups_fault plan capture (n - g) g ≡ none) × Front (words_in (slots_from plan capture g 0)) words₀ words (g * count)

abbrev decreases-loop-g : tie.decreases-loop-g
decreases-loop-g plan capture n row₀ words₀ size count first behind g₀ row words g = n - g

-- ---- the places

-- at a group
abbrev AtLoop : Type 0
AtLoop = tie.At-loop-g invariant-loop-g decreases-loop-g

abbrev start : AtLoop → tie.Start invariant-loop-g decreases-loop-g
start c = c.before.before.before.before.before.before.before

abbrev plan : AtLoop → Plan
plan c = (start c).args.plan

abbrev capture : AtLoop → List ℕ
capture c = (start c).args.capture.now

shape : (c : AtLoop) → Shape (plan c)
shape c = (start c).requires.0.0

all : (c : AtLoop) → length (capture c) ≡ (start c).args.n * (3 * group_words (plan c))
all c = (start c).requires.1.0

size : (c : AtLoop) → group_words (plan c) ≤ most_group_words
size c = group_most (plan c) (shape c)

-- how many words a group has, and how many stand before them
abbrev count : AtLoop → ℕ
count c = c.slots-count.result

counts : (c : AtLoop) → count c ≡ slots (plan c)
counts c = c.slots-count.ensures.0

abbrev first : AtLoop → ℕ
first c = c.lead-first.result

first_is : (c : AtLoop) → first c ≡ lead (plan c)
first_is c = c.lead-first.ensures

-- in it
abbrev InLoop : Type 0
InLoop = tie.In-loop-g invariant-loop-g decreases-loop-g

room : (c : InLoop) → c.loop-g.g * (3 * group_words (plan c.before)) + 3 * group_words (plan c.before) ≤ length (capture c.before)
room c = let l = c.before in group_room (plan l) (shape l) (start l).args.n l.loop-g.g (length (capture l)) (all l) c.loop-g-test.true

-- its words have room
word_room : (c : InLoop) → (c.loop-g.g + 1) * count c.before ≤ length (start c.before).args.words.now
word_room c = let l = c.before in share_room (plan l) (capture l) l.loop-g.g (start l).args.n (count l) _ c.loop-g-test.true (counts l) (start l).requires.0.2

few : (c : InLoop) → (c.loop-g.g + 1) * count c.before ≤ 349525
few c =
    let l = c.before in
    share_room (plan l) (capture l) l.loop-g.g (start l).args.n (count l) 349525 c.loop-g-test.true (counts l)
    (numbers_few (plan l) (shape l) (start l).args.n (length (capture l)) (all l) (start l).requires.1.1)

faultless : (c : InLoop)
    → let l = c.before in
    (group_fault (plan l) (capture l) (l.loop-g.g * group_words (plan l)) ≡ none) × (groups_fault (plan l) (capture l) ((start l).args.n - (l.loop-g.g + 1)) (l.loop-g.g + 1) ≡ none)
faultless c = let l = c.before in fault_none (plan l) (capture l) (start l).args.n l.loop-g.g c.loop-g-test.true l.loop-g.invariant.2

-- it is dealt
abbrev Dealt : Type 0
Dealt = tie.After-slice_known-in-loop-g-1 invariant-loop-g decreases-loop-g

abbrev deal : Dealt → tie.After-deal invariant-loop-g decreases-loop-g
deal c = c.before.before

abbrev in_loop : Dealt → InLoop
in_loop c = (deal c).before.before.before

abbrev loop : Dealt → AtLoop
loop c = (in_loop c).before

abbrev row : Dealt → List ℕ
row c = (deal c).deal.new.row

abbrev part : Dealt → List ℕ
part c = let l = loop c in take (first l + count l - first l) (drop (first l) (row c))

part_is : (c : Dealt) → let l = loop c in part c ≡ words_in (group_slots (plan l) (capture l) (l.loop-g.g * group_words (plan l)))
part_is c =
    let l = loop c in
    dealt_words (plan l) (shape l) (capture l) l.loop-g.g (deal c).deal.ensures (first l) (count l)
    (none_dealt (plan l) (shape l) (capture l) l.loop-g.g (deal c).deal.ensures (faultless (in_loop c)).0) (first_is l) (counts l)

row_room : (c : Dealt) → first (loop c) + count (loop c) ≤ length (row c)
row_room c =
    let l = loop c in
    let r = (start l).requires.0.1 (omega (arith, (in_loop c).loop-g-test.true)) in
    omega (arith, first_is l, counts l, (deal c).deal.ensures.long, l.loop-g.invariant.1, r, dealt_all (plan l) (shape l))

-- ---- the needs

overflow_mul-size : tie.Need-overflow_mul-size invariant-loop-g decreases-loop-g
overflow_mul-size c = let s = c.before.before.before.before in omega (arith, group_most s.args.plan s.requires.0.0)

slots-count-requires : tie.Need-slots-count-requires invariant-loop-g decreases-loop-g
slots-count-requires c κs = search rules

lead-first-requires : tie.Need-lead-first-requires invariant-loop-g decreases-loop-g
lead-first-requires c κs = search rules

overflow_add-behind : tie.Need-overflow_add-behind invariant-loop-g decreases-loop-g
overflow_add-behind c =
    let s = c.before.before.before.before.before.before in
    omega (arith, c.lead-first.ensures, lead_few s.args.plan, c.slots-count.ensures.0, slots_most s.args.plan s.requires.0.0)

loop-g-init : tie.Need-loop-g-init invariant-loop-g decreases-loop-g
loop-g-init c =
    let s = c.before.before.before.before.before.before in
    (omega arith, refl, sym (fault_first s.args.plan s.args.capture.now s.args.n) ∙ s.requires.1.2, words_none s.args.plan s.args.capture.now s.args.words.now _ (omega arith))

overflow_mul-begin : tie.Need-overflow_mul-begin invariant-loop-g decreases-loop-g
overflow_mul-begin c = omega (arith, size c.before)

overflow_mul-begin-in-loop-g : tie.Need-overflow_mul-begin-in-loop-g invariant-loop-g decreases-loop-g
overflow_mul-begin-in-loop-g c = omega (arith, room c, (start c.before).requires.1.1)

overflow_mul-end : tie.Need-overflow_mul-end invariant-loop-g decreases-loop-g
overflow_mul-end c = omega (arith, size c.before)

overflow_add-end : tie.Need-overflow_add-end invariant-loop-g decreases-loop-g
overflow_add-end c = omega (arith, room c, (start c.before).requires.1.1)

slice_bounds-deal-count : tie.Need-slice_bounds-deal-count invariant-loop-g decreases-loop-g
slice_bounds-deal-count c = search rules

slice_bounds-deal-start : tie.Need-slice_bounds-deal-start invariant-loop-g decreases-loop-g
slice_bounds-deal-start c = search rules

slice_bounds-deal-end : tie.Need-slice_bounds-deal-end invariant-loop-g decreases-loop-g
slice_bounds-deal-end c = room c

deal-requires : tie.Need-deal-requires invariant-loop-g decreases-loop-g
deal-requires c κs =
    let i = c.before.before in
    let l = i.before in (
      shape l,
      part_length (plan l) (shape l) (capture l) (start l).args.n l.loop-g.g (all l) i.loop-g-test.true,
      omega (arith, l.loop-g.invariant.1, (start l).requires.0.1 (omega (arith, i.loop-g-test.true))),
    )

overflow_mul-from : tie.Need-overflow_mul-from invariant-loop-g decreases-loop-g
overflow_mul-from c = omega (arith, few (in_loop c))

overflow_add-to : tie.Need-overflow_add-to invariant-loop-g decreases-loop-g
overflow_add-to c = omega (arith, few (in_loop c))

offset_bounds-words-from : tie.Need-offset_bounds-words-from invariant-loop-g decreases-loop-g
offset_bounds-words-from c = omega (arith, few (in_loop c))

slice_bounds-copy_words-count : tie.Need-slice_bounds-copy_words-count invariant-loop-g decreases-loop-g
slice_bounds-copy_words-count c = search rules

slice_bounds-copy_words-start : tie.Need-slice_bounds-copy_words-start invariant-loop-g decreases-loop-g
slice_bounds-copy_words-start c = search rules

slice_bounds-copy_words-end : tie.Need-slice_bounds-copy_words-end invariant-loop-g decreases-loop-g
slice_bounds-copy_words-end c = omega (arith, word_room (in_loop c), front_long (loop c).loop-g.invariant.3)

offset_bounds-row-first : tie.Need-offset_bounds-row-first invariant-loop-g decreases-loop-g
offset_bounds-row-first c = let l = loop c.before in omega (arith, first_is l, lead_few (plan l))

slice_bounds-copy_words-count-in-loop-g : tie.Need-slice_bounds-copy_words-count-in-loop-g invariant-loop-g decreases-loop-g
slice_bounds-copy_words-count-in-loop-g c = search rules

slice_bounds-copy_words-start-in-loop-g : tie.Need-slice_bounds-copy_words-start-in-loop-g invariant-loop-g decreases-loop-g
slice_bounds-copy_words-start-in-loop-g c = search rules

slice_bounds-copy_words-end-in-loop-g : tie.Need-slice_bounds-copy_words-end-in-loop-g invariant-loop-g decreases-loop-g
slice_bounds-copy_words-end-in-loop-g c = row_room c.before

copy_words-requires : tie.Need-copy_words-requires invariant-loop-g decreases-loop-g
copy_words-requires c κs =
    let d = c.before.before in
    let l = loop d in
    let k : length (part d) ≡ count l = ap (λ (x : List ℕ). length x) (part_is d) ∙ words_length (plan l) (capture l) (l.loop-g.g * group_words (plan l)) ∙ sym (counts l) in
    lent_length l.loop-g.words (l.loop-g.g * count l) (count l) (omega (arith, word_room (in_loop d), front_long l.loop-g.invariant.3)) ∙ sym k

overflow_add-g : tie.Need-overflow_add-g invariant-loop-g decreases-loop-g
overflow_add-g c = search rules

loop-g-smaller : tie.Need-loop-g-smaller invariant-loop-g decreases-loop-g
loop-g-smaller c = omega (arith, (in_loop c.before.before.before.before.before).loop-g-test.true)

loop-g-preserved : tie.Need-loop-g-preserved invariant-loop-g decreases-loop-g
loop-g-preserved c =
    let d = c.before.before.before.before.before in
    let l = loop d in (
      omega (arith, (in_loop d).loop-g-test.true),
      (deal d).deal.ensures.long ∙ l.loop-g.invariant.1,
      (faultless (in_loop d)).1,
      group_more (plan l) (capture l) l.loop-g.g (l.loop-g.g * count l + count l - l.loop-g.g * count l) (count l) l.loop-g.invariant.3 (counts l) (omega arith) (word_room (in_loop d))
          (c.copy_words.ensures ∙ part_is d),
    )

shape_of-row : tie.Need-shape_of-row invariant-loop-g decreases-loop-g
shape_of-row c = c.loop-g.invariant.1

shape_of-words : tie.Need-shape_of-words invariant-loop-g decreases-loop-g
shape_of-words c = front_long c.loop-g.invariant.3

returns : tie.Need-returns invariant-loop-g decreases-loop-g
returns c =
    let l = c.before in
    words_all (plan l) (capture l) l.loop-g.g (start l).args.n (omega (arith, c.loop-g-test.false, l.loop-g.invariant.0)) l.loop-g.invariant.3

pub write_words_spec : {M : Type 1} → statement M
write_words_spec =
    tie.close
    (tie.spec
    invariant-loop-g
    decreases-loop-g
    overflow_mul-size
    slots-count-requires
    lead-first-requires
    overflow_add-behind
    loop-g-init
    overflow_mul-begin
    overflow_mul-begin-in-loop-g
    overflow_mul-end
    overflow_add-end
    slice_bounds-deal-count
    slice_bounds-deal-start
    slice_bounds-deal-end
    deal-requires
    overflow_mul-from
    overflow_add-to
    offset_bounds-words-from
    slice_bounds-copy_words-count
    slice_bounds-copy_words-start
    slice_bounds-copy_words-end
    offset_bounds-row-first
    slice_bounds-copy_words-count-in-loop-g
    slice_bounds-copy_words-start-in-loop-g
    slice_bounds-copy_words-end-in-loop-g
    copy_words-requires
    overflow_add-g
    loop-g-smaller
    loop-g-preserved
    shape_of-row
    shape_of-words
    returns)
