use Prim.Native.Nat.{ℕ, ◌+◌, ◌*◌, ◌-◌, ◌≤◌, ◌<◌}
use native.Mathlib.Omega.{arith}
use borrow.Author.Rules.{rules}
use mathlib.Core.Path.{◌≡◌, refl, ap, sym, ◌∙◌}
use mathlib.Core.List.{List}
use lib.ListN.{length}
use Rattle.format.specs.Plan.{group_words}
use Rattle.format.specs.Group.{Fault}
use Rattle.format.specs.Laws.Limits.{Shape, group_most, most_group_words}
use Rattle.format.specs.declared.Plan.{Plan}
use Rattle.capture_rules.specs.Split.{groups_fault}
use Rattle.group_read.specs.Faults.{fault_of}
use Rattle.capture_parts.proofs.Part.{group_room, part_length, dealt_none, dealt_found, dealt_low}
use Rattle.split_words.proofs.Groups.{fault_first, fault_here, fault_behind, fault_last}
use Rattle.split_words.proofs.first_fault.Statement.{statement}
use Rattle.split_words.proofs.first_fault.Tie as tie

abbrev invariant-loop-g : tie.invariant-loop-g
invariant-loop-g plan capture n row₀ size g₀ row g =
    (g ≤ n) × (length row ≡ length row₀) × (groups_fault plan capture n 0 ≡ groups_fault plan capture (n - g) g)

abbrev decreases-loop-g : tie.decreases-loop-g
decreases-loop-g plan capture n row₀ size g₀ row g = n - g

-- ---- the places

-- at a group
abbrev AtLoop : Type 0
AtLoop = tie.At-loop-g invariant-loop-g decreases-loop-g

abbrev start : AtLoop → tie.Start invariant-loop-g decreases-loop-g
start c = c.before.before.before.before

abbrev plan : AtLoop → Plan
plan c = (start c).args.plan

abbrev capture : AtLoop → List ℕ
capture c = (start c).args.capture.now

shape : (c : AtLoop) → Shape (plan c)
shape c = (start c).requires.0.0

all : (c : AtLoop) → length (capture c) ≡ (start c).args.n * (3 * group_words (plan c))
all c = (start c).requires.1.0

size : (c : AtLoop) → group_words (plan c) ≤ most_group_words
size c = group_most (plan c) (shape c)

-- in it
abbrev InLoop : Type 0
InLoop = tie.In-loop-g invariant-loop-g decreases-loop-g

room : (c : InLoop) → c.loop-g.g * (3 * group_words (plan c.before)) + 3 * group_words (plan c.before) ≤ length (capture c.before)
room c = let l = c.before in group_room (plan l) (shape l) (start l).args.n l.loop-g.g (length (capture l)) (all l) c.loop-g-test.true

-- it is dealt
abbrev Dealt : Type 0
Dealt = tie.After-deal-fault invariant-loop-g decreases-loop-g

abbrev in_loop : Dealt → InLoop
in_loop c = c.before.before.before

abbrev loop : Dealt → AtLoop
loop c = (in_loop c).before

low : (c : Dealt) → c.deal-fault.result.place < group_words (plan (loop c))
low c = dealt_low (plan (loop c)) (shape (loop c)) (capture (loop c)) (loop c).loop-g.g c.deal-fault.ensures

-- without a fault
abbrev Sound-group : Type 0
Sound-group = tie.Else-fault-ne0 invariant-loop-g decreases-loop-g

abbrev dealt : Sound-group → Dealt
dealt c = c.before.before.before.before

-- ---- the needs

overflow_mul-size : tie.Need-overflow_mul-size invariant-loop-g decreases-loop-g
overflow_mul-size c = let s = c.before.before.before in omega (arith, group_most s.args.plan s.requires.0.0)

loop-g-init : tie.Need-loop-g-init invariant-loop-g decreases-loop-g
loop-g-init c = let s = c.before.before.before in (omega arith, refl, fault_first s.args.plan s.args.capture.now s.args.n)

overflow_mul-begin : tie.Need-overflow_mul-begin invariant-loop-g decreases-loop-g
overflow_mul-begin c = omega (arith, size c.before)

overflow_mul-begin-in-loop-g : tie.Need-overflow_mul-begin-in-loop-g invariant-loop-g decreases-loop-g
overflow_mul-begin-in-loop-g c = omega (arith, room c, (start c.before).requires.1.1)

overflow_mul-end : tie.Need-overflow_mul-end invariant-loop-g decreases-loop-g
overflow_mul-end c = omega (arith, size c.before)

overflow_add-end : tie.Need-overflow_add-end invariant-loop-g decreases-loop-g
overflow_add-end c = omega (arith, room c, (start c.before).requires.1.1)

slice_bounds-deal-count : tie.Need-slice_bounds-deal-count invariant-loop-g decreases-loop-g
slice_bounds-deal-count c = search rules

slice_bounds-deal-start : tie.Need-slice_bounds-deal-start invariant-loop-g decreases-loop-g
slice_bounds-deal-start c = search rules

slice_bounds-deal-end : tie.Need-slice_bounds-deal-end invariant-loop-g decreases-loop-g
slice_bounds-deal-end c = room c

deal-fault-requires : tie.Need-deal-fault-requires invariant-loop-g decreases-loop-g
deal-fault-requires c κs =
    let i = c.before.before in
    let l = i.before in (
      shape l,
      part_length (plan l) (shape l) (capture l) (start l).args.n l.loop-g.g (all l) i.loop-g-test.true,
      omega (arith, l.loop-g.invariant.1, (start l).requires.0.1 (omega (arith, i.loop-g-test.true))),
    )

overflow_mul-result : tie.Need-overflow_mul-result invariant-loop-g decreases-loop-g
overflow_mul-result c = let d = c.before.before.before.before in omega (arith, room (in_loop d), (start (loop d)).requires.1.1)

overflow_add-result : tie.Need-overflow_add-result invariant-loop-g decreases-loop-g
overflow_add-result c = let d = c.before.before.before.before.before in omega (arith, low d, room (in_loop d), (start (loop d)).requires.1.1)

shape_of-row-then-fault-ne0 : tie.Need-shape_of-row-then-fault-ne0 invariant-loop-g decreases-loop-g
shape_of-row-then-fault-ne0 c = search rules

returns-then-fault-ne0 : tie.Need-returns-then-fault-ne0 invariant-loop-g decreases-loop-g
returns-then-fault-ne0 c =
    let t = c.before in
    let d = t.before.before.before.before in
    let l = loop d in
    record {
      is = sym (ap fault_of (l.loop-g.invariant.2 ∙ fault_here (plan l) (capture l) (start l).args.n l.loop-g.g (in_loop d).loop-g-test.true
          (dealt_found (plan l) (shape l) (capture l) l.loop-g.g d.deal-fault.ensures t.if-fault-ne0.true)));
      clear = λ z. absurd (t.if-fault-ne0.true z);
    }

overflow_add-g : tie.Need-overflow_add-g invariant-loop-g decreases-loop-g
overflow_add-g c = search rules

loop-g-smaller : tie.Need-loop-g-smaller invariant-loop-g decreases-loop-g
loop-g-smaller c = search rules

loop-g-preserved : tie.Need-loop-g-preserved invariant-loop-g decreases-loop-g
loop-g-preserved c =
    let d = dealt c in
    let l = loop d in (
      omega (arith, (in_loop d).loop-g-test.true),
      d.deal-fault.ensures.long ∙ l.loop-g.invariant.1,
      l.loop-g.invariant.2 ∙ fault_behind (plan l) (capture l) (start l).args.n l.loop-g.g (in_loop d).loop-g-test.true
          (dealt_none (plan l) (shape l) (capture l) l.loop-g.g d.deal-fault.ensures c.if-fault-ne0.false),
    )

shape_of-row : tie.Need-shape_of-row invariant-loop-g decreases-loop-g
shape_of-row c = search rules

returns : tie.Need-returns invariant-loop-g decreases-loop-g
returns c =
    let l = c.before in
    let e = l.loop-g.invariant.2 ∙ fault_last (plan l) (capture l) (start l).args.n l.loop-g.g (omega (arith, c.loop-g-test.false)) in
    record { is = sym (ap fault_of e); clear = λ z. e }

pub first_fault_spec : {M : Type 1} → statement M
first_fault_spec =
    tie.close
    (tie.spec
    invariant-loop-g
    decreases-loop-g
    overflow_mul-size
    loop-g-init
    overflow_mul-begin
    overflow_mul-begin-in-loop-g
    overflow_mul-end
    overflow_add-end
    slice_bounds-deal-count
    slice_bounds-deal-start
    slice_bounds-deal-end
    deal-fault-requires
    overflow_mul-result
    overflow_add-result
    shape_of-row-then-fault-ne0
    returns-then-fault-ne0
    overflow_add-g
    loop-g-smaller
    loop-g-preserved
    shape_of-row
    returns)
