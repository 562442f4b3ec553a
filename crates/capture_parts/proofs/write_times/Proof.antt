use Prim.Native.Nat.{ℕ, ◌+◌, ◌*◌, ◌-◌, ◌≤◌}
use native.Mathlib.Omega.{arith}
use borrow.Author.Rules.{rules}
use mathlib.Core.Path.{◌≡◌, sym, ◌∙◌}
use mathlib.Core.List.{List}
use lib.ListN.{length}
use Rattle.format.specs.Lists.{list}
use Rattle.format.specs.Plan.{group_words}
use Rattle.format.specs.Group.{group_time}
use Rattle.format.specs.Laws.Front.{Front, front_none, front_long}
use Rattle.format.specs.declared.Plan.{Plan}
use Rattle.group_read.proofs.Answers.{part_time_is}
use Rattle.capture_parts.proofs.Times.{part_begins, part_sized, part_fits, part_long, times_more}
use Rattle.capture_parts.proofs.write_times.Statement.{statement}
use Rattle.capture_parts.proofs.write_times.Tie as tie

abbrev time_at : Plan → List ℕ → ℕ → ℕ
time_at plan capture k = group_time plan capture (k * group_words plan)

abbrev invariant-loop-g : tie.invariant-loop-g
invariant-loop-g capture plan n times₀ size g₀ times g = (g ≤ n) × Front (list (time_at plan capture) 0 g) times₀ times g

abbrev decreases-loop-g : tie.decreases-loop-g
decreases-loop-g capture plan n times₀ size g₀ times g = n - g

-- ---- the places

-- at a group
abbrev AtLoop : Type 0
AtLoop = tie.At-loop-g invariant-loop-g decreases-loop-g

abbrev start : AtLoop → tie.Start invariant-loop-g decreases-loop-g
start c = c.before.before.before.before

abbrev words : AtLoop → ℕ
words c = c.group_words-size.result

are_words : (c : AtLoop) → words c ≡ group_words (start c).args.plan
are_words c = c.group_words-size.ensures.0

-- in it
abbrev InLoop : Type 0
InLoop = tie.In-loop-g invariant-loop-g decreases-loop-g

abbrev at : InLoop → tie.Start invariant-loop-g decreases-loop-g
at c = start c.before

fits : (c : InLoop) → c.loop-g.g * (3 * words c.before) + 3 * words c.before ≤ length (at c).args.capture.now
fits c =
    part_fits (at c).args.plan c.loop-g.g (words c.before) (are_words c.before) (at c).args.capture.now (at c).args.n (at c).requires.1 c.loop-g-test.true

-- its time is told
abbrev Timed : Type 0
Timed = tie.After-group_time invariant-loop-g decreases-loop-g

abbrev in_loop : Timed → InLoop
in_loop c = c.before.before

is_time_lem : (c : Timed) → c.group_time.result ≡ time_at (at (in_loop c)).args.plan (at (in_loop c)).args.capture.now (in_loop c).loop-g.g
is_time_lem c =
    let s = at (in_loop c) in
    let l = (in_loop c).before in
    let g = l.loop-g.g in
    c.group_time.ensures
    ∙ sym
    (part_time_is s.args.plan s.args.capture.now (g * group_words s.args.plan) (g * (3 * words l)) (g * (3 * words l) + 3 * words l - g * (3 * words l)) s.requires.0
    (part_begins s.args.plan g (words l) (are_words l)) (part_sized s.args.plan g (words l) (are_words l)))

-- ---- the needs

group_words-size-requires : tie.Need-group_words-size-requires invariant-loop-g decreases-loop-g
group_words-size-requires c κs = search rules

overflow_mul-size : tie.Need-overflow_mul-size invariant-loop-g decreases-loop-g
overflow_mul-size c = search rules

loop-g-init : tie.Need-loop-g-init invariant-loop-g decreases-loop-g
unfolding list
loop-g-init c = (omega arith, front_none _)

overflow_mul-begin : tie.Need-overflow_mul-begin invariant-loop-g decreases-loop-g
overflow_mul-begin c = omega (arith, fits c, (at c).requires.2)

overflow_add-end : tie.Need-overflow_add-end invariant-loop-g decreases-loop-g
overflow_add-end c = omega (arith, fits c, (at c).requires.2)

slice_bounds-group_time-count : tie.Need-slice_bounds-group_time-count invariant-loop-g decreases-loop-g
slice_bounds-group_time-count c = search rules

slice_bounds-group_time-start : tie.Need-slice_bounds-group_time-start invariant-loop-g decreases-loop-g
slice_bounds-group_time-start c = search rules

slice_bounds-group_time-end : tie.Need-slice_bounds-group_time-end invariant-loop-g decreases-loop-g
slice_bounds-group_time-end c = fits c

group_time-requires : tie.Need-group_time-requires invariant-loop-g decreases-loop-g
group_time-requires c κs =
    let i = c.before in
    let s = at i in
    (s.requires.0, part_long s.args.plan i.loop-g.g (words i.before) (are_words i.before) s.args.capture.now s.args.n s.requires.1 i.loop-g-test.true)

offset_bounds-times-g : tie.Need-offset_bounds-times-g invariant-loop-g decreases-loop-g
offset_bounds-times-g c = search rules

bounds-times-g : tie.Need-bounds-times-g invariant-loop-g decreases-loop-g
bounds-times-g c = omega (arith, front_long (in_loop c).loop-g.invariant.1)

overflow_add-g : tie.Need-overflow_add-g invariant-loop-g decreases-loop-g
overflow_add-g c = search rules

loop-g-smaller : tie.Need-loop-g-smaller invariant-loop-g decreases-loop-g
loop-g-smaller c = search rules

loop-g-preserved : tie.Need-loop-g-preserved invariant-loop-g decreases-loop-g
loop-g-preserved c =
    let s = at (in_loop c) in
    let l = (in_loop c).loop-g in
    (omega arith, times_more (time_at s.args.plan s.args.capture.now) l.invariant.1 (omega (arith, (in_loop c).loop-g-test.true, s.requires.3)) (is_time_lem c))

shape_of-times : tie.Need-shape_of-times invariant-loop-g decreases-loop-g
shape_of-times c = front_long c.loop-g.invariant.1

returns : tie.Need-returns invariant-loop-g decreases-loop-g
returns c =
    let e : c.loop-g.g ≡ (start c.before).args.n = omega arith in
    rw (← e) c.loop-g.invariant.1.is

pub write_times_spec : {M : Type 1} → statement M
write_times_spec =
    tie.close
    (tie.spec
    invariant-loop-g
    decreases-loop-g
    group_words-size-requires
    overflow_mul-size
    loop-g-init
    overflow_mul-begin
    overflow_add-end
    slice_bounds-group_time-count
    slice_bounds-group_time-start
    slice_bounds-group_time-end
    group_time-requires
    offset_bounds-times-g
    bounds-times-g
    overflow_add-g
    loop-g-smaller
    loop-g-preserved
    shape_of-times
    returns)
