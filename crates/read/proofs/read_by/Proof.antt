use Prim.Native.Nat.{ℕ, ◌*◌, ◌/◌, ◌≤◌}
use native.Mathlib.Omega.{arith}
use borrow.Author.Rules.{rules}
use mathlib.Core.Path.{◌≡◌, subst}
use mathlib.Core.List.{List}
use lib.ListN.{length}
use Rattle.format.specs.Log.{log_of}
use Rattle.format.specs.Plan.{group_words}
use Rattle.format.specs.Answer.{Given}
use Rattle.format.specs.Read.{roomed}
use Rattle.format.specs.declared.Plan.{Plan}
use Rattle.read_groups.specs.End.{Logged, Ended}
use Rattle.read.proofs.Given.{some_words, built_of, stops_settled, open_settled, open_few, fill_settled, fill_few, log_settled}
use Rattle.read.proofs.read_by.Statement.{statement}
use Rattle.read.proofs.read_by.Tie as tie
use Rattle.capture_parts.proofs.Given.{given_refused, whole_groups}

-- ---- the places

-- the groups were read, into `built`
abbrev Read : Type 0
Read = tie.After-read_groups-end

abbrev start : Read → tie.Start
start c = c.before.before.before.before.before.before.before.before

abbrev plan : Read → Plan
plan c = (start c).args.plan

abbrev capture : Read → List ℕ
capture c = (start c).args.capture.now

abbrev log : Read → List ℕ
log c = (start c).args.log.now

abbrev times : Read → List ℕ
times c = (start c).args.times.now

abbrev groups : Read → ℕ
groups c = length (capture c) / (3 * group_words (plan c))

abbrev built : Read → List ℕ
built c = c.read_groups-end.new.out

counted : (c : Read) → c.groups_in-n.result ≡ groups c
counted c = c.groups_in-n.ensures

ended : (c : Read) → Ended (start c).args.kinds (plan c) (capture c) (groups c) c.read_groups-end.result (built c)
ended c =
    subst (λ (n : ℕ). Ended (start c).args.kinds (plan c) (capture c) n c.read_groups-end.result (built c)) (counted c) c.read_groups-end.ensures

whole : (c : Read) → length (capture c) ≡ groups c * (3 * group_words (plan c))
whole c = whole_groups (plan c) (length (capture c)) (start c).requires.0.2

-- they brought a log
abbrev Logged-all : Type 0
Logged-all = tie.Else-end-ne0

abbrev read : Logged-all → Read
read c = c.before.before.before.before

logged : (c : Logged-all) → Logged (start (read c)).args.kinds (plan (read c)) (capture (read c)) (groups (read c)) (read c).read_groups-end.result (built (read c))
logged c = (ended (read c)).logged c.if-end-ne0.false

-- no notice is open
abbrev Answered-all : Type 0
Answered-all = tie.Else-end-ne0-2

abbrev brought : Answered-all → Logged-all
brought c = c.before.before

-- misplaced fill was asked for
abbrev Asked : Type 0
Asked = tie.After-asked-misplaced

abbrev answered : Asked → Answered-all
answered c = c.before

few : (c : Asked) → c.asked-misplaced.result ≤ 349525
few c =
    let r = read (brought (answered c)) in
    fill_few (plan r) (capture r) (groups r) (length (log r)) (length (times r)) (start r).args.closed (logged (brought (answered c))) (answered c).if-end-ne0-2.false c.asked-misplaced.result c.asked-misplaced.ensures
    (length (capture r)) (whole r) (start r).requires.0.1 (start r).requires.0.0

-- ---- the needs

groups_in-n-requires : tie.Need-groups_in-n-requires
groups_in-n-requires c κs = let s = c.before.before.before.before in (s.requires.0.0, s.requires.0.1)

slots-count-requires : tie.Need-slots-count-requires
slots-count-requires c κs = search rules

read_groups-end-requires : tie.Need-read_groups-end-requires
read_groups-end-requires c κs =
    let w = c.before.before in
    let s = w.before.before.before.before.before in (
      (s.requires.0.0, c.slots-count.ensures.0),
      (rw w.groups_in-n.ensures (whole_groups s.args.plan (length s.args.capture.now) s.requires.0.2), s.requires.0.1),
    )

refusal-requires : tie.Need-refusal-requires
refusal-requires c κs = search rules

shape_of-built-then-end-ne0 : tie.Need-shape_of-built-then-end-ne0
shape_of-built-then-end-ne0 c = search rules

returns-then-end-ne0 : tie.Need-returns-then-end-ne0
returns-then-end-ne0 c =
    let t = c.before in
    let r = t.before.before.before.before in
    given_refused (log r) (times r)
    (stops_settled (plan r) (capture r) (groups r) (length (log r)) (length (times r)) (start r).args.closed (ended r) t.if-end-ne0.true) c.refusal.ensures

overflow_sub-end : tie.Need-overflow_sub-end
overflow_sub-end c = omega (arith, c.if-end-ne0-2.true)

stored_place-requires : tie.Need-stored_place-requires
stored_place-requires c κs =
    let l = c.before.before.before in
    let r = read l in (
      (start r).requires.0.0,
      r.slots-count.ensures.0,
      omega (arith, open_few (plan r) (capture r) (groups r) (length (log r)) (length (times r)) (start r).args.closed (logged l) (length (capture r)) (whole r) (start r).requires.0.1 (start r).requires.0.0),
    )

refusal-requires-then-end-ne0-2 : tie.Need-refusal-requires-then-end-ne0-2
refusal-requires-then-end-ne0-2 c κs = search rules

shape_of-built-then-end-ne0-2 : tie.Need-shape_of-built-then-end-ne0-2
shape_of-built-then-end-ne0-2 c = search rules

returns-then-end-ne0-2 : tie.Need-returns-then-end-ne0-2
returns-then-end-ne0-2 c =
    let t = c.before.before.before in
    let l = t.before.before in
    let r = read l in
    given_refused (log r) (times r)
    (open_settled (plan r) (capture r) (groups r) (length (log r)) (length (times r)) (start r).args.closed (logged l) t.if-end-ne0-2.true c.stored_place.ensures)
    c.refusal-then-end-ne0-2.ensures

asked-misplaced-requires : tie.Need-asked-misplaced-requires
asked-misplaced-requires c κs = search rules

overflow_sub-misplaced : tie.Need-overflow_sub-misplaced
overflow_sub-misplaced c = omega (arith, c.if-misplaced-ne0.true)

stored_place-requires-then-misplaced-ne0 : tie.Need-stored_place-requires-then-misplaced-ne0
stored_place-requires-then-misplaced-ne0 c κs =
    let a = c.before in
    let r = read (brought (answered a)) in
    ((start r).requires.0.0, r.slots-count.ensures.0, omega (arith, few a))

refusal-requires-then-misplaced-ne0 : tie.Need-refusal-requires-then-misplaced-ne0
refusal-requires-then-misplaced-ne0 c κs = search rules

shape_of-built-then-misplaced-ne0 : tie.Need-shape_of-built-then-misplaced-ne0
shape_of-built-then-misplaced-ne0 c = search rules

returns-then-misplaced-ne0 : tie.Need-returns-then-misplaced-ne0
returns-then-misplaced-ne0 c =
    let t = c.before.before in
    let a = t.before in
    let l = brought (answered a) in
    let r = read l in
    given_refused (log r) (times r)
    (fill_settled (plan r) (capture r) (groups r) (length (log r)) (length (times r)) (start r).args.closed (logged l) (answered a).if-end-ne0-2.false a.asked-misplaced.result a.asked-misplaced.ensures
    t.if-misplaced-ne0.true c.stored_place-then-misplaced-ne0.ensures)
    c.refusal-then-misplaced-ne0.ensures

give-requires : tie.Need-give-requires
give-requires c κs =
    let l = brought (answered c.before.before.before) in
    let r = read l in
    let s = start r in
    let g = logged l in (
      (s.requires.0.0, rw (counted r) (omega (arith, whole r)), s.requires.0.1),
      λ h k.
          let w = s.requires.1.room g.items g.is (omega (arith, g.bytes, h)) (omega (arith, g.bytes, k)) in
          let e : length (built r) ≡ length s.args.built.now = l.built-1.given in
          omega (arith, w, e, g.bytes),
    )

shape_of-built : tie.Need-shape_of-built
shape_of-built c = search rules

shape_of-log : tie.Need-shape_of-log
shape_of-log c = search rules

shape_of-times : tie.Need-shape_of-times
shape_of-times c = search rules

returns : tie.Need-returns
returns c =
    let given = c.before.before.before.before in
    let o = given.before.before.before in
    let a = o.before in
    let l = brought (answered a) in
    let r = read l in
    rw (log_settled (plan r) (capture r) (groups r) (length (log r)) (length (times r)) (start r).args.closed (logged l) (answered a).if-end-ne0-2.false a.asked-misplaced.result a.asked-misplaced.ensures
    o.if-misplaced-ne0.false)
    (subst
    (λ (n : ℕ).
    Given (roomed (plan r) (capture r) n (length (log r)) (length (times r)) (log_of (logged l).items)) given.give.result (log r)
    given.give.new.log (times r) given.give.new.times)
    (counted r) (given.give.ensures (log_of (logged l).items) (built_of (logged l))))

pub read_by_spec : {M : Type 1} → statement M
read_by_spec =
    tie.close
    (tie.spec
    groups_in-n-requires
    slots-count-requires
    read_groups-end-requires
    refusal-requires
    shape_of-built-then-end-ne0
    returns-then-end-ne0
    overflow_sub-end
    stored_place-requires
    refusal-requires-then-end-ne0-2
    shape_of-built-then-end-ne0-2
    returns-then-end-ne0-2
    asked-misplaced-requires
    overflow_sub-misplaced
    stored_place-requires-then-misplaced-ne0
    refusal-requires-then-misplaced-ne0
    shape_of-built-then-misplaced-ne0
    returns-then-misplaced-ne0
    give-requires
    shape_of-built
    shape_of-log
    shape_of-times
    returns)
