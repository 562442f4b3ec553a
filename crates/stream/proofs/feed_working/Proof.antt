use native.Mathlib.Omega.{arith}
use mathlib.Core.Path.{◌≡◌, ap, ◌∙◌}
use Prim.Native.Nat.{ℕ, ◌+◌, ◌*◌, ◌/◌, ◌≤◌}
use lib.ListN.{length}
use Rattle.format.specs.Plan.{times_needed}
use Rattle.format.specs.Laws.Limits.{group_most}
use Rattle.stream_rules.specs.Stream.{group_size, most_bytes}
use Rattle.stream_calls.proofs.Refused.{crossed, fed_bytes, piece_kept, piece_waits, short_entries, unread_leaves}
use borrow.Author.Rules.{rules}
use Rattle.stream.proofs.feed_working.Statement.{statement}
use Rattle.stream.proofs.feed_working.Tie as tie

-- ---- the places

-- the groups that are filled are counted
abbrev Counted : Type 0
Counted = tie.After-groups_in-filled

abbrev start : Counted → tie.Start
start c = c.before.before.before.before.before.before

-- how many entries are asked for
abbrev Asked : Type 0
Asked = tie.After-times_of

asked : (c : Asked) → c.times_of.result ≡ times_needed (start c.before).args.stand.plan
    (((start c.before).args.stand.waiting + length (start c.before).args.piece.now) / group_size (start c.before).args.stand.plan)
asked c = let p = (start c.before).args.stand.plan in c.times_of.ensures ∙ ap (λ (n : ℕ). times_needed p n) c.groups_in-filled.ensures

-- there are as many, and the size of a group is known
abbrev Sized : Type 0
Sized = tie.After-group_words

abbrev from : Sized → tie.Start
from d = start d.before.before.before

enough : (d : Sized) → times_needed (from d).args.stand.plan (((from d).args.stand.waiting + length (from d).args.piece.now) / group_size (from d).args.stand.plan) ≤ length
    (from d).args.times.now
enough d = omega (arith, asked d.before.before, d.if-times-times_of.false)

counts : (d : Sized) → (from d).args.stand.groups * (3 * d.group_words.result) ≡ (from d).args.stand.groups * group_size (from d).args.stand.plan
counts d = ap (λ (n : ℕ). (from d).args.stand.groups * (3 * n)) d.group_words.ensures.0

-- ---- the needs

overflow_add-waiting : tie.Need-overflow_add-waiting
overflow_add-waiting c = search rules

groups_in-filled-requires : tie.Need-groups_in-filled-requires
groups_in-filled-requires c κs = let s = c.before.before.before.before.before in
    (s.requires.work.shape, omega (arith, s.requires.short, s.requires.work.part, group_most s.args.stand.plan s.requires.work.shape))

times_of-requires : tie.Need-times_of-requires
times_of-requires c κs = search rules

refusal-requires : tie.Need-refusal-requires
refusal-requires c κs = search rules

returns-then-times-times_of : tie.Need-returns-then-times-times_of
returns-then-times-times_of c =
    let q = c.before.before in
    let s = start q.before in
    let a = s.args in
    unread_leaves a.state.now a.log.now a.times.now
    (short_entries a.state.now a.stand s.requires.work a.piece.now (length a.log.now) (length a.times.now) s.requires.short (omega (arith, asked q, c.if-times-times_of.true)))
    c.refusal.ensures

group_words-requires : tie.Need-group_words-requires
group_words-requires c κs = search rules

overflow_mul-count : tie.Need-overflow_mul-count
overflow_mul-count c = search rules

overflow_mul-count-2 : tie.Need-overflow_mul-count-2
overflow_mul-count-2 c = let d = c.before in let s = from d in omega (arith, counts d, s.requires.work.count, s.requires.short)

overflow_add-count : tie.Need-overflow_add-count
overflow_add-count c = let d = c.before in let s = from d in omega (arith, counts d, s.requires.work.count, s.requires.short)

overflow_add-count-2 : tie.Need-overflow_add-count-2
overflow_add-count-2 c = let d = c.before in let s = from d in omega (arith, counts d, s.requires.work.count, s.requires.short)

refusal-requires-then-count-piece-gt1099511627776 : tie.Need-refusal-requires-then-count-piece-gt1099511627776
refusal-requires-then-count-piece-gt1099511627776 c κs = search rules

returns-then-count-piece-gt1099511627776 : tie.Need-returns-then-count-piece-gt1099511627776
returns-then-count-piece-gt1099511627776 c =
    let d = c.before.before.before in
    let s = from d in
    let a = s.args in
    unread_leaves a.state.now a.log.now a.times.now
    (crossed a.state.now a.stand s.requires.work a.piece.now (length a.log.now) (length a.times.now) s.requires.short s.requires.roomy (enough d) _
    (ap (λ (n : ℕ). n + a.stand.waiting) (counts d)) c.if-count-piece-gt1099511627776.true)
    c.refusal-then-count-piece-gt1099511627776.ensures

keep-requires : tie.Need-keep-requires
keep-requires c κs =
    let d = c.before.before.before.before in
    let s = from d in
    let a = s.args in
    piece_waits a.state.now a.stand s.requires.work a.piece.now _ d.groups_in-filled.ensures c.if-filled-eq0.true

refusal-requires-then-filled-eq0 : tie.Need-refusal-requires-then-filled-eq0
refusal-requires-then-filled-eq0 c κs = search rules

shape_of-state-then-filled-eq0 : tie.Need-shape_of-state-then-filled-eq0
shape_of-state-then-filled-eq0 c = search rules

returns-then-filled-eq0 : tie.Need-returns-then-filled-eq0
returns-then-filled-eq0 c =
    let d = c.before.before.before.before.before.before.before.before in
    let s = from d in
    let a = s.args in
    let small : a.stand.groups * group_size a.stand.plan + a.stand.waiting + length a.piece.now ≤ most_bytes = omega
    (arith, counts d, c.if-count-piece-gt1099511627776.false) in
    piece_kept a.state.now a.stand s.requires.work a.piece.now a.log.now a.times.now _ _ d.groups_in-filled.ensures
    c.if-filled-eq0.true
    (fed_bytes a.state.now a.stand s.requires.work a.piece.now (length a.log.now) (length a.times.now) s.requires.short s.requires.roomy (enough d) small)
    c.refusal-then-filled-eq0.ensures c.keep.ensures

feed_groups-requires : tie.Need-feed_groups-requires
feed_groups-requires c κs =
    let d = c.before.before.before.before.before.before in
    let s = from d in
    let a = s.args in
    let e = d.groups_in-filled.ensures in
    record {
      fed = s.requires;
      whole = e;
      some = omega (arith, c.if-filled-eq0.false);
      timed = rw e (enough d);
      size = omega (arith, counts d, c.if-count-piece-gt1099511627776.false);
    }

shape_of-state : tie.Need-shape_of-state
shape_of-state c = search rules

shape_of-log : tie.Need-shape_of-log
shape_of-log c = search rules

shape_of-times : tie.Need-shape_of-times
shape_of-times c = search rules

returns : tie.Need-returns
returns c = search rules

pub feed_working_spec : {M : Type 1} → statement M
feed_working_spec =
    tie.close
    (tie.spec
    overflow_add-waiting
    groups_in-filled-requires
    times_of-requires
    refusal-requires
    returns-then-times-times_of
    group_words-requires
    overflow_mul-count
    overflow_mul-count-2
    overflow_add-count
    overflow_add-count-2
    refusal-requires-then-count-piece-gt1099511627776
    returns-then-count-piece-gt1099511627776
    keep-requires
    refusal-requires-then-filled-eq0
    shape_of-state-then-filled-eq0
    returns-then-filled-eq0
    feed_groups-requires
    shape_of-state
    shape_of-log
    shape_of-times
    returns)
