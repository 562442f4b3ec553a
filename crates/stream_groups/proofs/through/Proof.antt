use native.Mathlib.Omega.{arith}
use mathlib.Core.Path.{◌≡◌, refl, ap, sym, ◌∙◌}
use mathlib.Core.List.{List, ◌++◌}
use Prim.Native.Nat.{ℕ, ◌+◌, ◌*◌, ◌-◌, ◌≤◌}
use lib.ListN.{length, take, drop}
use Rattle.format.specs.Laws.Limits.{group_most}
use Rattle.stream_rules.specs.Stream.{Flow, feed_bytes, group_size, working}
use Rattle.stream_state.specs.AtWork.{work_in}
use Rattle.stream_piece.specs.Along.{Goes, work_of}
use Rattle.stream_groups.specs.Feeding.{Filled, start_of}
use Rattle.stream_groups.proofs.Groups.{first_group, first_long, first_ready, first_small, first_takes, front_in, next_count, next_ready, next_takes, one_is, others_in, through_goes}
use borrow.Author.Rules.{rules}
use Rattle.stream_groups.proofs.through.Statement.{statement}
use Rattle.stream_groups.proofs.through.Tie as tie

-- ---- the places

-- the first group is complete
abbrev Whole : Type 0
Whole = tie.After-complete

abbrev start : Whole → tie.Start
start k = k.before.before.before.before.before.before.before.before.before.before.before.before

abbrev filled : (s : tie.Start) → Filled s.args.state.now s.args.stand s.args.table.now s.args.piece.now (length s.args.log.now) (length s.args.times.now)
    s.args.filled
filled s = s.requires.0

abbrev size : Whole → ℕ
size k = 3 * k.group_words-size.result

abbrev front : Whole → ℕ
front k = size k - (start k).args.stand.waiting

sized : (k : Whole) → size k ≡ group_size (start k).args.stand.plan
sized k = ap (λ (n : ℕ). 3 * n) k.group_words-size.ensures.0

fronted : (k : Whole) → front k + (start k).args.stand.waiting ≡ group_size (start k).args.stand.plan
fronted k = omega (arith, sized k, (filled (start k)).fed.work.part)

in_piece : (k : Whole) → front k ≤ length (start k).args.piece.now
in_piece k = let s = start k in let a = s.args in front_in a.state.now a.stand a.table.now a.piece.now _ _ a.filled (filled s) a.kinds s.requires.1 (front k) (fronted k)

in_state : (k : Whole) → 1024 + size k ≤ length (start k).args.state.now
in_state k = let w = (filled (start k)).fed.work in omega (arith, w.long, sized k, group_most (start k).args.stand.plan w.shape)

-- its bytes
abbrev group : Whole → List ℕ
group k = take (1024 + size k - 1024) (drop 1024 k.complete.new.state)

group_is : (k : Whole) → group k ≡ take (start k).args.stand.waiting (drop 1024 (start k).args.state.now) ++ take (front k) (start k).args.piece.now
group_is k =
    let a = (start k).args in
    first_group a.state.now a.piece.now k.complete.new.state a.stand.waiting (front k) (size k) (fronted k ∙ sym (sized k)) (in_state k) (in_piece k) k.complete.ensures

abbrev flow : Whole → Flow
flow k = let a = (start k).args in feed_bytes (working (work_of a.stand.plan a.kinds (start_of a.stand) a.table.now)) (group k)

flows : (k : Whole) → flow k ≡ feed_bytes (working (work_in (start k).args.state.now (start k).args.stand)) (take (front k) (start k).args.piece.now)
flows k =
    let s = start k in
    let a = s.args in
    one_is a.state.now a.stand a.table.now a.piece.now _ _ a.filled (filled s) a.kinds s.requires.1 (front k) (fronted k) (group k) (group_is k)

-- and taken
abbrev First : Type 0
First = tie.After-on_group-first

abbrev whole : First → Whole
whole o = o.before.before.before.before.before.before.before.before.before.before.before

goes : (o : First) → Goes (start (whole o)).args.stand.plan (start (whole o)).args.kinds (flow (whole o)) (start_of (start (whole o)).args.stand) o.on_group-first.result
    o.on_group-first.new.table (start (whole o)).args.log.now o.on_group-first.new.log (start (whole o)).args.times.now
    o.on_group-first.new.times
goes o = rw o.start_along-start.ensures at o.on_group-first.ensures

-- and the others
abbrev Others : Type 0
Others = tie.After-on_piece

abbrev first : Others → First
first e = e.before.before.before.before.before.before.before.before.before.before.before.before.before.before.before.before

-- ---- the needs

group_words-size-requires : tie.Need-group_words-size-requires
group_words-size-requires c κs = search rules

overflow_mul-size : tie.Need-overflow_mul-size
overflow_mul-size c = search rules

overflow_sub-front : tie.Need-overflow_sub-front
overflow_sub-front c = search rules

complete-requires : tie.Need-complete-requires
complete-requires c κs =
    let s = c.before.before.before.before.before.before.before.before.before.before.before in
    let w = (filled s).fed.work in
    let z : 3 * c.group_words-size.result ≡ group_size s.args.stand.plan = ap (λ (n : ℕ). 3 * n) c.group_words-size.ensures.0 in
    let f : 3 * c.group_words-size.result - s.args.stand.waiting + s.args.stand.waiting ≡ group_size s.args.stand.plan = omega (arith, z, w.part) in (
      w.long,
      omega (arith, f, group_most s.args.stand.plan w.shape),
      front_in s.args.state.now s.args.stand s.args.table.now s.args.piece.now _ _ s.args.filled (filled s) s.args.kinds s.requires.1 _ f,
    )

slots-count-requires : tie.Need-slots-count-requires
slots-count-requires c κs = search rules

start_along-start-requires : tie.Need-start_along-start-requires
start_along-start-requires c κs = search rules

overflow_add-end : tie.Need-overflow_add-end
overflow_add-end c = search rules

slice_bounds-on_group-count : tie.Need-slice_bounds-on_group-count
slice_bounds-on_group-count c = search rules

slice_bounds-on_group-start : tie.Need-slice_bounds-on_group-start
slice_bounds-on_group-start c = search rules

slice_bounds-on_group-end : tie.Need-slice_bounds-on_group-end
slice_bounds-on_group-end c = omega (arith, in_state c.before.before.before.before, c.state-1.given)

on_group-first-requires : tie.Need-on_group-first-requires
on_group-first-requires c κs =
    let k = c.before.before.before.before.before.before.before.before.before.before in
    let s = start k in
    let a = s.args in
    let r = s.requires.2 in
    let t = c.start_along-start.ensures in
    rw t (
      (
        first_ready a.state.now a.stand a.table.now a.piece.now _ _ a.filled (filled s) a.kinds s.requires.1 (front k) (fronted k),
        refl,
        record { slots_are = c.slots-count.ensures.0; dealt = r.dealt; built = r.built },
        first_long a.state.now a.piece.now (group k) a.stand.waiting (front k) (size k) (fronted k ∙ sym (sized k)) (in_state k) (in_piece k) (group_is k) ∙ sized k,
        first_small a.state.now a.stand a.table.now a.piece.now _ _ a.filled (filled s) a.kinds s.requires.1 (front k) (fronted k),
      ),
      first_takes a.state.now a.stand a.table.now a.piece.now _ _ a.filled (filled s) a.kinds s.requires.1 (front k) (fronted k) (flow k) (flows k) a.log.now
          a.times.now refl refl,
    )

overflow_sub-filled : tie.Need-overflow_sub-filled
overflow_sub-filled c = (filled (start (whole c.before.before.before.before.before.before.before.before.before.before))).some

on_piece-requires : tie.Need-on_piece-requires
on_piece-requires c κs =
    let o = c.before.before.before.before.before.before.before.before.before.before.before.before.before.before.before in
    let k = whole o in
    let s = start k in
    let a = s.args in
    let r = s.requires.2 in
    let b : List ℕ = a.state.now in
    let F = filled s in (
      (
        F.fed.work.shape,
        next_ready b a.stand a.table.now a.piece.now _ _ a.filled F a.kinds s.requires.1 (front k) (fronted k) (flow k) (flows k) a.log.now a.times.now refl refl (goes o),
        record {
          slots_are = o.slots-count.ensures.0;
          dealt = omega
              (arith, r.dealt, c.row-1.given);
          built = omega
              (arith, r.built, c.out-1.given);
        },
        others_in b a.stand a.table.now a.piece.now _ _ a.filled F a.kinds s.requires.1 (front k) (fronted k),
        F.fed.short,
      ),
      (
        next_count b a.stand a.table.now a.piece.now _ _ a.filled F a.kinds s.requires.1 (front k) (fronted k) (flow k) (flows k) a.log.now a.times.now refl refl (goes o),
        next_takes b a.stand a.table.now a.piece.now _ _ a.filled F a.kinds s.requires.1 (front k) (fronted k) (flow k) (flows k) a.log.now a.times.now refl refl (goes o)
            c.log-1.given c.times-1.given,
      ),
    )

shape_of-state : tie.Need-shape_of-state
shape_of-state c = let e = c.before.before.before.before.before.before.before.before.before.before in (first
    e).state-1.given

shape_of-table : tie.Need-shape_of-table
shape_of-table c = let t = c.before.before.before.before.before.before.before.before.before in t.table-2-1.given
    ∙ t.table-1.given

shape_of-row : tie.Need-shape_of-row
shape_of-row c = let t = c.before.before.before.before.before.before.before in t.row-2-1.given ∙ t.row-1.given

shape_of-out : tie.Need-shape_of-out
shape_of-out c = let t = c.before.before.before.before.before in t.out-2-1.given ∙ t.out-1.given

shape_of-log : tie.Need-shape_of-log
shape_of-log c = let t = c.before.before.before in t.log-2-1.given ∙ t.log-1.given

shape_of-times : tie.Need-shape_of-times
shape_of-times c = let t = c.before in t.times-2-1.given ∙ t.times-1.given

returns : tie.Need-returns
returns c =
    let o = first c.before.before.before.before.before.before.before.before.before.before in
    let k = whole o in
    let s = start k in
    let a = s.args in
    through_goes a.state.now a.stand a.table.now a.piece.now _ _ a.filled (filled s) a.kinds s.requires.1 (front k) (fronted k) (flow k) (flows k) a.log.now
    a.times.now refl refl (goes o) c.on_piece.ensures

pub through_spec : {M : Type 1} → statement M
through_spec =
    tie.close
    (tie.spec
    group_words-size-requires
    overflow_mul-size
    overflow_sub-front
    complete-requires
    slots-count-requires
    start_along-start-requires
    overflow_add-end
    slice_bounds-on_group-count
    slice_bounds-on_group-start
    slice_bounds-on_group-end
    on_group-first-requires
    overflow_sub-filled
    on_piece-requires
    shape_of-state
    shape_of-table
    shape_of-row
    shape_of-out
    shape_of-log
    shape_of-times
    returns)
