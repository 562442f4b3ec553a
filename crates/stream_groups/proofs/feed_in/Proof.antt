use native.Mathlib.Omega.{arith}
use mathlib.Core.Path.{◌≡◌, refl, ap, ◌∙◌}
use Prim.Native.Nat.{ℕ, ◌+◌, ◌*◌, ◌-◌, ◌≤◌}
use lib.ListN.{length, take, drop}
use Rattle.format.specs.Laws.Limits.{group_most}
use Rattle.stream_rules.specs.Stream.{group_size}
use Rattle.stream_state.specs.Parts.{kinds_at}
use Rattle.stream_piece.specs.Along.{Goes}
use Rattle.stream_groups.specs.Feeding.{Filled, start_of}
use Rattle.stream_groups.proofs.Groups.{ends_given, filled_in, one_filled, stores, tail_is, total}
use borrow.Author.Rules.{rules}
use Rattle.stream_groups.proofs.feed_in.Statement.{statement}
use Rattle.stream_groups.proofs.feed_in.Tie as tie

-- ---- the places

abbrev filled : (s : tie.Start) → Filled s.args.state.now s.args.stand s.args.table.now s.args.piece.now (length s.args.log.now) (length s.args.times.now)
    s.args.filled
filled s = s.requires.0

-- the groups are sized
abbrev Sized : Type 0
Sized = tie.After-group_words

abbrev start : Sized → tie.Start
start c = c.before.before.before.before.before.before.before.before.before

ends_are : (c : Sized) → (start c).args.filled * (3 * c.group_words.result) ≡ (start c).args.filled * group_size (start c).args.stand.plan
ends_are c = ap (λ (n : ℕ). (start c).args.filled * (3 * n)) c.group_words.ensures.0

in_piece : (c : Sized) → (start c).args.filled * (3 * c.group_words.result) ≤ (start c).args.stand.waiting + length (start c).args.piece.now
in_piece c = let s = start c in let a = s.args in omega (arith, ends_are c, filled_in a.state.now a.stand a.table.now a.piece.now _ _ a.filled (filled s))

-- the groups are taken
abbrev Through : Type 0
Through = tie.After-through-along

abbrev sized : Through → Sized
sized t = t.before.before.before.before.before.before.before.before.before

goes : (t : Through) → Goes (start (sized t)).args.stand.plan (kinds_at (start (sized t)).args.state.now)
    (total (start (sized t)).args.state.now (start (sized t)).args.stand (start (sized t)).args.table.now (start (sized t)).args.piece.now (length (start (sized t)).args.log.now)
    (length (start (sized t)).args.times.now) (start (sized t)).args.filled (filled (start (sized t)))) (start_of (start (sized t)).args.stand) t.through-along.result
    t.through-along.new.table (start (sized t)).args.log.now t.through-along.new.log (start (sized t)).args.times.now
    t.through-along.new.times
goes t = rw t.kinds_at-kinds.ensures at t.through-along.ensures

tail : (t : Through) → take (length (start (sized t)).args.piece.now - ((start (sized t)).args.filled * (3 * (sized t).group_words.result) - (start (sized t)).args.stand.waiting))
    (drop ((start (sized t)).args.filled * (3 * (sized t).group_words.result) - (start (sized t)).args.stand.waiting) (start (sized t)).args.piece.now)
    ≡ drop ((start (sized t)).args.filled * group_size (start (sized t)).args.stand.plan - (start (sized t)).args.stand.waiting) (start (sized t)).args.piece.now
tail t = let a = (start (sized t)).args in tail_is a.piece.now _ _ (ap (λ (n : ℕ). n - a.stand.waiting) (ends_are (sized t)))

-- ---- the needs

group_words-requires : tie.Need-group_words-requires
group_words-requires c κs = search rules

overflow_mul-begin : tie.Need-overflow_mul-begin
overflow_mul-begin c = search rules

overflow_mul-begin-2 : tie.Need-overflow_mul-begin-2
overflow_mul-begin-2 c = let s = start c in omega (arith, in_piece c, (filled s).fed.short, (filled s).fed.work.part, group_most s.args.stand.plan (filled s).fed.work.shape)

overflow_sub-begin : tie.Need-overflow_sub-begin
overflow_sub-begin c =
    let d = c.before in
    let s = start d in
    let a = s.args in
    omega (arith, ends_are d, (filled s).fed.work.part, one_filled a.state.now a.stand a.table.now a.piece.now _ _ a.filled (filled s))

kinds_at-kinds-requires : tie.Need-kinds_at-kinds-requires
kinds_at-kinds-requires c κs = search rules

through-along-requires : tie.Need-through-along-requires
through-along-requires c κs = search rules

slice_bounds-end_feed-count : tie.Need-slice_bounds-end_feed-count
slice_bounds-end_feed-count c = omega (arith, in_piece (sized c.before.before.before.before.before.before.before.before.before.before.before.before.before))

slice_bounds-end_feed-start : tie.Need-slice_bounds-end_feed-start
slice_bounds-end_feed-start c = omega (arith, in_piece (sized c.before.before.before.before.before.before.before.before.before.before.before.before.before))

slice_bounds-end_feed-end : tie.Need-slice_bounds-end_feed-end
slice_bounds-end_feed-end c = search rules

end_feed-requires : tie.Need-end_feed-requires
end_feed-requires c κs =
    let t = c.before.before.before.before.before.before.before.before.before.before.before.before.before.before in
    let s = start (sized t) in
    let a = s.args in
    let F = filled s in
    rw t.kinds_at-kinds.ensures (
      c.state-1.given ∙ F.fed.work.long,
      (goes t).bits,
      stores a.state.now a.stand a.table.now a.piece.now _ _ a.filled F refl refl (goes t) _ (tail t),
    )

shape_of-state : tie.Need-shape_of-state
shape_of-state c = let t = c.before in t.state-2-1.given ∙ t.state-1.given

shape_of-table : tie.Need-shape_of-table
shape_of-table c = c.table-1.given

shape_of-row : tie.Need-shape_of-row
shape_of-row c = c.row-1.given

shape_of-out : tie.Need-shape_of-out
shape_of-out c = c.out-1.given

shape_of-log : tie.Need-shape_of-log
shape_of-log c = c.log-1.given

shape_of-times : tie.Need-shape_of-times
shape_of-times c = c.times-1.given

returns : tie.Need-returns
returns c =
    let t = c.before.before.before.before.before.before.before.before.before.before.before.before.before.before.before.before.before in
    let s = start (sized t) in
    let a = s.args in
    let e = rw t.kinds_at-kinds.ensures at c.end_feed.ensures.1 in
    ends_given a.state.now a.stand a.table.now a.piece.now _ _ a.filled (filled s) refl refl (goes t) _ (tail t) _ _ c.end_feed.ensures.0 e

pub feed_in_spec : {M : Type 1} → statement M
feed_in_spec =
    tie.close
    (tie.spec
    group_words-requires
    overflow_mul-begin
    overflow_mul-begin-2
    overflow_sub-begin
    kinds_at-kinds-requires
    through-along-requires
    slice_bounds-end_feed-count
    slice_bounds-end_feed-start
    slice_bounds-end_feed-end
    end_feed-requires
    shape_of-state
    shape_of-table
    shape_of-row
    shape_of-out
    shape_of-log
    shape_of-times
    returns)
