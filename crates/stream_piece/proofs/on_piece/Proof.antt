use borrow.Author.Rules.{rules}
use native.Mathlib.Omega.{arith}
use mathlib.Core.Path.{◌≡◌, refl, ap, sym, subst, ◌∙◌}
use mathlib.Core.List.{List}
use Prim.Native.Nat.{ℕ, ◌+◌, ◌*◌, ◌-◌, ◌≤◌, ◌<◌}
use native.Mathlib.Nat.{mul-le-mul_right}
use lib.ListN.{length, drop, length-drop}
use Rattle.format.specs.declared.Kind.{Kind}
use Rattle.format.specs.declared.Plan.{Plan}
use Rattle.stream_rules.specs.Stream.{Flow, group_size}
use Rattle.stream_piece.specs.Along.{Goes, reached}
use Rattle.stream_piece.specs.declared.Along.{Along}
use Rattle.stream_piece.proofs.Piece.{goes_none, part_is, part_long, turn_goes, turn_ready, turn_small, turn_stops, turn_takes, up_none, up_to}
use Rattle.stream_piece.proofs.on_piece.Statement.{statement}
use Rattle.stream_piece.proofs.on_piece.Tie as tie
use Rattle.stream_piece.proofs.on_piece.Reads as reads
use Rattle.stream_piece.proofs.on_piece.Lts as lts
use Rattle.plan.proofs.group_words.Reads as group-words-reads
use Rattle.stream_piece.proofs.on_group.Reads as on-group-reads

-- so many groups are behind us
record Turn (kinds : List Kind) (plan : Plan) (piece : List ℕ) (first groups : ℕ) (table₀ row₀ out₀ log₀ times₀ : List ℕ) (along₀ : Along) (table row out log times : List ℕ) (along : Along)
    (index : ℕ) : Type 0 where
  few : index ≤ groups
  goes : Goes plan kinds (up_to (reached plan kinds along₀ table₀) (drop first piece) (group_size plan) index) along₀ along table log₀ log times₀ times
  same_table : length table ≡ length table₀
  same_row : length row ≡ length row₀
  same_out : length out ≡ length out₀
  same_log : length log ≡ length log₀
  same_times : length times ≡ length times₀

abbrev invariant-loop-index : tie.invariant-loop-index
invariant-loop-index kinds plan count piece first groups table₀ row₀ out₀ log₀ times₀ size along₀ index₀ table row out log times along index =
    Turn kinds plan piece first groups table₀ row₀ out₀ log₀ times₀ along₀ table row out log times along index

abbrev decreases-loop-index : tie.decreases-loop-index
decreases-loop-index kinds plan count piece first groups table₀ row₀ out₀ log₀ times₀ size along₀ index₀ table row out log times along index =
    groups - index

-- ---- the places

-- a group is to be taken
abbrev Here : Type 0
Here = tie.Else-along-ne0 invariant-loop-index decreases-loop-index

abbrev Start : Type 0
Start = tie.Start invariant-loop-index decreases-loop-index

abbrev start : Here → Start
start c = c.before.before.before.before.before.before.before.before.before.before.before

abbrev index : Here → ℕ
index c = c.loop-index.index

abbrev at : Here → tie.At-loop-index invariant-loop-index decreases-loop-index
at c = c.before.before.before

more : (c : Here) → index c < (start c).args.groups
more c = c.loop-index-test.true

sized : (c : Here) → 3 * c.group_words-size.result ≡ group_size (start c).args.plan
sized c = ap (λ (n : ℕ). 3 * n) c.group_words-size.ensures.0

-- the groups behind `first` are in the piece
all_in : (s : Start) → s.args.groups * group_size s.args.plan ≤ length (drop s.args.first s.args.piece.now)
all_in s = rw (length-drop s.args.first s.args.piece.now) (omega (arith, s.requires.0.3))

-- so is this one
in_piece : (c : Here) → (start c).args.first + index c * (3 * c.group_words-size.result) + 3 * c.group_words-size.result ≤ length
    (start c).args.piece.now
in_piece c =
    let s = start c in
    let k : index c + 1 ≤ s.args.groups = omega (arith, more c) in
    rw (sized c) (omega (arith, s.requires.0.3, mul-le-mul_right (group_size s.args.plan) k))

-- ---- the needs

group_words-size-requires : tie.Need-group_words-size-requires invariant-loop-index decreases-loop-index
group_words-size-requires c κs = c.requires.0.0

overflow_mul-size : tie.Need-overflow_mul-size invariant-loop-index decreases-loop-index
overflow_mul-size c = omega (arith, c.group_words-size.ensures.1)

loop-index-init : tie.Need-loop-index-init invariant-loop-index decreases-loop-index
loop-index-init c =
    let s = c.before.before.before.before.before.before.before in
    let a = s.args in
    record {
      few = omega arith;
      goes = subst (λ (f : Flow). Goes a.plan a.kinds f a.start a.start a.table.now a.log.now a.log.now a.times.now a.times.now)
          (sym (up_none (reached a.plan a.kinds a.start a.table.now) (drop a.first a.piece.now) (group_size a.plan)))
          (goes_none a.plan a.kinds a.start a.table.now a.log.now a.times.now s.requires.0.1.sane s.requires.0.1.bits);
      same_table = refl;
      same_row = refl;
      same_out = refl;
      same_log = refl;
      same_times = refl;
    }

shape_of-table-then-along-ne0 : tie.Need-shape_of-table-then-along-ne0 invariant-loop-index decreases-loop-index
shape_of-table-then-along-ne0 c = c.loop-index.invariant.same_table

shape_of-row-then-along-ne0 : tie.Need-shape_of-row-then-along-ne0 invariant-loop-index decreases-loop-index
shape_of-row-then-along-ne0 c = c.loop-index.invariant.same_row

shape_of-out-then-along-ne0 : tie.Need-shape_of-out-then-along-ne0 invariant-loop-index decreases-loop-index
shape_of-out-then-along-ne0 c = c.loop-index.invariant.same_out

shape_of-log-then-along-ne0 : tie.Need-shape_of-log-then-along-ne0 invariant-loop-index decreases-loop-index
shape_of-log-then-along-ne0 c = c.loop-index.invariant.same_log

shape_of-times-then-along-ne0 : tie.Need-shape_of-times-then-along-ne0 invariant-loop-index decreases-loop-index
shape_of-times-then-along-ne0 c = c.loop-index.invariant.same_times

returns-then-along-ne0 : tie.Need-returns-then-along-ne0 invariant-loop-index decreases-loop-index
returns-then-along-ne0 c =
    let a = c.args in
    let o = c.loop-index in
    turn_stops a.plan a.kinds a.start a.table.now (drop a.first a.piece.now) a.groups o.index o.invariant.goes o.invariant.few c.if-along-ne0.true

overflow_mul-begin : tie.Need-overflow_mul-begin invariant-loop-index decreases-loop-index
overflow_mul-begin c = let s = start c in omega (arith, in_piece c, s.requires.0.4)

overflow_add-begin : tie.Need-overflow_add-begin invariant-loop-index decreases-loop-index
overflow_add-begin c = let s = start c in omega (arith, in_piece c, s.requires.0.4)

overflow_add-end : tie.Need-overflow_add-end invariant-loop-index decreases-loop-index
overflow_add-end c = let s = start c in omega (arith, in_piece c, s.requires.0.4)

slice_bounds-on_group-count : tie.Need-slice_bounds-on_group-count invariant-loop-index decreases-loop-index
slice_bounds-on_group-count c = omega arith

slice_bounds-on_group-start : tie.Need-slice_bounds-on_group-start invariant-loop-index decreases-loop-index
slice_bounds-on_group-start c = omega arith

slice_bounds-on_group-end : tie.Need-slice_bounds-on_group-end invariant-loop-index decreases-loop-index
slice_bounds-on_group-end c = in_piece c

on_group-along-requires : tie.Need-on_group-along-requires invariant-loop-index decreases-loop-index
on_group-along-requires c κs =
    let h = c.before.before.before.before.before.before in
    let s = start h in
    let a = s.args in
    let g = (at h).loop-index.invariant.goes in
    let D : List ℕ = drop a.first a.piece.now in
    let z = h.if-along-ne0.false in
    let v = part_is a.piece.now a.first (index h) (group_size a.plan) (sized h) in
    let r = s.requires.0.2 in (
      (
        turn_ready a.plan a.kinds a.start a.table.now D a.groups (index h) g s.requires.0.1.fit s.requires.1.0 (at h).loop-index.invariant.few (all_in s),
        z,
        record { slots_are = r.slots_are; dealt = omega (arith, r.dealt, (at h).loop-index.invariant.same_row); built = omega (arith, r.built, (at h).loop-index.invariant.same_out) },
        ap (λ (u : List ℕ). length u) v ∙ part_long a.piece.now a.first (index h) a.groups (group_size a.plan) (more h) s.requires.0.3,
        turn_small a.plan a.kinds a.start a.table.now D a.groups (index h) g s.requires.1.0 (more h) (all_in s) z,
      ),
      turn_takes a.plan a.kinds a.start a.table.now D a.groups (index h) g _ v z (more h) s.requires.1.1 (at h).loop-index.invariant.same_log (at h).loop-index.invariant.same_times,
    )

overflow_add-index : tie.Need-overflow_add-index invariant-loop-index decreases-loop-index
overflow_add-index c = let h = c.before.before.before.before.before.before.before.before.before.before.before.before.before.before.before.before.before in let s = start h in omega
    (arith, more h, s.ranges.groups)

loop-index-smaller : tie.Need-loop-index-smaller invariant-loop-index decreases-loop-index
loop-index-smaller c = let h = c.before.before.before.before.before.before.before.before.before.before.before.before.before.before.before.before.before in omega (arith, more h)

loop-index-preserved : tie.Need-loop-index-preserved invariant-loop-index decreases-loop-index
loop-index-preserved c =
    let h = c.before.before.before.before.before.before.before.before.before.before.before.before.before.before.before.before.before in
    let s = start h in
    let a = s.args in
    let t = (at h).loop-index.invariant in
    let v = part_is a.piece.now a.first (index h) (group_size a.plan) (sized h) in
    record {
      few = omega (arith, more h);
      goes = turn_goes a.plan a.kinds a.start a.table.now (drop a.first a.piece.now) a.groups (index h) t.goes _ v h.if-along-ne0.false (more h) s.requires.1.1
          c.on_group-along.ensures;
      same_table = c.table-1.given ∙ t.same_table;
      same_row = c.row-1.given ∙ t.same_row;
      same_out = c.out-1.given ∙ t.same_out;
      same_log = c.log-1.given ∙ t.same_log;
      same_times = c.times-1.given ∙ t.same_times;
    }

shape_of-table : tie.Need-shape_of-table invariant-loop-index decreases-loop-index
shape_of-table c = c.loop-index.invariant.same_table

shape_of-row : tie.Need-shape_of-row invariant-loop-index decreases-loop-index
shape_of-row c = c.loop-index.invariant.same_row

shape_of-out : tie.Need-shape_of-out invariant-loop-index decreases-loop-index
shape_of-out c = c.loop-index.invariant.same_out

shape_of-log : tie.Need-shape_of-log invariant-loop-index decreases-loop-index
shape_of-log c = c.loop-index.invariant.same_log

shape_of-times : tie.Need-shape_of-times invariant-loop-index decreases-loop-index
shape_of-times c = c.loop-index.invariant.same_times

returns : tie.Need-returns invariant-loop-index decreases-loop-index
returns c =
    let a = c.args in
    let o = c.loop-index in
    let e : o.index ≡ a.groups = omega (arith, o.invariant.few, c.loop-index-test.false) in
    rw (← e) o.invariant.goes

pub on_piece_spec : {M : Type 1} → statement M
on_piece_spec =
    tie.close
    (tie.spec
    invariant-loop-index
    decreases-loop-index
    group_words-size-requires
    overflow_mul-size
    loop-index-init
    shape_of-table-then-along-ne0
    shape_of-row-then-along-ne0
    shape_of-out-then-along-ne0
    shape_of-log-then-along-ne0
    shape_of-times-then-along-ne0
    returns-then-along-ne0
    overflow_mul-begin
    overflow_add-begin
    overflow_add-end
    slice_bounds-on_group-count
    slice_bounds-on_group-start
    slice_bounds-on_group-end
    on_group-along-requires
    overflow_add-index
    loop-index-smaller
    loop-index-preserved
    shape_of-table
    shape_of-row
    shape_of-out
    shape_of-log
    shape_of-times
    returns)
