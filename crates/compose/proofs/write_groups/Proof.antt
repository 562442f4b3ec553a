use Rattle.compose.proofs.Groups.{groups_none, groups_more, groups_all, next_turn, part_next, part_room, part_size, part_within, share_starts, share_taken, start_at, written_all}
use Rattle.compose.proofs.Laws.{Written, all_drop, all_take, group_count, written_length, written_none, written_part}
use Rattle.compose.specs.Compose.{groups_to}
use Rattle.format.specs.Plan.{group_words}
use Rattle.format.specs.Compose.{groups_for}
use lib.ListN.{length, length-take, length-drop}
use mathlib.Core.Path.{◌≡◌, ap, ◌∙◌}
use native.Mathlib.Omega.{arith}
use native.Mathlib.Nat.{zero-mul}
use Prim.Native.Nat.{ℕ, ◌+◌, ◌*◌, ◌-◌, ◌≤◌, ◌<◌}
use borrow.Author.Rules.{rules}
use Rattle.compose.proofs.write_groups.Statement.{statement}
use Rattle.compose.proofs.write_groups.Tie as tie

abbrev invariant-loop-group : tie.invariant-loop-group
invariant-loop-group plan words times groups out₀ share size group₀ out group =
    (group ≤ groups) × Written (groups_to plan times words group) (group * group_words plan) out₀ out

abbrev decreases-loop-group : tie.decreases-loop-group
decreases-loop-group plan words times groups out₀ share size group₀ out group = groups - group

-- the loop's place, the function's entry from before the sizes are told, and the sizes
abbrev Loop : Type 0
Loop = tie.At-loop-group invariant-loop-group decreases-loop-group

abbrev Begun : Type 0
Begun = tie.After-slice_known-1 invariant-loop-group decreases-loop-group

abbrev entry : Begun → tie.Start invariant-loop-group decreases-loop-group
entry c = c.before.before.before

abbrev share : Loop → ℕ
share c = c.slots-share.result

abbrev group_size : Loop → ℕ
group_size c = 3 * c.group_words-size.result

-- a turn, and its place where the group's time is known
abbrev Turn : Type 0
Turn = tie.In-loop-group invariant-loop-group decreases-loop-group

abbrev Timed : Type 0
Timed = tie.After-time_of-time invariant-loop-group decreases-loop-group

abbrev turn_of : Timed → Turn
turn_of c = c.before.before

-- in a turn, the next group's part is within the output, and its words begin within the words
room : (c : Turn) → c.loop-group.group * group_size c.before + group_size c.before ≤ length (entry c.before.before.before.before).args.out.now
room c =
    let s = entry c.before.before.before.before in
    part_within c.loop-group.group s.args.groups _ (length s.args.out.now) c.loop-group-test.true (rw c.group_words-size.ensures.0 s.requires.1.1)

begins : (c : Turn) → c.loop-group.group * share c.before < length (entry c.before.before.before.before).args.words.now
unfolding groups_for
begins c =
    let s = entry c.before.before.before.before in
    let k = c.slots-share in
    share_starts k.result (length s.args.words.now) c.loop-group.group (omega (arith, k.ensures.1)) (rw k.ensures.0 (rw s.requires.1.0 at c.loop-group-test.true))

-- and end there
ends : (c : Timed) → let l = (turn_of c).before in
    (c.share_end-to.result ≤ length (entry l.before.before.before).args.words.now) × (l.loop-group.group * share l ≤ c.share_end-to.result)
ends c = (omega (arith, c.share_end-to.ensures), omega (arith, begins (turn_of c), c.share_end-to.ensures))

slots-share-requires : tie.Need-slots-share-requires invariant-loop-group decreases-loop-group
slots-share-requires c κs = search rules

group_words-size-requires : tie.Need-group_words-size-requires invariant-loop-group decreases-loop-group
group_words-size-requires c κs = search rules

overflow_mul-size : tie.Need-overflow_mul-size invariant-loop-group decreases-loop-group
overflow_mul-size c = search rules

loop-group-init : tie.Need-loop-group-init invariant-loop-group decreases-loop-group
loop-group-init c =
    let a = c.args in
    (omega arith, rw (groups_none a.plan a.times.now a.words.now, zero-mul (group_words a.plan)) (written_none a.out.now))

overflow_mul-start : tie.Need-overflow_mul-start invariant-loop-group decreases-loop-group
overflow_mul-start c = omega (arith, room c)

overflow_add-end : tie.Need-overflow_add-end invariant-loop-group decreases-loop-group
overflow_add-end c = omega (arith, room c)

overflow_mul-from : tie.Need-overflow_mul-from invariant-loop-group decreases-loop-group
overflow_mul-from c = omega (arith, begins c)

share_end-to-requires : tie.Need-share_end-to-requires invariant-loop-group decreases-loop-group
share_end-to-requires c κs = (omega (arith, begins c, (entry c.before.before.before.before).requires.0.1), c.slots-share.ensures.2)

time_of-time-requires : tie.Need-time_of-time-requires invariant-loop-group decreases-loop-group
time_of-time-requires c κs = search rules

slice_bounds-write_group-count : tie.Need-slice_bounds-write_group-count invariant-loop-group decreases-loop-group
slice_bounds-write_group-count c = search rules

slice_bounds-write_group-start : tie.Need-slice_bounds-write_group-start invariant-loop-group decreases-loop-group
slice_bounds-write_group-start c = search rules

slice_bounds-write_group-end : tie.Need-slice_bounds-write_group-end invariant-loop-group decreases-loop-group
slice_bounds-write_group-end c = omega (arith, room (turn_of c), written_length (turn_of c).loop-group.invariant.1)

offset_bounds-words-from : tie.Need-offset_bounds-words-from invariant-loop-group decreases-loop-group
offset_bounds-words-from c = omega (arith, begins (turn_of c.before), (entry (turn_of c.before).before.before.before.before).requires.0.1)

slice_bounds-write_group-count-in-loop-group : tie.Need-slice_bounds-write_group-count-in-loop-group invariant-loop-group decreases-loop-group
slice_bounds-write_group-count-in-loop-group c = omega (arith, ends c.before)

slice_bounds-write_group-start-in-loop-group : tie.Need-slice_bounds-write_group-start-in-loop-group invariant-loop-group decreases-loop-group
slice_bounds-write_group-start-in-loop-group c = omega (arith, ends c.before)

slice_bounds-write_group-end-in-loop-group : tie.Need-slice_bounds-write_group-end-in-loop-group invariant-loop-group decreases-loop-group
slice_bounds-write_group-end-in-loop-group c = omega (arith, ends c.before)

write_group-requires : tie.Need-write_group-requires invariant-loop-group decreases-loop-group
write_group-requires c κs =
    let t : Timed = c.before.before in
    let l = (turn_of t).before in
    let q = (entry l.before.before.before).requires in
    let o = l.loop-group in
    let from = o.group * share l in
    let to = t.share_end-to in (
      q.0.0,
      simp (length-take, length-drop) (omega (arith, l.group_words-size.ensures.0, room (turn_of t), written_length o.invariant.1)),
      simp (length-take, length-drop) (omega (arith, l.slots-share.ensures.0, to.ensures)),
      all_take (to.result - from) (all_drop from q.0.2),
      rw t.time_of-time.ensures (q.0.3 o.group),
    )

overflow_add-group : tie.Need-overflow_add-group invariant-loop-group decreases-loop-group
overflow_add-group c = search rules

loop-group-smaller : tie.Need-loop-group-smaller invariant-loop-group decreases-loop-group
loop-group-smaller c = search rules

loop-group-preserved : tie.Need-loop-group-preserved invariant-loop-group decreases-loop-group
loop-group-preserved c =
    let t : Timed = c.before.before.before.before.before in
    let l : Loop = c.before.before.before.before.before.before.before.before in
    let s = entry l.before.before.before in
    let a = s.args in
    let g = l.loop-group.group in
    let n = group_words a.plan in
    let R = l.group_words-size.result in
    let e : R ≡ n = l.group_words-size.ensures.0 in
    let start : g * (3 * R) ≡ 3 * (g * n) = ap (λ (k : ℕ). g * (3 * k)) e ∙ start_at g n in
    let taken = share_taken (share l) (g * share l) t.share_end-to.result a.words.now t.share_end-to.ensures in
    let wrote = rw (t.time_of-time.ensures, taken, l.slots-share.ensures.0) at c.write_group.ensures in (
      next_turn (turn_of t).loop-group-test.true,
      rw (groups_more a.plan a.times.now a.words.now g)
          (written_part (g * (3 * R)) (g * (3 * R) + 3 * R - g * (3 * R)) _ l.loop-group.invariant.1 start (group_count a.plan _ s.requires.0.0) (part_size g R n e)
          (part_room g R _ (room (turn_of t))) (part_next g n) wrote),
    )

shape_of-out : tie.Need-shape_of-out invariant-loop-group decreases-loop-group
shape_of-out c = written_length c.loop-group.invariant.1

returns : tie.Need-returns invariant-loop-group decreases-loop-group
returns c =
    let s = entry c.before.before.before.before in
    let o = c.loop-group in
    let e : o.group ≡ s.args.groups = omega arith in
    written_all _ o.invariant.1 (groups_all s.args.plan s.args.times.now s.args.words.now o.group (e ∙ s.requires.1.0))

pub write_groups_spec : {M : Type 1} → statement M
write_groups_spec =
    tie.close
    (tie.spec
    invariant-loop-group
    decreases-loop-group
    slots-share-requires
    group_words-size-requires
    overflow_mul-size
    loop-group-init
    overflow_mul-start
    overflow_add-end
    overflow_mul-from
    share_end-to-requires
    time_of-time-requires
    slice_bounds-write_group-count
    slice_bounds-write_group-start
    slice_bounds-write_group-end
    offset_bounds-words-from
    slice_bounds-write_group-count-in-loop-group
    slice_bounds-write_group-start-in-loop-group
    slice_bounds-write_group-end-in-loop-group
    write_group-requires
    overflow_add-group
    loop-group-smaller
    loop-group-preserved
    shape_of-out
    returns)
