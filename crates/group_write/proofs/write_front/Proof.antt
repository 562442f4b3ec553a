use Prim.Native.Nat.{ℕ, ◌+◌, ◌*◌, ◌-◌, ◌≤◌, ◌<◌}
use native.Mathlib.Omega.{arith}
use mathlib.Core.Path.{◌≡◌, refl}
use mathlib.Core.List.{List, [], ◌∷◌, ◌++◌}
use lib.ListN.{length, take}
use borrow.Author.Rules.{rules}
use borrow.Rule.Slice.PartMut.{put_mid}
use Rattle.format.specs.Word.{sync, sent, fill}
use Rattle.format.specs.Laws.Limits.{most_dealt, most_rows, rows_under}
use Rattle.group_write.specs.Writing.{sent_rows, same_rows, row_word, front}
use Rattle.group_write.proofs.Laws.{length_list}
use Rattle.group_write.proofs.Words.{Written, written_length, written_rest, written_is, rest, rest_room}
use Rattle.group_write.proofs.Frames.{sums_runs}
use Rattle.group_write.proofs.Front.{Parted, parted, words_few, timed_run, data_run, front_runs}
use Rattle.group_write.proofs.write_front.Statement.{statement}
use Rattle.group_write.proofs.write_front.Tie as tie

-- where the rows are counted: the function's entry, its arguments, and the counts
abbrev Counted : Type 0
Counted = tie.After-rows_with-dealt

abbrev entry : Counted → tie.Start
entry c = c.before.before.before.before.before.before

abbrev words : Counted → List ℕ
words c = (entry c).args.words.now

abbrev times : Counted → List ℕ
times c = (entry c).args.times.now

abbrev lead : Counted → ℕ
lead c = c.lead_count-lead.result

abbrev timed : Counted → ℕ
timed c = c.rows_with-timed.result

abbrev dealt : Counted → ℕ
dealt c = c.rows_with-dealt.result

abbrev rows : Counted → ℕ
rows c = c.dealt_rows-rows.result

-- the first word of the data, and how many rows of data and of fill there are
abbrev first : Counted → ℕ
first c = timed c * (entry c).args.plan.tracks + (entry c).args.track - lead c

abbrev data_rows : Counted → ℕ
data_rows c = dealt c - timed c

abbrev fill_rows : Counted → ℕ
fill_rows c = rows c - dealt c

-- the places after the sync word, after the time words, after the data and after the fill
abbrev Synced : Type 0
Synced = tie.After-put_sync-sum

abbrev at_sync : Synced → Counted
at_sync c = c.before.before

abbrev Timed : Type 0
Timed = tie.After-put_rows-sum

abbrev synced : Timed → Synced
synced c = c.before.before.before.before.before

abbrev at_timed : Timed → Counted
at_timed c = at_sync (synced c)

abbrev Dealt : Type 0
Dealt = tie.After-put_rows-sum-2

abbrev timed_of : Dealt → Timed
timed_of c = c.before.before.before.before.before

abbrev at_dealt : Dealt → Counted
at_dealt c = at_timed (timed_of c)

abbrev Filled : Type 0
Filled = tie.After-put_fill

abbrev dealt_of : Filled → Dealt
dealt_of c = c.before.before.before.before

abbrev at_filled : Filled → Counted
at_filled c = at_dealt (dealt_of c)

parts : (c : Counted) → Parted (entry c).args.plan.tracks (entry c).args.track (length (words c)) (lead c) (timed c) (dealt c) (rows c)
parts c =
    let s = entry c in
    parted s.args.plan s.args.track s.requires.0 s.requires.5 (length (words c)) (lead c) (timed c) (dealt c) (rows c) s.requires.4
    c.lead_count-lead.ensures.0 c.rows_with-timed.ensures c.rows_with-dealt.ensures c.dealt_rows-rows.ensures

room : (c : Counted) → (3 * (1 + rows c) ≤ length (entry c).args.out.now) × (rows c ≤ most_rows) × (timed c ≤ dealt c) × (dealt c ≤ rows c)
room c = (
  omega (arith, (entry c).requires.1, rows_under (entry c).args.plan (entry c).requires.0, c.dealt_rows-rows.ensures),
  omega (arith, (parts c).short),
  omega (arith, (parts c).order),
  omega (arith, (parts c).order),
)

few : (s : tie.Start) → length s.args.words.now ≤ most_dealt
few s = words_few s.args.plan (length s.args.words.now) s.requires.0 s.requires.4

-- the first word of the data can be computed
first_low : (c : Counted) → (timed c * (entry c).args.plan.tracks + (entry c).args.track < 100) × (lead c ≤ timed c * (entry c).args.plan.tracks + (entry c).args.track)
first_low c = (omega (arith, (parts c).timed, (parts c).few, (entry c).requires.0.tracks_most), omega (arith, (parts c).timed))

-- the words of each run
abbrev times_put : Counted → List ℕ
times_put c = sent_rows (entry c).args.plan (times c) (entry c).args.track (timed c)

abbrev data_put : Counted → List ℕ
data_put c = sent_rows (entry c).args.plan (words c) (first c) (data_rows c)

abbrev fill_put : Counted → List ℕ
fill_put c = same_rows (sent (entry c).args.plan.parity (fill (entry c).args.plan.fill_bus)) (fill_rows c)

-- the bytes after the sync word, and after each run
begun : (c : Synced) → Written (sync ∷ []) 1 (entry (at_sync c)).args.out.now c.put_sync-sum.new.out
begun c = record { is = c.put_sync-sum.ensures.1; count = refl; fits = omega (arith, room (at_sync c)) }

abbrev timed_out : Timed → List ℕ
timed_out c = let o = (synced c).put_sync-sum.new.out in
    put_mid 3 (length o - 3) o c.put_rows-sum.new.out

timed_written : (c : Timed) → Written ((sync ∷ []) ++ times_put (at_timed c)) (1 + timed (at_timed c)) (entry (at_timed c)).args.out.now (timed_out c)
timed_written c =
    let k = at_timed c in
    let a = (entry k).args in
    written_rest 3 (times_put k) (begun (synced c)) refl (length_list (row_word a.plan (times k) a.track) 0 (timed k)) (omega (arith, room k)) refl c.put_rows-sum.ensures.1

abbrev data_out : Dealt → List ℕ
data_out c = let o = timed_out (timed_of c) in
    let at = 3 * (1 + timed (at_dealt c)) in
    put_mid at (length o - at) o c.put_rows-sum-2.new.out

data_written : (c : Dealt)
    → Written (((sync ∷ []) ++ times_put (at_dealt c)) ++ data_put (at_dealt c)) (1 + dealt (at_dealt c)) (entry (at_dealt c)).args.out.now (data_out c)
data_written c =
    let k = at_dealt c in
    written_rest (3 * (1 + timed k)) (data_put k) (timed_written (timed_of c)) refl (length_list (row_word (entry k).args.plan (words k) (first k)) 0 (data_rows k))
    (omega (arith, room k)) (omega (arith, room k)) c.put_rows-sum-2.ensures.1

abbrev fill_out : Filled → List ℕ
fill_out c = let o = data_out (dealt_of c) in
    let at = 3 * (1 + dealt (at_filled c)) in
    put_mid at (length o - at) o c.put_fill.new.out

abbrev all_put : Counted → List ℕ
all_put c = (((sync ∷ []) ++ times_put c) ++ data_put c) ++ fill_put c

filled : (c : Filled) → Written (all_put (at_filled c)) (1 + rows (at_filled c)) (entry (at_filled c)).args.out.now (fill_out c)
filled c =
    let k = at_filled c in
    written_rest (3 * (1 + dealt k)) (fill_put k) (data_written (dealt_of c)) refl (length_list (λ r. sent (entry k).args.plan.parity (fill (entry k).args.plan.fill_bus)) 0 (fill_rows k))
    (omega (arith, room k)) (omega (arith, room k)) c.put_fill.ensures.1

-- these are the words of the frame
all_is : (c : Counted) → all_put c ≡ front (entry c).args.plan (take (lead c) (times c) ++ words c) (entry c).args.track (rows c)
all_is c =
    let a = (entry c).args in
    front_runs a.plan a.track (lead c) (timed c) (dealt c) (rows c) (times c) (words c) (parts c) (entry c).requires.2.1 (data_rows c) (fill_rows c)
    (omega (arith, room c)) (omega (arith, room c))

dealt_rows-rows-requires : tie.Need-dealt_rows-rows-requires
dealt_rows-rows-requires c κs = search rules

lead_count-lead-requires : tie.Need-lead_count-lead-requires
lead_count-lead-requires c κs = search rules

rows_with-timed-requires : tie.Need-rows_with-timed-requires
rows_with-timed-requires c κs = (c.requires.0, c.requires.5, omega (arith, c.lead_count-lead.ensures.1))

overflow_add-lead : tie.Need-overflow_add-lead
overflow_add-lead c = omega (arith, c.lead_count-lead.ensures.1, few c.before.before.before.before.before)

rows_with-dealt-requires : tie.Need-rows_with-dealt-requires
rows_with-dealt-requires c κs = let s = c.before.before.before.before.before in
    (s.requires.0, s.requires.5, omega (arith, c.lead_count-lead.ensures.1, few s))

put_sync-sum-requires : tie.Need-put_sync-sum-requires
put_sync-sum-requires c κs = omega (arith, room c.before)

slice_bounds-put_rows-count : tie.Need-slice_bounds-put_rows-count
slice_bounds-put_rows-count c = omega (arith, room (at_sync c.before.before), written_length (begun c.before.before))

slice_bounds-put_rows-start : tie.Need-slice_bounds-put_rows-start
slice_bounds-put_rows-start c = omega (arith, room (at_sync c.before.before), written_length (begun c.before.before))

slice_bounds-put_rows-end : tie.Need-slice_bounds-put_rows-end
slice_bounds-put_rows-end c = search rules

put_rows-sum-requires : tie.Need-put_rows-sum-requires
put_rows-sum-requires c κs = let y = c.before.before.before.before in
    let k = at_sync y in
    let s = entry k in
    let o = y.put_sync-sum.new.out in
    let r = rest_room 3 (3 * timed k) o (omega (arith, room k, written_length (begun y))) in
    let run = timed_run s.args.plan s.args.track (lead k) (timed k) (dealt k) (rows k) (times k) (words k) (parts k) (rest 3 o) s.requires.2.0 s.requires.2.1 r in
    (s.requires.0, run, y.put_sync-sum.ensures.0.small)

overflow_mul-first : tie.Need-overflow_mul-first
overflow_mul-first c = omega (arith, first_low (at_timed c.before.before.before))

overflow_add-first : tie.Need-overflow_add-first
overflow_add-first c = omega (arith, first_low (at_timed c.before.before.before))

overflow_sub-first : tie.Need-overflow_sub-first
overflow_sub-first c = omega (arith, first_low (at_timed c.before.before.before))

overflow_add-at : tie.Need-overflow_add-at
overflow_add-at c = omega (arith, room (at_timed c.before.before.before))

overflow_mul-at : tie.Need-overflow_mul-at
overflow_mul-at c = omega (arith, room (at_timed c.before.before.before))

slice_bounds-put_rows-count-2 : tie.Need-slice_bounds-put_rows-count-2
slice_bounds-put_rows-count-2 c = omega (arith, room (at_timed c.before.before.before), written_length (timed_written c.before.before.before))

slice_bounds-put_rows-start-2 : tie.Need-slice_bounds-put_rows-start-2
slice_bounds-put_rows-start-2 c = omega (arith, room (at_timed c.before.before.before), written_length (timed_written c.before.before.before))

slice_bounds-put_rows-end-3 : tie.Need-slice_bounds-put_rows-end-3
slice_bounds-put_rows-end-3 c = search rules

overflow_sub-dealt : tie.Need-overflow_sub-dealt
overflow_sub-dealt c = omega (arith, room (at_timed c.before.before.before.before))

put_rows-sum-requires-2 : tie.Need-put_rows-sum-requires-2
put_rows-sum-requires-2 c κs = let y = c.before.before.before.before in
    let k = at_timed y in
    let s = entry k in
    let o = timed_out y in
    let at = 3 * (1 + timed k) in
    let r = rest_room at (3 * data_rows k) o (omega (arith, room k, written_length (timed_written y))) in
    let e : timed k + data_rows k ≡ dealt k = omega (arith, room k) in
    let run = data_run s.args.plan s.args.track (lead k) (timed k) (dealt k) (rows k) (times k) (words k) (parts k) (data_rows k) (rest at o) e s.requires.3 r in
    (s.requires.0, run, y.put_rows-sum.ensures.0.small)

overflow_add-end : tie.Need-overflow_add-end
overflow_add-end c = omega (arith, room (at_dealt c.before.before))

overflow_mul-end : tie.Need-overflow_mul-end
overflow_mul-end c = omega (arith, room (at_dealt c.before.before))

slice_bounds-put_fill-count : tie.Need-slice_bounds-put_fill-count
slice_bounds-put_fill-count c = omega (arith, room (at_dealt c.before.before), written_length (data_written c.before.before))

slice_bounds-put_fill-start : tie.Need-slice_bounds-put_fill-start
slice_bounds-put_fill-start c = omega (arith, room (at_dealt c.before.before), written_length (data_written c.before.before))

slice_bounds-put_fill-end : tie.Need-slice_bounds-put_fill-end
slice_bounds-put_fill-end c = search rules

overflow_sub-rows : tie.Need-overflow_sub-rows
overflow_sub-rows c = omega (arith, room (at_dealt c.before.before.before))

put_fill-requires : tie.Need-put_fill-requires
put_fill-requires c κs = let y = c.before.before.before in
    let k = at_dealt y in
    let r = rest_room (3 * (1 + dealt k)) (3 * fill_rows k) (data_out y) (omega (arith, room k, written_length (data_written y))) in
    ((entry k).requires.0, r, omega (arith, room k), y.put_rows-sum-2.ensures.0.small)

shape_of-out : tie.Need-shape_of-out
shape_of-out c = written_length (filled c.before.before)

returns : tie.Need-returns
returns c = let f = c.before.before in
    let k = at_filled f in
    let d = dealt_of f in
    let t = timed_of d in
    rw (← k.lead_count-lead.ensures.0, ← k.dealt_rows-rows.ensures) (
      λ e. sums_runs e (synced t).put_sync-sum.ensures.0 t.put_rows-sum.ensures.0 d.put_rows-sum-2.ensures.0 f.put_fill.ensures.0 (all_is k),
      written_is (filled f) (all_is k) refl,
    )

pub write_front_spec : {M : Type 1} → statement M
write_front_spec =
    tie.close
    (tie.spec
    dealt_rows-rows-requires
    lead_count-lead-requires
    rows_with-timed-requires
    overflow_add-lead
    rows_with-dealt-requires
    put_sync-sum-requires
    slice_bounds-put_rows-count
    slice_bounds-put_rows-start
    slice_bounds-put_rows-end
    put_rows-sum-requires
    overflow_mul-first
    overflow_add-first
    overflow_sub-first
    overflow_add-at
    overflow_mul-at
    slice_bounds-put_rows-count-2
    slice_bounds-put_rows-start-2
    slice_bounds-put_rows-end-3
    overflow_sub-dealt
    put_rows-sum-requires-2
    overflow_add-end
    overflow_mul-end
    slice_bounds-put_fill-count
    slice_bounds-put_fill-start
    slice_bounds-put_fill-end
    overflow_sub-rows
    put_fill-requires
    shape_of-out
    returns)
