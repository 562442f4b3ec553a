use Prim.Native.Nat.{ℕ, ◌+◌, ◌*◌, ◌-◌, ◌≤◌, ◌<◌}
use native.Mathlib.Omega.{arith}
use borrow.Author.Rules.{rules}
use mathlib.Core.Path.{◌≡◌, refl, sym, ap, ◌∙◌}
use mathlib.Core.List.{List}
use mathlib.Core.Logic.{⊎_elim}
use lib.ListN.{length, set, length-set}
use Rattle.format.specs.Plan.{rows}
use Rattle.format.specs.Group.{group_fault}
use Rattle.format.specs.Laws.Limits.{Shape, rows_under, dealt_most, group_most, most_dealt, most_group_words}
use Rattle.format.specs.declared.Plan.{Plan}
use Rattle.group_read.specs.Faults.{fault_of}
use Rattle.group_read.specs.Row.{dealt_count}
use Rattle.group_read.proofs.Places.{word_room}
use Rattle.group_read.proofs.Search.{rest_of_tracks, rest_starts, rest_ends}
use Rattle.group_read.proofs.Dealing.{Dealing, slot_below, slot_next, deal_start, deal_more, deal_two, deal_track, deal_behind, deal_over}
use Rattle.group_read.proofs.Frame.{Inside, Over, over_at, sync_bad, inside_sync, inside_two, inside_even, inside_one, inside_bad, frame_good, frame_bad, not_left, not_taken}
use Rattle.group_read.proofs.deal.Statement.{statement}
use Rattle.group_read.proofs.deal.Tie as tie

-- the words of the track before the position have no fault, and stand in the row, whichever row the track began with
abbrev invariant-loop-position : tie.invariant-loop-position
invariant-loop-position group plan row₀ words tracks rows track first sync sum₀ slot₀ position₀ row sum slot position =
    Inside plan group track position slot sum × (length row ≡ length row₀)
    × ((old : List ℕ) → dealt_count plan ≤ length old → Dealing plan group old row₀ track position₀ → Dealing plan group old row track position)

abbrev decreases-loop-position : tie.decreases-loop-position
decreases-loop-position group plan row₀ words tracks rows₀ track first sync sum₀ slot₀ position₀ row sum slot position = rows plan + 1 - position

abbrev invariant-scan : tie.invariant-scan
invariant-scan group plan row₀ words tracks rows track₀ row track =
    (track ≤ plan.tracks) × (group_fault plan group 0 ≡ rest_of_tracks plan group 0 track) × Dealing plan group row₀ row track 1

abbrev decreases-scan : tie.decreases-scan
decreases-scan group plan row₀ words tracks rows track₀ row track = plan.tracks - track

-- ---- the places

-- at a track, and what is lent
abbrev AtScan : Type 0
AtScan = tie.At-scan invariant-loop-position decreases-loop-position invariant-scan decreases-scan

abbrev start : AtScan → tie.Start invariant-loop-position decreases-loop-position invariant-scan decreases-scan
start c = c.before.before.before.before

abbrev plan : AtScan → Plan
plan c = (start c).args.plan

abbrev group : AtScan → List ℕ
group c = (start c).args.group.now

abbrev old : AtScan → List ℕ
old c = (start c).args.row.now

shape : (c : AtScan) → Shape (plan c)
shape c = (start c).requires.0

-- in a track
abbrev InScan : Type 0
InScan = tie.Else-track-tracks invariant-loop-position decreases-loop-position invariant-scan decreases-scan

track_in : (c : InScan) → c.scan.track < (plan c.before).tracks
track_in c = omega (arith, c.scan.invariant.0, c.if-track-tracks.false)

some_words : (c : AtScan) → 0 < (plan c).words
some_words c = omega (arith, (shape c).words_least)

room : (c : InScan) (j : ℕ) → j < (plan c.before).words → 3 * (c.scan.track * (plan c.before).words + j + 1) ≤ length (group c.before)
room c j h = word_room (plan c.before) (shape c.before) c.scan.track j (length (group c.before)) (start c.before).requires.1 (track_in c) h

size : (c : AtScan) → length (group c) ≤ 3 * most_group_words
size c = omega (arith, (start c).requires.1, group_most (plan c) (shape c))

-- at two words of a track
abbrev AtLoop : Type 0
AtLoop = tie.At-loop-position invariant-loop-position decreases-loop-position invariant-scan decreases-scan

abbrev in_track : AtLoop → InScan
in_track c = c.before.before.before.before.before.before

abbrev scan : AtLoop → AtScan
scan c = (in_track c).before

-- the row at a loop, by the row at the call
dealing : (c : AtLoop) → Dealing (plan (scan c)) (group (scan c)) (old (scan c)) c.loop-position.row (scan c).scan.track c.loop-position.position
dealing c = c.loop-position.invariant.2 (old (scan c)) (start (scan c)).requires.2 (scan c).scan.invariant.2

row_in : (c : AtLoop) → dealt_count (plan (scan c)) ≤ length c.loop-position.row
row_in c = omega (arith, (dealing c).long, (start (scan c)).requires.2)

few : (c : AtLoop) → dealt_count (plan (scan c)) ≤ most_dealt
few c = dealt_most (plan (scan c)) (shape (scan c))

rows_are : (c : AtLoop) → (scan c).dealt_rows-rows.result ≡ rows (plan (scan c))
rows_are c = (scan c).dealt_rows-rows.ensures

-- in the loop: two words more
abbrev InLoop : Type 0
InLoop = tie.In-loop-position invariant-loop-position decreases-loop-position invariant-scan decreases-scan

two_rows : (c : InLoop) → c.loop-position.position < rows (plan (scan c.before))
two_rows c = omega (arith, c.loop-position-test.true, rows_are c.before)

two_in : (c : InLoop) → 3 * ((scan c.before).scan.track * (plan (scan c.before)).words + (c.loop-position.position + 1) + 1) ≤ length (group (scan c.before))
two_in c =
    let s = scan c.before in
    room (in_track c.before) (c.loop-position.position + 1) (omega (arith, two_rows c, rows_under (plan s) (shape s)))

slot_in : (c : InLoop) → c.loop-position.slot + (plan (scan c.before)).tracks < dealt_count (plan (scan c.before))
slot_in c =
    let l = c.loop-position in
    let p = plan (scan c.before) in
    let a = l.invariant.0 in
    slot_below p (scan c.before).scan.track (l.position + 1) (l.slot + p.tracks) a.track (omega arith) (omega (arith, two_rows c))
    (slot_next p (scan c.before).scan.track l.position l.slot a.past a.slot_is)

-- both words were loaded
abbrev Loaded : Type 0
Loaded = tie.After-stored_word-two invariant-loop-position decreases-loop-position invariant-scan decreases-scan

abbrev in_loop : Loaded → InLoop
in_loop c = c.before.before

abbrev one : Loaded → ℕ
one c = c.stored_word-one.result

abbrev two : Loaded → ℕ
two c = c.stored_word-two.result

-- they are odd, and summed
abbrev Summed-two : Type 0
Summed-two = tie.After-with_two-sum invariant-loop-position decreases-loop-position invariant-scan decreases-scan

abbrev loaded : Summed-two → Loaded
loaded c = c.before.before.before

abbrev two_of : Summed-two → InLoop
two_of c = in_loop (loaded c)

-- the last of odd rows
abbrev AtOne : Type 0
AtOne = tie.Then-position-rows invariant-loop-position decreases-loop-position invariant-scan decreases-scan

abbrev one_at : AtOne → AtLoop
one_at c = c.before.before

in_rows : (c : AtOne) → (one_at c).loop-position.position ≡ rows (plan (scan (one_at c)))
in_rows c = omega (arith, c.if-position-rows.true, c.loop-position-test.false, rows_are (one_at c))

one_in : (c : AtOne) → 3 * ((scan (one_at c)).scan.track * (plan (scan (one_at c))).words + (one_at c).loop-position.position + 1) ≤ length (group (scan (one_at c)))
one_in c =
    let s = scan (one_at c) in
    room (in_track (one_at c)) (one_at c).loop-position.position (omega (arith, in_rows c, rows_under (plan s) (shape s)))

one_slot : (c : AtOne) → (one_at c).loop-position.slot < dealt_count (plan (scan (one_at c)))
one_slot c =
    let l = (one_at c).loop-position in
    let a = l.invariant.0 in
    slot_below (plan (scan (one_at c))) (scan (one_at c)).scan.track l.position l.slot a.track a.past (omega (arith, in_rows c)) a.slot_is

-- the dealt words of the track are over
abbrev AtLast : Type 0
AtLast = tie.Joined-position-rows invariant-loop-position decreases-loop-position invariant-scan decreases-scan

abbrev last_of : AtLast → AtLoop
last_of c = c.before.before

over : (c : AtLast)
    → Over (plan (scan (last_of c))) (group (scan (last_of c))) (old (scan (last_of c))) (scan (last_of c)).scan.track c.if-position-rows.row c.if-position-rows.sum
over c =
    let l = (last_of c).loop-position in
    let s = scan (last_of c) in
    let p = plan s in
    let g = group s in
    let n = rows_are (last_of c) in
    ⊎_elim
    (λ w.
    let here : AtOne = record { before = c.before; if-position-rows = w.if-position-rows } in
    let k : l.position ≤ rows p = omega (arith, in_rows here) in
    over_at p g (old s) (omega (arith, in_rows here))
    (inside_one p g (shape s) l.invariant.0 w.stored_word-word.result k w.stored_word-word.ensures.0 w.parity_number-number.ensures w.if-number-ne0.false w.with_one-sum-then-position-rows.ensures)
    (deal_more p g (old s) l.row s.scan.track l.position l.slot w.stored_word-word.result (dealing (last_of c)) l.invariant.0.track l.invariant.0.past k
    (start s).requires.2 l.invariant.0.slot_is w.stored_word-word.ensures.0)
    w.row-is w.sum-is)
    (λ w. over_at p g (old s) (omega (arith, w.if-position-rows.false, l.invariant.0.within, n)) l.invariant.0 (dealing (last_of c)) w.row-is w.sum-is)
    c.if-position-rows.branch-raw

last_in : (c : AtLast) → 3 * ((scan (last_of c)).scan.track * (plan (scan (last_of c))).words + ((plan (scan (last_of c))).words - 1) + 1) ≤ length (group (scan (last_of c)))
last_in c = let s = scan (last_of c) in room (in_track (last_of c)) ((plan s).words - 1) (omega (arith, some_words s))

-- ---- the needs

dealt_rows-rows-requires : tie.Need-dealt_rows-rows-requires invariant-loop-position decreases-loop-position invariant-scan decreases-scan
dealt_rows-rows-requires c κs = search rules

scan-init : tie.Need-scan-init invariant-loop-position decreases-loop-position invariant-scan decreases-scan
scan-init c = (omega arith, rest_starts _ _ _, deal_start _ _ _)

time_fault-fault-requires : tie.Need-time_fault-fault-requires invariant-loop-position decreases-loop-position invariant-scan decreases-scan
time_fault-fault-requires c κs = let s = start c.before in (s.requires.0, s.requires.1)

overflow_mul-first : tie.Need-overflow_mul-first invariant-loop-position decreases-loop-position invariant-scan decreases-scan
overflow_mul-first c = omega (arith, room c 0 (some_words c.before), size c.before)

stored_word-sync-requires : tie.Need-stored_word-sync-requires invariant-loop-position decreases-loop-position invariant-scan decreases-scan
stored_word-sync-requires c κs = omega (arith, room c 0 (some_words c.before))

sync-requires : tie.Need-sync-requires invariant-loop-position decreases-loop-position invariant-scan decreases-scan
sync-requires c κs = search rules

start-requires : tie.Need-start-requires invariant-loop-position decreases-loop-position invariant-scan decreases-scan
start-requires c κs = search rules

with_one-sum-requires : tie.Need-with_one-sum-requires invariant-loop-position decreases-loop-position invariant-scan decreases-scan
with_one-sum-requires c κs = (c.start.ensures.small, c.stored_word-sync.ensures.1)

loop-position-init : tie.Need-loop-position-init invariant-loop-position decreases-loop-position invariant-scan decreases-scan
loop-position-init c =
    let synced = c.before.before in
    let stored = synced.before.before in
    let s = stored.before.before in (
      inside_sync (plan s) (group s) s.scan.track (shape s) (track_in stored.before) stored.stored_word-sync.ensures.0 synced.sync.ensures
          s.scan.invariant.1 synced.if-sync.false c.start.ensures c.with_one-sum.ensures,
      refl,
      λ old n d. d,
    )

overflow_add-place : tie.Need-overflow_add-place invariant-loop-position decreases-loop-position invariant-scan decreases-scan
overflow_add-place c = omega (arith, two_in c, size (scan c.before))

stored_word-one-requires : tie.Need-stored_word-one-requires invariant-loop-position decreases-loop-position invariant-scan decreases-scan
stored_word-one-requires c κs = omega (arith, two_in c)

overflow_add-place-in-loop-position : tie.Need-overflow_add-place-in-loop-position invariant-loop-position decreases-loop-position invariant-scan decreases-scan
overflow_add-place-in-loop-position c = omega (arith, two_in c.before, size (scan c.before.before))

stored_word-two-requires : tie.Need-stored_word-two-requires invariant-loop-position decreases-loop-position invariant-scan decreases-scan
stored_word-two-requires c κs = omega (arith, two_in c.before)

are_odd-requires : tie.Need-are_odd-requires invariant-loop-position decreases-loop-position invariant-scan decreases-scan
are_odd-requires c κs = (c.stored_word-one.ensures.1, c.stored_word-two.ensures.1)

even_place-requires : tie.Need-even_place-requires invariant-loop-position decreases-loop-position invariant-scan decreases-scan
even_place-requires c κs = let l = c.before.before in (l.stored_word-one.ensures.1, omega (arith, two_in (in_loop l), size (scan (in_loop l).before)))

with_two-sum-requires : tie.Need-with_two-sum-requires invariant-loop-position decreases-loop-position invariant-scan decreases-scan
with_two-sum-requires c κs = let l = c.before.before in ((in_loop l).loop-position.invariant.0.small, l.stored_word-one.ensures.1, l.stored_word-two.ensures.1)

offset_bounds-row-slot : tie.Need-offset_bounds-row-slot invariant-loop-position decreases-loop-position invariant-scan decreases-scan
offset_bounds-row-slot c = omega (arith, slot_in (two_of c), few (two_of c).before)

bounds-row-slot : tie.Need-bounds-row-slot invariant-loop-position decreases-loop-position invariant-scan decreases-scan
bounds-row-slot c = omega (arith, slot_in (two_of c), row_in (two_of c).before)

overflow_add-row : tie.Need-overflow_add-row invariant-loop-position decreases-loop-position invariant-scan decreases-scan
overflow_add-row c = omega (arith, slot_in (two_of c), few (two_of c).before)

offset_bounds-row-slot-in-loop-position : tie.Need-offset_bounds-row-slot-in-loop-position invariant-loop-position decreases-loop-position invariant-scan decreases-scan
offset_bounds-row-slot-in-loop-position c = omega (arith, slot_in (two_of c), few (two_of c).before)

bounds-row-slot-in-loop-position : tie.Need-bounds-row-slot-in-loop-position invariant-loop-position decreases-loop-position invariant-scan decreases-scan
bounds-row-slot-in-loop-position c =
    let l = (two_of c).before in
    omega (arith, slot_in (two_of c), row_in l, length-set l.loop-position.row l.loop-position.slot (one (loaded c)))

overflow_mul-slot : tie.Need-overflow_mul-slot invariant-loop-position decreases-loop-position invariant-scan decreases-scan
overflow_mul-slot c = omega (arith, (shape (scan (two_of c).before)).tracks_most)

overflow_add-slot : tie.Need-overflow_add-slot invariant-loop-position decreases-loop-position invariant-scan decreases-scan
overflow_add-slot c = let l = (two_of c).before in omega (arith, slot_in (two_of c), few l, (shape (scan l)).tracks_most)

overflow_add-position : tie.Need-overflow_add-position invariant-loop-position decreases-loop-position invariant-scan decreases-scan
overflow_add-position c = let s = scan (two_of c).before in omega (arith, two_rows (two_of c), rows_under (plan s) (shape s), (shape s).words_most)

loop-position-smaller : tie.Need-loop-position-smaller invariant-loop-position decreases-loop-position invariant-scan decreases-scan
loop-position-smaller c = omega (arith, two_rows (two_of c))

loop-position-preserved : tie.Need-loop-position-preserved invariant-loop-position decreases-loop-position invariant-scan decreases-scan
loop-position-preserved c =
    let w = loaded c in
    let at = (two_of c).before in
    let l = at.loop-position in
    let s = scan at in
    let e = w.stored_word-one.ensures.0 in
    let f = w.stored_word-two.ensures.0 in
    let o = sym c.are_odd.ensures ∙ c.if-not-are_odd.false in
    let a = l.invariant.0 in (
      inside_two (plan s) (group s) (shape s) a (one w) (two w) (two_rows (two_of c)) e f o c.with_two-sum.ensures,
      length-set (set l.row l.slot (one w)) (l.slot + (plan s).tracks) (two w) ∙ length-set l.row l.slot (one w) ∙ l.invariant.1,
      λ old n d.
          deal_two (plan s) (group s) old l.row s.scan.track l.position l.slot (one w) (two w) (l.invariant.2 old n d) a.track a.past (two_rows (two_of c)) n
          a.slot_is e f,
    )

overflow_add-first : tie.Need-overflow_add-first invariant-loop-position decreases-loop-position invariant-scan decreases-scan
overflow_add-first c = omega (arith, one_in c, size (scan (one_at c)))

stored_word-word-requires : tie.Need-stored_word-word-requires invariant-loop-position decreases-loop-position invariant-scan decreases-scan
stored_word-word-requires c κs = one_in c

parity_number-number-requires : tie.Need-parity_number-number-requires invariant-loop-position decreases-loop-position invariant-scan decreases-scan
parity_number-number-requires c κs = c.stored_word-word.ensures.1

overflow_add-fault : tie.Need-overflow_add-fault invariant-loop-position decreases-loop-position invariant-scan decreases-scan
overflow_add-fault c = let o = c.before.before.before in omega (arith, one_in o, size (scan (one_at o)))

with_one-sum-requires-then-position-rows : tie.Need-with_one-sum-requires-then-position-rows invariant-loop-position decreases-loop-position invariant-scan decreases-scan
with_one-sum-requires-then-position-rows c κs = let w = c.before.before in ((one_at w.before).loop-position.invariant.0.small, w.stored_word-word.ensures.1)

offset_bounds-row-slot-then-position-rows : tie.Need-offset_bounds-row-slot-then-position-rows invariant-loop-position decreases-loop-position invariant-scan decreases-scan
offset_bounds-row-slot-then-position-rows c = let o = c.before.before.before.before in omega (arith, one_slot o, few (one_at o))

bounds-row-slot-then-position-rows : tie.Need-bounds-row-slot-then-position-rows invariant-loop-position decreases-loop-position invariant-scan decreases-scan
bounds-row-slot-then-position-rows c = let o = c.before.before.before.before in omega (arith, one_slot o, row_in (one_at o))

overflow_sub-last : tie.Need-overflow_sub-last invariant-loop-position decreases-loop-position invariant-scan decreases-scan
overflow_sub-last c = omega (arith, some_words (scan (last_of c)))

overflow_add-last : tie.Need-overflow_add-last invariant-loop-position decreases-loop-position invariant-scan decreases-scan
overflow_add-last c = omega (arith, last_in c, size (scan (last_of c)))

last_number-number-requires : tie.Need-last_number-number-requires invariant-loop-position decreases-loop-position invariant-scan decreases-scan
last_number-number-requires c κs = ((shape (scan (last_of c))).named, (over c).inside.small, last_in c)

overflow_add-track : tie.Need-overflow_add-track invariant-loop-position decreases-loop-position invariant-scan decreases-scan
overflow_add-track c = omega (arith, track_in (in_track (last_of c.before.before)), (shape (scan (last_of c.before.before))).tracks_most)

scan-smaller : tie.Need-scan-smaller invariant-loop-position decreases-loop-position invariant-scan decreases-scan
scan-smaller c = omega (arith, track_in (in_track (last_of c.before.before)))

scan-preserved : tie.Need-scan-preserved invariant-loop-position decreases-loop-position invariant-scan decreases-scan
scan-preserved c =
    let j = c.before.before in
    let s = scan (last_of j) in
    let t = s.scan.track in
    let o = over j in (
      omega (arith, track_in (in_track (last_of j))),
      frame_good (plan s) (group s) (shape s) o.inside refl c.last_number-number.ensures c.if-number-ne0-2.false,
      deal_track (plan s) (group s) (old s) j.if-position-rows.row t (rows (plan s) + 1) o.dealt (omega arith),
    )

shape_of-row-then-track-tracks : tie.Need-shape_of-row-then-track-tracks invariant-loop-position decreases-loop-position invariant-scan decreases-scan
shape_of-row-then-track-tracks c = c.scan.invariant.2.long

returns-then-track-tracks : tie.Need-returns-then-track-tracks invariant-loop-position decreases-loop-position invariant-scan decreases-scan
returns-then-track-tracks c =
    let s = c.before.before in
    let d = s.scan.invariant.2 in
    let e : (plan s).tracks ≤ s.scan.track = omega (arith, c.if-track-tracks.true) in
    record {
      fault = c.time_fault-fault.ensures ∙ sym (ap fault_of (s.scan.invariant.1 ∙ rest_ends (plan s) (group s) 0 s.scan.track e));
      long = d.long;
      behind = deal_behind (plan s) (group s) (old s) s.scan.row s.scan.track 1 d;
      words = λ z. deal_over (plan s) (group s) (old s) s.scan.row s.scan.track 1 d e (shape s).tracks_least (start s).requires.2;
    }

shape_of-row-then-sync : tie.Need-shape_of-row-then-sync invariant-loop-position decreases-loop-position invariant-scan decreases-scan
shape_of-row-then-sync c = c.scan.invariant.2.long

returns-then-sync : tie.Need-returns-then-sync invariant-loop-position decreases-loop-position invariant-scan decreases-scan
returns-then-sync c =
    let stored = c.before.before in
    let s = stored.before.before in
    record {
      fault = sym
          (ap fault_of
          (s.scan.invariant.1
          ∙ sync_bad (plan s) (group s) s.scan.track (shape s) (track_in stored.before) stored.stored_word-sync.ensures.0 c.sync.ensures c.if-sync.true));
      long = s.scan.invariant.2.long;
      behind = deal_behind (plan s) (group s) (old s) s.scan.row s.scan.track 1 s.scan.invariant.2;
      words = λ z. absurd (omega arith);
    }

shape_of-row-then-not-are_odd : tie.Need-shape_of-row-then-not-are_odd invariant-loop-position decreases-loop-position invariant-scan decreases-scan
shape_of-row-then-not-are_odd c = (dealing (in_loop c.before.before.before).before).long

returns-then-not-are_odd : tie.Need-returns-then-not-are_odd invariant-loop-position decreases-loop-position invariant-scan decreases-scan
returns-then-not-are_odd c =
    let w = c.before.before.before in
    let at = (in_loop w).before in
    let s = scan at in
    let l = at.loop-position in
    let o = sym c.are_odd.ensures ∙ c.if-not-are_odd.true in
    record {
      fault = sym
          (ap fault_of
          (inside_even (plan s) (group s) (shape s) l.invariant.0 (one w) (two w) (two_rows (in_loop w)) w.stored_word-one.ensures.0 w.stored_word-two.ensures.0 o
          c.even_place.ensures));
      long = (dealing at).long;
      behind = deal_behind (plan s) (group s) (old s) l.row s.scan.track l.position (dealing at);
      words = λ z. absurd (omega arith);
    }

shape_of-row-then-number-ne0 : tie.Need-shape_of-row-then-number-ne0 invariant-loop-position decreases-loop-position invariant-scan decreases-scan
shape_of-row-then-number-ne0 c = (dealing (one_at c.before.before.before)).long

returns-then-number-ne0 : tie.Need-returns-then-number-ne0 invariant-loop-position decreases-loop-position invariant-scan decreases-scan
returns-then-number-ne0 c =
    let w = c.before.before in
    let at = one_at w.before in
    let s = scan at in
    let l = at.loop-position in
    record {
      fault = sym
          (ap fault_of
          (inside_bad (plan s) (group s) (shape s) l.invariant.0 w.stored_word-word.result (omega (arith, in_rows w.before)) w.stored_word-word.ensures.0
          c.parity_number-number.ensures c.if-number-ne0.true));
      long = (dealing at).long;
      behind = deal_behind (plan s) (group s) (old s) l.row s.scan.track l.position (dealing at);
      words = λ z. absurd (c.if-number-ne0.true z);
    }

shape_of-row-then-number-ne0-2 : tie.Need-shape_of-row-then-number-ne0-2 invariant-loop-position decreases-loop-position invariant-scan decreases-scan
shape_of-row-then-number-ne0-2 c = (over c.before.before).dealt.long

returns-then-number-ne0-2 : tie.Need-returns-then-number-ne0-2 invariant-loop-position decreases-loop-position invariant-scan decreases-scan
returns-then-number-ne0-2 c =
    let j = c.before.before in
    let s = scan (last_of j) in
    let o = over j in
    record {
      fault = sym (ap fault_of (frame_bad (plan s) (group s) (shape s) o.inside refl c.last_number-number.ensures c.if-number-ne0-2.true));
      long = o.dealt.long;
      behind = deal_behind (plan s) (group s) (old s) j.if-position-rows.row s.scan.track (rows (plan s) + 1) o.dealt;
      words = λ z. absurd (c.if-number-ne0-2.true z);
    }

pub deal_spec : {M : Type 1} → statement M
deal_spec =
    tie.close
    (tie.spec
    invariant-loop-position
    decreases-loop-position
    invariant-scan
    decreases-scan
    dealt_rows-rows-requires
    scan-init
    time_fault-fault-requires
    overflow_mul-first
    stored_word-sync-requires
    sync-requires
    start-requires
    with_one-sum-requires
    loop-position-init
    overflow_add-place
    stored_word-one-requires
    overflow_add-place-in-loop-position
    stored_word-two-requires
    are_odd-requires
    even_place-requires
    with_two-sum-requires
    offset_bounds-row-slot
    bounds-row-slot
    overflow_add-row
    offset_bounds-row-slot-in-loop-position
    bounds-row-slot-in-loop-position
    overflow_mul-slot
    overflow_add-slot
    overflow_add-position
    loop-position-smaller
    loop-position-preserved
    overflow_add-first
    stored_word-word-requires
    parity_number-number-requires
    overflow_add-fault
    with_one-sum-requires-then-position-rows
    offset_bounds-row-slot-then-position-rows
    bounds-row-slot-then-position-rows
    overflow_sub-last
    overflow_add-last
    last_number-number-requires
    overflow_add-track
    scan-smaller
    scan-preserved
    shape_of-row-then-track-tracks
    returns-then-track-tracks
    shape_of-row-then-sync
    returns-then-sync
    shape_of-row-then-not-are_odd
    returns-then-not-are_odd
    shape_of-row-then-number-ne0
    returns-then-number-ne0
    shape_of-row-then-number-ne0-2
    returns-then-number-ne0-2)
