use Prim.Native.Nat.{ℕ, ◌+◌, ◌*◌, ◌-◌, ◌≤◌}
use native.Mathlib.Omega.{arith}
use native.Mathlib.Nat.{mul-le-mul_right, zero-mul}
use mathlib.Core.Path.{◌≡◌, ap, sym, ◌∙◌}
use mathlib.Core.List.{List, ◌++◌}
use lib.ListN.{length, take, length-take, length-drop}
use borrow.Author.Rules.{rules}
use Rattle.format.specs.Plan.{lead}
use Rattle.format.specs.Group.{frame, dealt_of}
use Rattle.group_write.proofs.Words.{Written, written_is, written_none, written_length, written_part}
use Rattle.group_write.proofs.Dealt.{dealt_is, time_words_unsent, time_words_three}
use Rattle.group_write.proofs.Frames.{frames_of, frames_none, frames_more, frames_all, frame_count}
use Rattle.group_write.proofs.write_group.Statement.{statement}
use Rattle.group_write.proofs.write_group.Tie as tie

abbrev invariant-loop-track : tie.invariant-loop-track
invariant-loop-track out₀ plan time words times size track₀ out track =
    (track ≤ plan.tracks) × Written (frames_of plan (dealt_of plan time words) track) (track * plan.words) out₀ out

abbrev decreases-loop-track : tie.decreases-loop-track
decreases-loop-track out₀ plan time words times size track₀ out track = plan.tracks - track

-- the loop's place, the function's entry and the words dealt
abbrev Loop : Type 0
Loop = tie.At-loop-track invariant-loop-track decreases-loop-track

abbrev entry : Loop → tie.Start invariant-loop-track decreases-loop-track
entry c = c.before.before.before.before.before

abbrev dealt : tie.Start invariant-loop-track decreases-loop-track → List ℕ
dealt c = dealt_of c.args.plan c.args.time c.args.words.now

dealt_words : (c : Loop) → take (lead (entry c).args.plan) c.time_words-times.result ++ (entry c).args.words.now ≡ dealt (entry c)
dealt_words c =
    let a = (entry c).args in
    ap (λ l. take (lead a.plan) l ++ a.words.now) c.time_words-times.ensures ∙ sym (dealt_is a.plan a.time a.words.now)

-- in a turn, the next frame's part is within the output
abbrev Turn : Type 0
Turn = tie.In-loop-track invariant-loop-track decreases-loop-track

abbrev at_turn : Turn → Loop
at_turn c = c.before.before

room : (c : Turn) → let w = 3 * (entry (at_turn c)).args.plan.words in
    (at_turn c).loop-track.track * w + w ≤ length (entry (at_turn c)).args.out.now
room c = omega (arith, (entry (at_turn c)).requires.1, mul-le-mul_right (entry (at_turn c)).args.plan.words c.loop-track-test.true)

time_words-times-requires : tie.Need-time_words-times-requires invariant-loop-track decreases-loop-track
time_words-times-requires c κs = search rules

overflow_mul-size : tie.Need-overflow_mul-size invariant-loop-track decreases-loop-track
overflow_mul-size c = search rules

loop-track-init : tie.Need-loop-track-init invariant-loop-track decreases-loop-track
loop-track-init c = let s = c.before.before.before.before in
    (omega arith, rw (frames_none s.args.plan (dealt s), zero-mul s.args.plan.words) (written_none _))

overflow_mul-start : tie.Need-overflow_mul-start invariant-loop-track decreases-loop-track
overflow_mul-start c = omega (arith, room c)

overflow_add-end : tie.Need-overflow_add-end invariant-loop-track decreases-loop-track
overflow_add-end c = omega (arith, room c)

slice_bounds-write_frame-count : tie.Need-slice_bounds-write_frame-count invariant-loop-track decreases-loop-track
slice_bounds-write_frame-count c = search rules

slice_bounds-write_frame-start : tie.Need-slice_bounds-write_frame-start invariant-loop-track decreases-loop-track
slice_bounds-write_frame-start c = search rules

slice_bounds-write_frame-end : tie.Need-slice_bounds-write_frame-end invariant-loop-track decreases-loop-track
slice_bounds-write_frame-end c = omega (arith, room c, written_length (at_turn c).loop-track.invariant.1)

write_frame-requires : tie.Need-write_frame-requires invariant-loop-track decreases-loop-track
write_frame-requires c κs =
    let l = at_turn c.before.before in
    let a = (entry l).args in
    let q = (entry l).requires in
    let e = l.time_words-times.ensures in (
      q.0,
      simp (length-take, length-drop) (omega (arith, room c.before.before, written_length l.loop-track.invariant.1)),
      (rw e (time_words_unsent a.plan a.time q.4), rw e (time_words_three a.time)),
      q.3,
      q.2,
      omega (arith, c.loop-track-test.true),
    )

overflow_add-track : tie.Need-overflow_add-track invariant-loop-track decreases-loop-track
overflow_add-track c = search rules

loop-track-smaller : tie.Need-loop-track-smaller invariant-loop-track decreases-loop-track
loop-track-smaller c = search rules

loop-track-preserved : tie.Need-loop-track-preserved invariant-loop-track decreases-loop-track
loop-track-preserved c =
    let l = at_turn c.before.before.before.before.before in
    let s = entry l in
    let r = room c.before.before.before.before.before in
    let t = l.loop-track.track in
    let size = 3 * s.args.plan.words in
    let e = rw (dealt_words l) at c.write_frame.ensures in (
      omega arith,
      rw (frames_more s.args.plan (dealt s) t)
          (written_part (t * size) (t * size + size - t * size) (frame s.args.plan (dealt s) t) l.loop-track.invariant.1 (omega arith) (frame_count s.args.plan (dealt s) t s.requires.0)
          (omega arith) (omega arith) (omega arith) e),
    )

shape_of-out : tie.Need-shape_of-out invariant-loop-track decreases-loop-track
shape_of-out c = written_length c.loop-track.invariant.1

returns : tie.Need-returns invariant-loop-track decreases-loop-track
returns c =
    let s = entry c.before.before in
    let o = c.loop-track in
    let e : o.track ≡ s.args.plan.tracks = omega arith in
    written_is o.invariant.1 (frames_all s.args.plan (dealt s) o.track e) (ap (λ n. n * s.args.plan.words) e)

pub write_group_spec : {M : Type 1} → statement M
write_group_spec =
    tie.close
    (tie.spec
    invariant-loop-track
    decreases-loop-track
    time_words-times-requires
    overflow_mul-size
    loop-track-init
    overflow_mul-start
    overflow_add-end
    slice_bounds-write_frame-count
    slice_bounds-write_frame-start
    slice_bounds-write_frame-end
    write_frame-requires
    overflow_add-track
    loop-track-smaller
    loop-track-preserved
    shape_of-out
    returns)
