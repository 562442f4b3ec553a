-- A call fills eleven groups at most: room for more times makes no difference.
use Prim.Native.Nat.{ℕ, ◌+◌, ◌*◌, ◌/◌, ◌%◌, ◌≤◌, ◌<◌}
use native.Mathlib.Nat.{div-add-mod', mul-le-mul_right}
use native.Mathlib.Omega.{arith}
use mathlib.Core.Bool.{Bool, true, false, cond, ◌&&◌}
use mathlib.Core.Path.{◌≡◌, refl, ap, ap₂, sym, ◌∙◌}
use mathlib.Core.List.{List, [], ◌++◌, append_assoc, flat_map}
use lib.ListN.{length, take, drop, length-append}
use lib.Seq.{take-append_seam}
use lib.Dec.{leb}
use borrow.Author.Tests.{le-leb, leb-false, leb-true}
use Rattle.format.specs.Answer.{over}
use Rattle.format.specs.Plan.{group_words, times_needed}
use Rattle.format.specs.Laws.Legal.{shape_of}
use Rattle.format.specs.Laws.Limits.{Shape, group_least}
use Rattle.format.specs.declared.Answer.{Answer}
use Rattle.from_c.specs.Numbers.{time_bytes}
use Rattle.stream_rules.specs.Stream.{Call, State, Working, answered, closed, count_of, entries_for, failed, fed_by, fed_on, feed_bytes, feedable, fits, group_size, is_open_state, most_bytes, refused_by, working}
use Rattle.stream_rules.proofs.Laws.Stream.Kept.{Fit, fits_is}
use Rattle.stream_rules.proofs.Laws.Stream.Room.{entries_enough}
use Rattle.stream_state.specs.Layout.{is_state, state_at}
use Rattle.stream_calls.specs.Calls.{Feeds, Leaves, Outcome, feeding, outcome_of, unread}
use Rattle.stream_from_c.specs.Streaming.{FeedsBytes, LeavesBytes}

-- ---- at most eleven

few_groups : (size n : ℕ) → 384 ≤ size → n < size + 4096 → n / size ≤ 11
few_groups size n s h = go (leb (n / size) 11) refl
  where
    go : (t : Bool) → leb (n / size) 11 ≡ t → n / size ≤ 11
    go true e = leb-true (n / size) 11 e
    go false e =
        let k : 12 ≤ n / size = leb-false (n / size) 11 e in
        absurd (omega (arith, mul-le-mul_right size k, div-add-mod' n size, s, h))

few_times : (b : Bool) (n : ℕ) → n ≤ 11 → cond b n 0 ≤ 11
few_times true n h = h
few_times false n h = omega arith

few_entries : (s : State) (n : ℕ) → fits s ≡ true → n ≤ 4096 → entries_for s n ≤ 11
few_entries closed n e h = omega arith
few_entries (failed k q second) n e h = omega arith
few_entries (working w) n e h =
    let f = fits_is w e in
    let g = group_least w.plan (shape_of w.plan w.kinds f.lawful) in
    few_times w.plan.frame_time ((length w.waiting + n) / group_size w.plan) (few_groups (group_size w.plan) (length w.waiting + n) (omega (arith, g)) (omega (arith, f.part, h)))

-- ---- the room makes no difference

feedable_same : (s : State) (n room T U : ℕ) → 11 ≤ T → 11 ≤ U → feedable s n room T ≡ feedable s n room U
feedable_same s n room T U t u = go (is_open_state s) (fits s) refl (leb n 4096) refl
  where
    go : (o f : Bool) → fits s ≡ f → (l : Bool) → leb n 4096 ≡ l
        → ((o && f) && ((l && leb 12288 room) && leb (entries_for s n) T)) ≡ ((o && f) && ((l && leb 12288 room) && leb (entries_for s n) U))
    go false f e l g = refl
    go true false e l g = refl
    go true true e false g = refl
    go true true e true g =
        let k = few_entries s n e (leb-true n 4096 g) in
        rw (le-leb (entries_for s n) T (omega (arith, k, t)), le-leb (entries_for s n) U (omega (arith, k, u))) refl

feeding_same : (b piece : List ℕ) (room T U : ℕ) → 11 ≤ T → 11 ≤ U → feeding b piece room T ≡ feeding b piece room U
unfolding feeding fed_by
feeding_same b piece room T U t u =
    ap (λ (c : Bool). cond (is_state b) (outcome_of (cond c (fed_on (state_at b) piece) (refused_by 16 0 0 (state_at b)))) (unread 16 0 0 b)) (feedable_same (state_at b) (length piece) room T U t u)

pub least_same : (b piece : List ℕ) (room T row k : ℕ) → row ≡ 16 → k ≡ cond (leb T row) T row → feeding b piece room T ≡ feeding b piece room k
least_same b piece room T row k r e = go (leb T row) refl e
  where
    go : (t : Bool) → leb T row ≡ t → k ≡ cond t T row → feeding b piece room T ≡ feeding b piece room k
    go true f e = ap (feeding b piece room) (sym e)
    go false f e = feeding_same b piece room T k (omega (arith, r, leb-false T row f)) (omega (arith, r, e))

-- ---- no more times than there is room for

on_few : (s : State) (piece : List ℕ) (T : ℕ) → fits s ≡ true → entries_for s (length piece) ≤ T → length (fed_on s piece).times ≤ T
on_few closed piece T e h = omega arith
on_few (failed k q second) piece T e h = omega arith
on_few (working w) piece T e h = go (leb (count_of w + length piece) most_bytes)
  where
    go : (t : Bool) → length (cond t (answered (feed_bytes (working w) piece)) (refused_by 8 (count_of w) 0 (working w))).times ≤ T
    go true = omega (arith, entries_enough w e piece, h)
    go false = omega arith

by_few : (s : State) (piece : List ℕ) (room T : ℕ) → length (fed_by s piece room T).times ≤ T
unfolding fed_by
by_few s piece room T = go (is_open_state s) (fits s) refl (leb (length piece) 4096) (leb 12288 room) (leb (entries_for s (length piece)) T) refl
  where
    go : (o f : Bool) → fits s ≡ f → (l r t : Bool) → leb (entries_for s (length piece)) T ≡ t
        → length (cond ((o && f) && ((l && r) && t)) (fed_on s piece) (refused_by 16 0 0 s)).times ≤ T
    go false f e l r t g = omega arith
    go true false e l r t g = omega arith
    go true true e false r t g = omega arith
    go true true e true false t g = omega arith
    go true true e true true true g = on_few s piece T e (leb-true (entries_for s (length piece)) T g)
    go true true e true true false g = omega arith

pub times_few : (b piece : List ℕ) (room T : ℕ) → length (feeding b piece room T).times ≤ T
unfolding feeding
times_few b piece room T = go (is_state b)
  where
    go : (t : Bool) → length (cond t (outcome_of (fed_by (state_at b) piece room T)) (unread 16 0 0 b)).times ≤ T
    go true = by_few (state_at b) piece room T
    go false = omega arith

-- ---- the times as bytes

pub leaves_bytes : (o : Outcome) {r : Answer} {b' l l' : List ℕ} (part part' rest t : List ℕ) {t' : List ℕ} → Leaves o r b' l l' part part'
    → t' ≡ over (flat_map time_bytes (take r.times (part' ++ rest))) t → o.answer.times ≡ length o.times → LeavesBytes o r b' l l' t t'
leaves_bytes o {r} {b'} {l} {l'} part part' rest t {t'} f e n =
    let m : r.times ≡ length o.times = ap (λ (a : Answer). a.times) f.answer ∙ n in
    let k : take r.times (part' ++ rest) ≡ o.times =
    ap₂ (λ (i : ℕ) (u : List ℕ). take i (u ++ rest)) m f.times ∙ ap (take (length o.times)) (append_assoc o.times (drop (length o.times) part) rest)
    ∙ take-append_seam o.times (drop (length o.times) part ++ rest) in
    record { answer = f.answer; state = f.state; log = f.log; times = e ∙ ap (λ (u : List ℕ). over (flat_map time_bytes u) t) k }

pub told_times : (b piece : List ℕ) (room T : ℕ) → (feeding b piece room T).answer.times ≡ length (feeding b piece room T).times
unfolding feeding
told_times b piece room T = go (is_state b)
  where
    go : (t : Bool) → (cond t (outcome_of (fed_by (state_at b) piece room T)) (unread 16 0 0 b)).answer.times ≡ length
        (cond t (outcome_of (fed_by (state_at b) piece room T)) (unread 16 0 0 b)).times
    go true = refl
    go false = refl
