-- Calls that are refused before anything is written.
use Prim.Native.Nat.{ℕ, ◌+◌, ◌*◌, ◌/◌, ◌%◌, ◌≤◌, ◌<◌}
use native.Mathlib.Nat.{div-add-mod', mod-lt}
use native.Mathlib.Omega.{arith}
use mathlib.Core.Bool.{Bool, true, false, cond, ◌&&◌, ◌||◌}
use mathlib.Core.Path.{◌≡◌, refl, ap, ap₂, sym, subst, ◌∙◌}
use mathlib.Core.List.{List, [], ◌++◌}
use lib.ListN.{length, take, drop, length-drop}
use lib.Seq.{length-take-le}
use lib.Dec.{eqb, leb}
use borrow.Author.Tests.{eqb-true, le-leb, leb-true, lt-leb}
use Rattle.format.specs.Answer.{refusal}
use Rattle.format.specs.Plan.{times_needed}
use Rattle.format.specs.Laws.Limits.{Shape, group_most, some_words}
use Rattle.format.specs.Laws.Tests.{and_true, clash}
use Rattle.format.specs.declared.Answer.{Answer}
use Rattle.stream_rules.specs.Stream.{Call, Flow, State, answered, closed, count_of, entries_for, failed, fed_by, fed_on, feed_bytes, feedable, fits, group_size, is_open_state, keeps, most_bytes, refused_by, still, working}
use Rattle.stream_rules.specs.Laws.Stream.Feed.{feed_part}
use Rattle.stream_rules.proofs.Laws.Stream.Kept.{fed_works}
use Rattle.stream_state.specs.Layout.{is_state, state_at, state_bytes}
use Rattle.stream_state.specs.Laws.Bytes.{bytes_state_back, passed}
use Rattle.stream_state.specs.AtWork.{AtWork, work_in}
use Rattle.stream_state.specs.Laws.Loaded.{loaded_failed, told}
use Rattle.stream_state.specs.Stand.{loaded_as, loaded_of, stopped}
use Rattle.stream_state.specs.Storing.{Waits, kept_in}
use Rattle.stream_state.specs.declared.Loaded.{Loaded}
use Rattle.stream_state.specs.declared.Stand.{Stand}
use Rattle.stream_calls.specs.Calls.{Leaves, Outcome, feeding, outcome_of, unread, within}

-- ---- what is refused stays as it was

pub unread_leaves : {o : Outcome} {r : Answer} {k q second : ℕ} (b log times : List ℕ) → o ≡ unread k q second b → r ≡ refusal k q second → Leaves o r b log log times times
unread_leaves {o} {r} {k} {q} {second} b log times e a =
    subst (λ (x : Outcome). Leaves x r b log log times times) (sym e) (record { answer = a; state = refl; log = refl; times = refl })

feeding_none : (b piece : List ℕ) (room entries : ℕ) → is_state b ≡ false → feeding b piece room entries ≡ unread 16 0 0 b
unfolding feeding
feeding_none b piece room entries e = rw e refl

pub feeding_state : (b piece : List ℕ) (room entries : ℕ) → is_state b ≡ true → feeding b piece room entries ≡ outcome_of (fed_by (state_at b) piece room entries)
unfolding feeding
feeding_state b piece room entries e = rw e refl

feeding_refused : (b piece : List ℕ) (room entries k q second : ℕ) → is_state b ≡ true → fed_by (state_at b) piece room entries ≡ refused_by k q second (state_at b)
    → feeding b piece room entries ≡ unread k q second b
feeding_refused b piece room entries k q second e f =
    feeding_state b piece room entries e ∙ ap outcome_of f ∙ ap (unread k q second) (bytes_state_back b e)

-- ---- 16

not_fed : (s : State) (piece : List ℕ) (room entries : ℕ) → feedable s (length piece) room entries ≡ false → fed_by s piece room entries ≡ refused_by 16 0 0 s
unfolding fed_by
not_fed s piece room entries e = rw e refl

mid_false : (x y z : Bool) → y ≡ false → (x && (y && z)) ≡ false
mid_false true y z e = rw e refl
mid_false false y z e = refl

last_false : (x y z : Bool) → z ≡ false → (x && (y && z)) ≡ false
last_false true true z e = e
last_false true false z e = refl
last_false false y z e = refl

beyond : (s : State) (n room entries : ℕ) → within (loaded_as s).stage n room ≡ false → feedable s n room entries ≡ false
beyond closed n room entries e = refl
beyond (failed k q second) n room entries e = mid_false (fits (failed k q second)) (leb n 4096 && leb 12288 room) (leb 0 entries) e
beyond (working w) n room entries e = mid_false (fits (working w)) (leb n 4096 && leb 12288 room) (leb (entries_for (working w) n) entries) e

pub loaded_is : (b : List ℕ) → is_state b ≡ true → loaded_of b ≡ loaded_as (state_at b)
unfolding loaded_of
loaded_is b e = rw e refl

-- no state, a closed one, or beyond the limits of a call
pub not_within : (b piece : List ℕ) (room entries : ℕ) → within (loaded_of b).stage (length piece) room ≡ false → feeding b piece room entries ≡ unread 16 0 0 b
not_within b piece room entries e = go (is_state b) refl
  where
    go : (t : Bool) → is_state b ≡ t → feeding b piece room entries ≡ unread 16 0 0 b
    go false f = feeding_none b piece room entries f
    go true f =
        let g : within (loaded_as (state_at b)).stage (length piece) room ≡ false = ap (λ (x : Loaded). within x.stage (length piece) room) (sym (loaded_is b f)) ∙ e in
        feeding_refused b piece room entries 16 0 0 f (not_fed (state_at b) piece room entries (beyond (state_at b) (length piece) room entries g))

-- the limits, one after the other
pub within_long : (stage n room : ℕ) → 4096 < n → within stage n room ≡ false
within_long stage n room h = mid_false (eqb stage 1 || eqb stage 2) (leb n 4096) (leb 12288 room) (lt-leb n 4096 h)

pub within_close : (stage n room : ℕ) → room < 12288 → within stage n room ≡ false
within_close stage n room h = last_false (eqb stage 1 || eqb stage 2) (leb n 4096) (leb 12288 room) (lt-leb 12288 room h)

pub within_stage : (stage n room : ℕ) → n ≤ 4096 → 12288 ≤ room → within stage n room ≡ (eqb stage 1 || eqb stage 2)
within_stage stage n room h k = rw (le-leb n 4096 h, le-leb 12288 room k) (and_right (eqb stage 1 || eqb stage 2))
  where
    and_right : (t : Bool) → (t && true) ≡ t
    and_right true = refl
    and_right false = refl

-- within them
pub record Limits (stage n room : ℕ) : Type 0 where
  pub open_stage : (stage ≡ 2 → ⊥) → stage ≡ 1
  pub short : n ≤ 4096
  pub roomy : 12288 ≤ room

pub limits : (stage n room : ℕ) → within stage n room ≡ true → Limits stage n room
limits stage n room e =
    let a = and_true (eqb stage 1 || eqb stage 2) (leb n 4096 && leb 12288 room) e in
    let c = and_true (leb n 4096) (leb 12288 room) a.1 in
    record { open_stage = λ z. go (eqb stage 1) (eqb stage 2) refl refl a.0 z; short = leb-true n 4096 c.0; roomy = leb-true 12288 room c.1 }
  where
    go : (x y : Bool) → eqb stage 1 ≡ x → eqb stage 2 ≡ y → (x || y) ≡ true → (stage ≡ 2 → ⊥) → stage ≡ 1
    go true y f g h z = eqb-true stage 1 f
    go false true f g h z = absurd (z (eqb-true stage 2 g))
    go false false f g h z = clash h

-- ---- the fault that is repeated

pub repeated : (b piece : List ℕ) (room entries : ℕ) → (loaded_of b).stage ≡ 2 → length piece ≤ 4096 → 12288 ≤ room
    → feeding b piece room entries ≡ unread (loaded_of b).number (loaded_of b).place (loaded_of b).second b
repeated b piece room entries e n r =
    let t = (told b 2 e (omega arith)).0 in
    let s = loaded_failed b e in
    let f : fits (failed (loaded_of b).number (loaded_of b).place (loaded_of b).second) ≡ true = ap fits (sym s) ∙ (passed b t).fit in
    feeding_refused b piece room entries (loaded_of b).number (loaded_of b).place (loaded_of b).second t
    (ap (λ (x : State). fed_by x piece room entries) s ∙ (fed_works (failed (loaded_of b).number (loaded_of b).place (loaded_of b).second) piece room entries f refl n r (omega arith)).0
    ∙ ap (refused_by (loaded_of b).number (loaded_of b).place (loaded_of b).second) (sym s))

-- ---- a state at work

module _ (b : List ℕ) (x : Stand) (w : AtWork b x) where
  pub waiting_long : length (take x.waiting (drop 1024 b)) ≡ x.waiting
  waiting_long =
      length-take-le x.waiting (drop 1024 b)
      (rw (length-drop 1024 b, w.long) (omega (arith, w.part, group_most x.plan w.shape)))

  module _ (piece : List ℕ) (room entries : ℕ) where
    pub short_entries : length piece ≤ 4096 → entries < times_needed x.plan ((x.waiting + length piece) / group_size x.plan) → feeding b piece room entries ≡ unread 16 0 0 b
    short_entries n h =
        let e : leb (entries_for (working (work_in b x)) (length piece)) entries ≡ false = rw waiting_long (lt-leb _ entries h) in
        let s : State = working (work_in b x) in
        feeding_refused b piece room entries 16 0 0 w.passes
        (ap (λ (u : State). fed_by u piece room entries) w.says ∙ not_fed s piece room entries
        (last_false (fits s) (leb (length piece) 4096 && leb 12288 room) (leb (entries_for s (length piece)) entries) e)
        ∙ ap (refused_by 16 0 0) (sym w.says))

    module _ (n : length piece ≤ 4096) (r : 12288 ≤ room) (t : times_needed x.plan ((x.waiting + length piece) / group_size x.plan) ≤ entries) where
      fed_on_lem : fed_by (state_at b) piece room entries ≡ fed_on (working (work_in b x)) piece
      fed_on_lem =
          ap (λ (u : State). fed_by u piece room entries) w.says
          ∙ (fed_works (working (work_in b x)) piece room entries w.fit refl n r (rw waiting_long t)).0

      -- "8 when the size is crossed"
      pub crossed : (count : ℕ) → count ≡ x.groups * group_size x.plan + x.waiting → most_bytes < count + length piece → feeding b piece room entries ≡ unread 8 count 0 b
      crossed count c h =
          let k : count_of (work_in b x) ≡ count = ap (λ (m : ℕ). x.groups * group_size x.plan + m) waiting_long ∙ sym c in
          let f : leb (count_of (work_in b x) + length piece) most_bytes ≡ false = rw k (lt-leb (count + length piece) most_bytes h) in
          feeding_refused b piece room entries 8 count 0 w.passes
          (fed_on_lem ∙ rw f (ap₂ (λ (m : ℕ) (u : State). refused_by 8 m 0 u) k (sym w.says)))

      -- else the bytes are fed
      pub fed_bytes : x.groups * group_size x.plan + x.waiting + length piece ≤ most_bytes → feeding b piece room entries ≡ outcome_of (answered (feed_bytes (working (work_in b x)) piece))
      fed_bytes h =
          let k : count_of (work_in b x) ≡ x.groups * group_size x.plan + x.waiting = ap (λ (m : ℕ). x.groups * group_size x.plan + m) waiting_long in
          let f : leb (count_of (work_in b x) + length piece) most_bytes ≡ true = rw k (le-leb _ most_bytes h) in
          let g : fed_on (working (work_in b x)) piece ≡ answered (feed_bytes (working (work_in b x)) piece) = rw f refl in
          feeding_state b piece room entries w.passes ∙ ap outcome_of (fed_on_lem ∙ g)

  -- ---- a piece that fills no group

  part_few : (n : ℕ) → n / group_size x.plan ≡ 0 → n < group_size x.plan
  part_few n e =
      let some : 1 ≤ group_size x.plan = omega (arith, some_words x.plan w.shape) in
      omega (arith, div-add-mod' n (group_size x.plan), ap (λ (k : ℕ). k * group_size x.plan) e, mod-lt n some)

  pub piece_waits : (piece : List ℕ) (m : ℕ) → m ≡ (x.waiting + length piece) / group_size x.plan → m ≡ 0 → Waits b x.waiting (length piece)
  piece_waits piece m q z = record {
    work = work_in b x;
    passes = w.passes;
    says = w.says;
    count = sym waiting_long;
    part = part_few (x.waiting + length piece) (sym q ∙ z);
  }

  pub piece_kept : (piece log times b' : List ℕ) {r : Answer} (m : ℕ) → m ≡ (x.waiting + length piece) / group_size x.plan → m ≡ 0
      → feeding b piece (length log) (length times) ≡ outcome_of (answered (feed_bytes (working (work_in b x)) piece)) → r ≡ refusal 0 0 0
      → b' ≡ state_bytes (kept_in (state_at b) piece) → Leaves (feeding b piece (length log) (length times)) r b' log log times times
  piece_kept piece log times b' {r} m q z f a e =
      let s : State = working (keeps (work_in b x) ((work_in b x).waiting ++ piece)) in
      let h : length (work_in b x).waiting + length piece < group_size x.plan = rw waiting_long (part_few (x.waiting + length piece) (sym q ∙ z)) in
      subst (λ (o : Outcome). Leaves o r b' log log times times) (sym (f ∙ ap (λ (g : Flow). outcome_of (answered g)) (feed_part (work_in b x) piece h)))
      (record { answer = a; state = e ∙ ap (λ (u : State). state_bytes (kept_in u piece)) w.says; log = refl; times = refl })
