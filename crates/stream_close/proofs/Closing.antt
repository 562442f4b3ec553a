-- The close.
use Prim.Native.Nat.{ℕ, ◌+◌, ◌*◌, ◌≤◌, ◌<◌}
use native.Mathlib.Omega.{arith}
use mathlib.Core.Bool.{Bool, true, false, cond, ◌&&◌}
use mathlib.Core.Path.{◌≡◌, refl, ap, ap₂, sym, subst, ◌∙◌}
use mathlib.Core.List.{List, []}
use lib.ListN.{length}
use lib.Dec.{eqb, leb}
use borrow.Author.Tests.{eq-eqb, eqb-false, eqb-true, ne_eqb}
use Rattle.format.specs.Answer.{over, refusal}
use Rattle.format.specs.Read.{Got, got, stopped}
use Rattle.format.specs.Laws.Lists.{length_list}
use Rattle.format.specs.declared.Answer.{Answer}
use Rattle.stream_group.specs.Took.{carried}
use Rattle.stream_rules.specs.Stream as rules
use Rattle.stream_rules.specs.Stream.{Call, State, Working, close_on, closed, closed_by, closed_with, closing_at, count_of, failed, fits, group_size, is_open_state, refused_by, working}
use Rattle.stream_rules.specs.Laws.Stream.Fits.{waits_ok}
use Rattle.stream_rules.proofs.Laws.Stream.Kept.{close_works}
use Rattle.stream_rules.proofs.Laws.Stream.Room.{close_few}
use Rattle.stream_state.specs.AtWork.{AtWork, table_at, work_in}
use Rattle.stream_state.specs.Layout.{is_state, number_at, state_at, state_bytes}
use Rattle.stream_state.specs.Laws.Bytes.{bytes_state_back, passed}
use Rattle.stream_state.specs.Laws.Loaded.{loaded_failed, told}
use Rattle.stream_state.specs.Stand.{loaded_as, loaded_of}
use Rattle.stream_state.specs.declared.Loaded.{Loaded}
use Rattle.stream_state.specs.declared.Stand.{Stand}
use Rattle.stream_end.specs.End.{Ends, Whole, bits_left, end_answer, end_bytes}
use Rattle.stream_end.proofs.Closing.{earliest_ok}
use Rattle.stream_calls.specs.Calls.{Outcome, closing, outcome_of, unread, within}
use Rattle.stream_calls.proofs.Refused.{loaded_is, waiting_long}
use Rattle.log_write.specs.declared.Pen.{Pen}

closing_none : (b : List ℕ) (room : ℕ) → is_state b ≡ false → closing b room ≡ unread 16 0 0 b
unfolding closing
closing_none b room e = rw e refl

closing_state : (b : List ℕ) (room : ℕ) → is_state b ≡ true → closing b room ≡ outcome_of (closed_by (state_at b) room)
unfolding closing
closing_state b room e = rw e refl

-- ---- 16

not_closed : (s : State) (room : ℕ) → ((is_open_state s && fits s) && leb 12288 room) ≡ false → closed_by s room ≡ refused_by 16 0 0 s
unfolding closed_by
not_closed s room e = rw e refl

right_false : (x y : Bool) → y ≡ false → (x && y) ≡ false
right_false true y e = e
right_false false y e = refl

beyond : (s : State) (room : ℕ) → within (loaded_as s).stage 0 room ≡ false → ((is_open_state s && fits s) && leb 12288 room) ≡ false
beyond closed room e = refl
beyond (failed k q second) room e = right_false (fits (failed k q second)) (leb 12288 room) e
beyond (working w) room e = right_false (fits (working w)) (leb 12288 room) e

pub not_closable : (b : List ℕ) (room : ℕ) → within (loaded_of b).stage 0 room ≡ false → closing b room ≡ unread 16 0 0 b
not_closable b room e = go (is_state b) refl
  where
    go : (t : Bool) → is_state b ≡ t → closing b room ≡ unread 16 0 0 b
    go false f = closing_none b room f
    go true f =
        let g : within (loaded_as (state_at b)).stage 0 room ≡ false = ap (λ (x : Loaded). within x.stage 0 room) (sym (loaded_is b f)) ∙ e in
        closing_state b room f ∙ ap outcome_of (not_closed (state_at b) room (beyond (state_at b) room g)) ∙ ap (unread 16 0 0) (bytes_state_back b f)

-- ---- an open state

close_on_lem : (b : List ℕ) (room : ℕ) → is_state b ≡ true → (s : State) → state_at b ≡ s → is_open_state s ≡ true → 12288 ≤ room → closing b room ≡ outcome_of (close_on s)
close_on_lem b room e s says o r =
    closing_state b room e ∙ ap outcome_of (ap (λ (u : State). closed_by u room) says ∙ (close_works s room (ap fits (sym says) ∙ (passed b e).fit) o r).0)

-- it is closed then
shut : (s : State) → (close_on s).state ≡ closed
shut closed = refl
shut (failed k q second) = refl
shut (working w) = go (closing_at w.plan (length w.waiting) (count_of w) w.carry)
  where
    go : (g : Got) → (closed_with w g).state ≡ closed
    go (got is) = refl
    go (stopped k q second) = refl

open_state : (s : State) (stage : ℕ) → (loaded_as s).stage ≡ stage → ((stage ≡ 2 → ⊥) → stage ≡ 1) → is_open_state s ≡ true
open_state closed stage e h = absurd (omega (arith, h (λ z. omega (arith, e, z)), e))
open_state (failed k q second) stage e h = refl
open_state (working w) stage e h = refl

few_stage : (stage : ℕ) → ((stage ≡ 2 → ⊥) → stage ≡ 1) → stage < 3
few_stage stage h = go (eqb stage 2) refl
  where
    go : (t : Bool) → eqb stage 2 ≡ t → stage < 3
    go true e = omega (arith, eqb-true stage 2 e)
    go false e = omega (arith, h (eqb-false stage 2 e))

pub shut_state : (b : List ℕ) (room stage : ℕ) → (loaded_of b).stage ≡ stage → ((stage ≡ 2 → ⊥) → stage ≡ 1) → 12288 ≤ room → (closing b room).state ≡ state_bytes closed
shut_state b room stage e h r =
    let t = told b stage e (few_stage stage h) in
    let s : State = state_at b in
    let o : is_open_state s ≡ true = open_state s stage (ap (λ (x : Loaded). x.stage) (sym t.1) ∙ e) h in
    ap (λ (x : Outcome). x.state) (close_on_lem b room t.0 s refl o r) ∙ ap state_bytes (shut s)

-- the bytes are a state, then
pub open_long : (b : List ℕ) (stage : ℕ) → (loaded_of b).stage ≡ stage → ((stage ≡ 2 → ⊥) → stage ≡ 1) → length b ≡ 7168
open_long b stage e h = (passed b (told b stage e (few_stage stage h)).0).long

-- ---- the fault that is repeated

pub shut_failed : (b : List ℕ) (log : List ℕ) {r : Answer} → (loaded_of b).stage ≡ 2 → 12288 ≤ length log → r ≡ refusal (loaded_of b).number (loaded_of b).place (loaded_of b).second
    → (r ≡ (closing b (length log)).answer) × (log ≡ over (closing b (length log)).log log)
shut_failed b log e room a =
    let t = (told b 2 e (omega arith)).0 in
    let c = close_on_lem b (length log) t (failed (loaded_of b).number (loaded_of b).place (loaded_of b).second) (loaded_failed b e) refl room in
    rw c (a, refl)

-- ---- a state at work

module _ (b : List ℕ) (x : Stand) (w : AtWork b x) (log : List ℕ) (room : 12288 ≤ length log) where
  abbrev pen : Pen
  pen = record { bits = x.left; last = x.last }

  on : closing b (length log) ≡ outcome_of (close_on (working (work_in b x)))
  on = close_on_lem b (length log) w.passes (working (work_in b x)) w.says refl room

  -- a part of a group waits
  pub shut_part : {r : Answer} (count : ℕ) → (x.waiting ≡ 0 → ⊥) → count ≡ x.groups * group_size x.plan + x.waiting → r ≡ refusal 8 count 0
      → (r ≡ (closing b (length log)).answer) × (log ≡ over (closing b (length log)).log log)
  shut_part count z c a =
      let k : count_of (work_in b x) ≡ count = ap (λ (m : ℕ). x.groups * group_size x.plan + m) (waiting_long b x w) ∙ sym c in
      let n : eqb (length (work_in b x).waiting) 0 ≡ false = ne_eqb (length (work_in b x).waiting) 0 (λ e. z (sym (waiting_long b x w) ∙ e)) in
      let g : close_on (working (work_in b x)) ≡ refused_by 8 count 0 closed = rw (n, k) refl in
      rw (on ∙ ap outcome_of g) (a, refl)

  -- none does
  module _ (z : x.waiting ≡ 0) where
    abbrev end : Got
    end = rules.closing x.plan (carried x.held x.since (table_at b))

    whole : close_on (working (work_in b x)) ≡ closed_with (work_in b x) end
    whole =
        let n : eqb (length (work_in b x).waiting) 0 ≡ true = eq-eqb (length (work_in b x).waiting) 0 (waiting_long b x w ∙ z) in
        rw n refl

    given : (g : Got) → ((outcome_of (closed_with (work_in b x) g)).answer ≡ end_answer (bits_left pen) g) × ((outcome_of (closed_with (work_in b x) g)).log ≡ end_bytes (bits_left pen) g)
    given (got is) = (refl, refl)
    given (stopped k q second) = (refl, refl)

    pub shut_whole : (table : List ℕ) → table ≡ table_at b → Whole x.plan x.groups x.held x.since pen table log
    shut_whole table t =
        rw t (record {
          shape = w.shape;
          sane = w.sane;
          bits = w.left;
          long = length_list (number_at b) 36 64;
          waits = earliest_ok _ _ x.groups 0 (table_at b) (waits_ok _ _ x.groups 0 (table_at b) w.waits);
          size = omega (arith, w.count);
          few = subst (λ (l : List ℕ). length l ≤ 7) (ap (λ (c : Call). c.log) whole ∙ (given end).1) (close_few (work_in b x) w.fit);
          room = omega (arith, room);
        })

    pub shut_ends : {r : Answer} (table : List ℕ) {log' : List ℕ} → table ≡ table_at b → Ends x.plan x.held x.since pen table r log log'
        → (r ≡ (closing b (length log)).answer) × (log' ≡ over (closing b (length log)).log log)
    shut_ends {r} table {log'} t f =
        let e : closing b (length log) ≡ outcome_of (closed_with (work_in b x) end) = on ∙ ap outcome_of whole in
        let h : Ends x.plan x.held x.since pen (table_at b) r log log' = subst (λ (u : List ℕ). Ends x.plan x.held x.since pen u r log log') t f in
        (h.0 ∙ sym (given end).0 ∙ ap (λ (o : Outcome). o.answer) (sym e), h.1 ∙ ap (λ (l : List ℕ). over l log) (sym (given end).1 ∙ ap (λ (o : Outcome). o.log) (sym e)))
