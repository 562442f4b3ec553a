-- All events, one after the other.
use Prim.Native.Nat.{ℕ, zero, suc, ◌+◌, ◌*◌, ◌≤◌, ◌<◌, ◌^◌}
use native.Mathlib.Numerals.{add-one}
use native.Mathlib.Omega.{arith}
use mathlib.Core.Bool.{Bool, true, false, cond, ◌&&◌}
use mathlib.Core.Path.{◌≡◌, refl, ap, sym, subst, ◌∙◌}
use mathlib.Core.List.{List, [], ◌∷◌, flat_map}
use lib.ListN.{length, drop, get_or, drop_of_length-le}
use lib.Seq.{drop-cons}
use lib.Dec.{eqb, leb}
use borrow.Author.Tests.{leb-true, eqb-true, eq-eqb}
use Rattle.format.specs.Item.{item_bits}
use Rattle.format.specs.Log.{items, on_no_plan, parsed}
use Rattle.format.specs.Group.{none, unless}
use Rattle.format.specs.Laws.Tests.{and_true}
use Rattle.format.specs.declared.Item.{Item}
use Rattle.log_rules.specs.Items.{items_of}
use Rattle.log_rules.specs.Replay.{Buffer, arrivals, arrive, empty_buffer, events_known, first_mark, in_bounds, leave, replay, unreplayed}
use Rattle.log_rules.specs.Laws.Ahead.{ahead_start}
use Rattle.log_rules.specs.Laws.Faults.{or_none, unless_none}
use Rattle.log_write.specs.Pen.{Wrote}
use Rattle.log_write.proofs.Writing.{wrote_none}
use Rattle.log_buffer.specs.Level.{Holdable}
use Rattle.log_store.specs.declared.State.{State}
use Rattle.log_store.specs.Store.{Bounded, Holds, Turns, buffer_after, rest_after}
use Rattle.log_replay.specs.Run.{Ready, Runs, start_state}

-- ---- the limits that hold where nothing refuses

pub record Limits (events : List ℕ) (capacity : ℕ) (is : List Item) : Type 0 where
  pub few : length events ≤ 65535
  pub small : capacity ≤ 4096
  pub there : arrivals events ≤ length is

pub limits_of : (events : List ℕ) (capacity slots : ℕ) (is : List Item) → unreplayed events capacity slots is ≡ none → Limits events capacity is
limits_of events capacity slots is e =
    let b : in_bounds events capacity slots is ≡ true = unless_none (in_bounds events capacity slots is) 19 0 (or_none (first_mark 0 is) (unless (in_bounds events capacity slots is) 19 0) e).1 in
    let c = and_true (leb (length events) 65535 && (leb 8 capacity && leb capacity 4096) && (leb 1 slots && leb slots 2048) && events_known events) (leb (arrivals events) (length is)) b in
    let few : Bool = leb (length events) 65535 in
    let room : Bool = leb 8 capacity && leb capacity 4096 in
    let group : Bool = leb 1 slots && leb slots 2048 in
    let d = and_true few room (and_true (few && room) group (and_true (few && room && group) (events_known events) c.0).0).0 in
    record {
      few = leb-true (length events) 65535 d.0;
      small = leb-true capacity 4096 (and_true (leb 8 capacity) (leb capacity 4096) d.1).1;
      there = leb-true (arrivals events) (length is) c.1;
    }

-- ---- the loop

replay_step : (capacity slots e : ℕ) (es : List ℕ) (is : List Item) (s : Buffer)
    → replay capacity slots (e ∷ es) is s ≡ replay capacity slots es (rest_after e is) (buffer_after capacity slots e is s)
unfolding replay
replay_step capacity slots e es [] s = refl
replay_step capacity slots e es (i ∷ is) s = go (eqb e 0) (arrive capacity s i) (leave slots s)
  where
    go : (b : Bool) (x y : Buffer) → cond b (replay capacity slots es is x) (replay capacity slots es (i ∷ is) y) ≡ replay capacity slots es (cond b is (i ∷ is)) (cond b x y)
    go true x y = refl
    go false x y = refl

-- an item is there for each that arrives
due_now : (e : ℕ) (es : List ℕ) (rest : List Item) → arrivals (e ∷ es) ≤ length rest → e ≡ 0 → 1 ≤ length rest
unfolding arrivals
due_now e es rest h z = let k : arrivals es + 1 ≤ length rest = rw (eq-eqb e 0 z) at h in omega arith

due_later : (e : ℕ) (es : List ℕ) (rest : List Item) → arrivals (e ∷ es) ≤ length rest → arrivals es ≤ length (rest_after e rest)
unfolding arrivals
due_later e es [] h = go (eqb e 0) h
  where
    go : (b : Bool) → cond b (arrivals es + 1) (arrivals es) ≤ 0 → arrivals es ≤ 0
    go true k = omega arith
    go false k = k
due_later e es (i ∷ rest) h = go (eqb e 0) h
  where
    go : (b : Bool) → cond b (arrivals es + 1) (arrivals es) ≤ length (i ∷ rest) → arrivals es ≤ length (cond b rest (i ∷ rest))
    go true k = omega arith
    go false k = k

pub record Running (log events : List ℕ) (capacity slots : ℕ) (built : List ℕ) (st : State) (i : ℕ) : Type 0 where
  pub rest : List Item
  pub s : Buffer
  pub holds : Holds log rest s built st
  pub same : replay capacity slots events (items_of (parsed on_no_plan log)) empty_buffer ≡ replay capacity slots (drop i events) rest s
  pub due : arrivals (drop i events) ≤ length rest
  pub bounded : Bounded i st

module _ (log events : List ℕ) (capacity slots : ℕ) (r : Ready log events capacity slots) where
  pub limits : Limits events capacity (items_of (parsed on_no_plan log))
  limits = limits_of events capacity slots (items_of (parsed on_no_plan log)) r.2

  pub running_start : (built : List ℕ) → Running log events capacity slots built start_state 0
  unfolding flat_map
  running_start built = record {
    rest = items_of (parsed on_no_plan log);
    s = empty_buffer;
    holds = record { ahead = ahead_start on_no_plan log (items_of (parsed on_no_plan log)) r.0 r.1; level = refl; wrote = wrote_none built };
    same = refl;
    due = limits.there;
    bounded = (omega arith, omega arith, omega arith, omega arith, omega arith);
  }

  module _ {built : List ℕ} {st : State} {i : ℕ} (k : Running log events capacity slots built st i) where
    pub running_more : (built' : List ℕ) (st' : State) → i < length events → Turns log (get_or events i 0) capacity slots built st built' st'
        → Running log events capacity slots built' st' (i + 1)
    running_more built' st' h t =
        let e : ℕ = get_or events i 0 in
        let es : List ℕ = drop (i + 1) events in
        let d : drop i events ≡ e ∷ es = drop-cons events i 0 h ∙ ap (λ (n : ℕ). e ∷ drop n events) (sym (add-one i)) in
        let due : arrivals (e ∷ es) ≤ length k.rest = rw d at k.due in
        record {
          rest = rest_after e k.rest;
          s = buffer_after capacity slots e k.rest k.s;
          holds = t.0 k.rest k.s k.holds (due_now e es k.rest due);
          same = k.same ∙ ap (λ (x : List ℕ). replay capacity slots x k.rest k.s) d ∙ replay_step capacity slots e es k.rest k.s;
          due = due_later e es k.rest due;
          bounded = t.1 i limits.small k.bounded;
        }

    -- small enough for one event more
    pub running_small : i ≤ length events → Holdable st.level × (st.pen.bits < 2 ^ 60)
    running_small l =
        let f = limits.few in
        let b = k.bounded in
        ((b.0, omega (arith, b.1, l, f), omega (arith, b.2, l, f), omega (arith, b.3, l, f)), omega (arith, b.4, l, f))

    pub running_over : i ≤ length events → length events ≤ i → Runs log events capacity slots built st
    unfolding replay
    running_over l h =
        let e : replay capacity slots events (items_of (parsed on_no_plan log)) empty_buffer ≡ k.s =
        k.same ∙ ap (λ (x : List ℕ). replay capacity slots x k.rest k.s) (drop_of_length-le events h) in
        rw e ((k.holds.level, k.holds.wrote), omega (arith, k.bounded.4, l, limits.few))
