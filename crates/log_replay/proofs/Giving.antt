-- Number, log and counts: what is answered.
use Prim.Native.Nat.{ℕ, ◌+◌, ◌≤◌, ◌<◌}
use native.Mathlib.Omega.{arith}
use mathlib.Core.Bool.{Bool, true, false, cond, ◌&&◌}
use mathlib.Core.Path.{◌≡◌, refl, ap, ap₂, sym, ◌∙◌}
use mathlib.Core.List.{List, ◌++◌, flat_map}
use lib.ListN.{length, take, drop}
use lib.Dec.{leb, ltb}
use borrow.Author.Tests.{leb-true, ltb-true, ltb-false}
use Rattle.format.specs.Log.{Parsed, items, fault, on_no_plan, parsed, log_of}
use Rattle.format.specs.Group.{Fault, none, found}
use Rattle.format.specs.Laws.Tests.{and_true}
use Rattle.log_rules.specs.declared.Replayed.{Replayed}
use Rattle.log_rules.specs.Items.{items_of}
use Rattle.log_rules.specs.Replay.{Buffer, Replay, Replays, denies, empty_buffer, if_replayed, replay, replay_answer, replay_parsed, replayed, stores_in, unreplayed}
use Rattle.log_rules.specs.Laws.Faults.{log_short, not_none}
use Rattle.log_write.specs.declared.Pen.{Pen}
use Rattle.log_write.specs.Pen.{closed_in, closed_size}
use Rattle.log_write.proofs.Writing.{closed_size_lem, closed_log}
use Rattle.log_buffer.specs.declared.Level.{Level}
use Rattle.log_buffer.specs.Level.{level_of}
use Rattle.log_events.specs.Refused.{refused_by}
use Rattle.log_replay.specs.Run.{EndsAs, Ready, given}

-- the array has room for every log that is not refused
pub enough : (bytes room array : ℕ) → (leb bytes 32768 && leb bytes room) ≡ true → (array < 32776 → room + 8 ≤ array) → (bytes ≤ room) × (bytes + 7 ≤ array)
enough bytes room array t f = (g, go (ltb array 32776) refl)
  where
    both : (leb bytes 32768 ≡ true) × (leb bytes room ≡ true)
    both = and_true (leb bytes 32768) (leb bytes room) t

    h : bytes ≤ 32768
    h = leb-true bytes 32768 both.0

    g : bytes ≤ room
    g = leb-true bytes room both.1

    go : (b : Bool) → ltb array 32776 ≡ b → bytes + 7 ≤ array
    go true e = omega (arith, f (ltb-true array 32776 e), g)
    go false e = omega (arith, ltb-false array 32776 e, h)

-- and as much where the replay has written
pub enough_still : (room array array' : ℕ) → array' ≡ array → (array < 32776 → room + 8 ≤ array) → array' < 32776 → room + 8 ≤ array'
enough_still room array array' e f h = omega (arith, e, f (omega (arith, e, h)))

-- ---- 6, or the log and the counts

module _ (s : Buffer) (built : List ℕ) (level : Level) (pen : Pen) (e : EndsAs s built level pen) (bytes : ℕ) (z : bytes ≡ closed_size pen) (out : List ℕ) (r : Replayed) where
  size : bytes ≡ length (log_of s.stored)
  size = z ∙ closed_size_lem s.stored built pen e.1

  abbrev fits : Bool
  fits = leb bytes 32768 && leb bytes (length out)

  pub gives_short : fits ≡ false → r ≡ replay_answer (denies 6 bytes) → Replays (stores_in (length out) s) r out out
  gives_short h f = rw (← size, h) (f, refl)

  pub gives_whole : (built' out' : List ℕ) → fits ≡ true → bytes + 7 ≤ length built → built' ≡ closed_in built pen
      → (r ≡ given bytes level) × (out' ≡ take bytes built' ++ drop bytes out) → Replays (stores_in (length out) s) r out out'
  gives_whole built' out' h k c o =
      let log : List ℕ = log_of s.stored in
      let enough : length log + 7 ≤ length built = omega (arith, size, k) in
      let first : take bytes built' ≡ log = ap₂ (λ (n : ℕ) (b : List ℕ). take n b) size c ∙ closed_log s.stored built pen e.1 enough in
      rw (← size, h) (o.0 ∙ ap₂ given size e.0, o.1 ∙ ap₂ (λ (l : List ℕ) (n : ℕ). l ++ drop n out) first size)

-- ---- what refuses

ready_parsed : (log events : List ℕ) (capacity slots : ℕ) (p : Parsed) → parsed on_no_plan log ≡ p → refused_by events capacity slots p ≡ none
    → (length log ≤ 32768) × (p ≡ items (items_of p)) × (unreplayed events capacity slots (items_of p) ≡ none)
ready_parsed log events capacity slots (items is) e n = (log_short log is e, refl, n)
ready_parsed log events capacity slots (fault k q) e n = not_none n

pub ready_of : (log events : List ℕ) (capacity slots : ℕ) → refused_by events capacity slots (parsed on_no_plan log) ≡ none → Ready log events capacity slots
ready_of log events capacity slots n = ready_parsed log events capacity slots (parsed on_no_plan log) refl n

pub replayed_ready : (log events : List ℕ) (capacity slots room : ℕ) → Ready log events capacity slots
    → replayed log events capacity slots room ≡ stores_in room (replay capacity slots events (items_of (parsed on_no_plan log)) empty_buffer)
unfolding replayed
replayed_ready log events capacity slots room r =
    let run : Fault → Replay = λ n. if_replayed n (stores_in room (replay capacity slots events (items_of (parsed on_no_plan log)) empty_buffer)) in
    ap (replay_parsed events capacity slots room) r.1 ∙ ap run r.2

pub replayed_refused : (log events : List ℕ) (capacity slots room n p : ℕ) → refused_by events capacity slots (parsed on_no_plan log) ≡ found n p
    → replayed log events capacity slots room ≡ denies n p
unfolding replayed
replayed_refused log events capacity slots room n p e = go (parsed on_no_plan log) e
  where
    same : (m q : ℕ) → found m q ≡ found n p → denies m q ≡ denies n p
    same m q z = cc

    go : (r : Parsed) → refused_by events capacity slots r ≡ found n p → replay_parsed events capacity slots room r ≡ denies n p
    go (items is) z = ap (λ (f : Fault). if_replayed f (stores_in room (replay capacity slots events is empty_buffer))) z
    go (fault m q) z = same m q z
