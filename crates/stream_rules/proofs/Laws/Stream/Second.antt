-- The second place in the stream (document 02, K8): "In every other answer the second place is 0.", in every call on a state that passes.
use Rattle.std.specs.Prelude.{ℕ, zero, suc, ◌+◌, ◌*◌, ◌/◌, ◌%◌, Bool, true, false, cond, ◌&&◌, ◌||◌, ◌≡◌, refl, List, length, leb, eqb, ltb}
use Rattle.std.proofs.Common.{arith, ne_eqb, eqb-true, leb-true}
use Rattle.format.specs.Plan.{group_words}
use Rattle.format.specs.Group.{Fault, none, found, group_fault}
use Rattle.format.specs.Reader.{Ran, bad_at, ran, run}
use Rattle.format.specs.Read.{Got, got, stopped, finish}
use Rattle.format.specs.Laws.Tests.{and_true}
use Rattle.format.specs.Laws.Second.{Only13, GotOnly, finish_only}
use Rattle.stream_rules.specs.Stream.{slots_of, slots_at, stored_of, moved_fault, Watch, watch, earliest, Carry, Brought, brings, stops, watched, soundly, take_group, unless_waits, closing_items, closing, closing_at, start, group_size, group_bytes, most_bytes, Tale, ending}
use Rattle.stream_rules.specs.Stream.{further, told, stream_groups, streamed, second_fits, fits, State, closed, failed, working, Working, count_of, number_of, second_in, feed_bytes, answered, refused_by, Call, feedable, fed_on, fed_by, closed_with, close_on, closed_by, is_open_state}
use Rattle.stream_rules.proofs.Laws.Stream.Kept.{feed_fits}
use Rattle.format.specs.declared.Kind.{Kind}
use Rattle.format.specs.declared.Item.{Item}
use Rattle.format.specs.declared.Plan.{Plan}

-- ---- one group, and the end

abbrev BroughtOnly : Brought → Type 0
BroughtOnly (brings is x) = Unit {0}
BroughtOnly (stops k q second) = Only13 k second

watched_only : (p : Plan) (r : Ran) (y : Watch) → BroughtOnly (watched p r y)
watched_only p (bad_at q second) y = λ z. absurd (z refl)
watched_only p (ran is h q) y = go (eqb y.shown 0)
  where
    go : (b : Bool) → BroughtOnly (cond b (brings is (record { held = h; since = q; waits = y.waits })) (stops 15 (stored_of p y.shown) 0))
    go true = tt
    go false = λ z. refl

soundly_only : (f : Fault) (b : Brought) → BroughtOnly b → BroughtOnly (soundly f b)
soundly_only none b o = o
soundly_only (found n q) b o = λ z. refl

take_only : (p : Plan) (ks : List Kind) (v : List ℕ) (g : ℕ) (x : Carry) → BroughtOnly (take_group p ks v g x)
unfolding take_group
take_only p ks v g x =
    soundly_only (moved_fault (g * group_words p) (group_fault p v 0)) _
    (watched_only p (run ks p.parity (slots_at p v (g * group_words p)) x.held x.since) (watch ks p.parity (slots_of p v g) (record { waits = x.waits; shown = 0 })))

items_only : (p : Plan) (x : Carry) (g : Got) → GotOnly g → GotOnly (closing_items p x g)
items_only p x (stopped k q second) o = o
items_only p x (got is) o = go (eqb (earliest x.waits) 0)
  where
    go : (b : Bool) → GotOnly (cond b (got is) (stopped 15 (stored_of p (earliest x.waits)) 0))
    go true = tt
    go false = λ z. refl

closing_only : (p : Plan) (part count : ℕ) (x : Carry) → GotOnly (closing_at p part count x)
unfolding closing
closing_only p part count x = go (eqb part 0)
  where
    go : (b : Bool) → GotOnly (cond b (closing_items p x (finish x.held x.since)) (stopped 8 count 0))
    go true = items_only p x (finish x.held x.since) (finish_only x.held x.since)
    go false = λ z. refl

-- ---- what all cuttings hand out

abbrev TaleOnly : Tale → Type 0
TaleOnly t = Only13 t.number t.second

ending_only : (g : Got) → GotOnly g → TaleOnly (ending g)
ending_only (got is) o = λ z. refl
ending_only (stopped k q second) o = o

groups_only : (p : Plan) (ks : List Kind) (c : List ℕ) (n g : ℕ) (x : Carry) → TaleOnly (stream_groups p ks c n g x)
unfolding stream_groups
groups_only p ks c zero g x = ending_only (closing_at p (length c % group_size p) (length c) x) (closing_only p (length c % group_size p) (length c) x)
groups_only p ks c (suc n) g x = go (take_group p ks (group_bytes p c g) g x) (take_only p ks (group_bytes p c g) g x) (λ x'. groups_only p ks c n (g + 1) x')
  where
    go : (b : Brought) → BroughtOnly b → ((x' : Carry) → TaleOnly (stream_groups p ks c n (g + 1) x')) → TaleOnly (told b (λ x'. stream_groups p ks c n (g + 1) x'))
    go (stops k q second) o ih = o
    go (brings is x') o ih = ih x'

pub stream_only : (p : Plan) (ks : List Kind) (c : List ℕ) → Only13 (streamed p ks c).number (streamed p ks c).second
unfolding streamed
stream_only p ks c = groups_only p ks c (length c / group_size p) 0 start

-- ---- the calls

failed_only : (k q second : ℕ) → fits (failed k q second) ≡ true → Only13 k second
unfolding fits
failed_only k q second e z =
    let f : second_fits k second ≡ true = (and_true ((leb 9 k && leb k 13 || eqb k 15) && ltb (3 * q) most_bytes) (second_fits k second) e).1 in
    eqb-true second 0 (rw (ne_eqb k 13 z) at f)

state_only : (s : State) → fits s ≡ true → Only13 (number_of s) (second_in s)
state_only closed e = λ z. refl
state_only (failed k q second) e = failed_only k q second e
state_only (working w) e = λ z. refl

abbrev CallOnly : Call → Type 0
CallOnly a = Only13 a.number a.second

on_only : (s : State) (piece : List ℕ) → fits s ≡ true → CallOnly (fed_on s piece)
on_only closed piece e = λ z. refl
on_only (failed k q second) piece e = failed_only k q second e
on_only (working w) piece e = go (leb (count_of w + length piece) most_bytes) refl
  where
    go : (b : Bool) → leb (count_of w + length piece) most_bytes ≡ b → CallOnly (cond b (answered (feed_bytes (working w) piece)) (refused_by 8 (count_of w) 0 (working w)))
    go true t = state_only (feed_bytes (working w) piece).state (feed_fits piece (working w) e (leb-true (count_of w + length piece) most_bytes t))
    go false t = λ z. refl

pub fed_only : (s : State) (piece : List ℕ) (log_room entries : ℕ) → fits s ≡ true → CallOnly (fed_by s piece log_room entries)
unfolding fed_by
fed_only s piece log_room entries e = go (feedable s (length piece) log_room entries)
  where
    go : (b : Bool) → CallOnly (cond b (fed_on s piece) (refused_by 16 0 0 s))
    go true = on_only s piece e
    go false = λ z. refl

with_only : (w : Working) (g : Got) → GotOnly g → CallOnly (closed_with w g)
with_only w (got is) o = λ z. refl
with_only w (stopped k q second) o = o

close_on_only : (s : State) → fits s ≡ true → CallOnly (close_on s)
close_on_only closed e = λ z. refl
close_on_only (failed k q second) e = failed_only k q second e
close_on_only (working w) e =
    with_only w (closing_at w.plan (length w.waiting) (count_of w) w.carry) (closing_only w.plan (length w.waiting) (count_of w) w.carry)

pub closed_only : (s : State) (log_room : ℕ) → fits s ≡ true → CallOnly (closed_by s log_room)
unfolding closed_by
closed_only s log_room e = go ((is_open_state s && fits s) && leb 12288 log_room)
  where
    go : (b : Bool) → CallOnly (cond b (close_on s) (refused_by 16 0 0 s))
    go true = close_on_only s e
    go false = λ z. refl
