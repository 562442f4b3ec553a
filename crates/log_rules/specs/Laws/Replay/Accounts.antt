-- What a replay that gives a log went by, and the numbers of one that does not (document 02, K13).
use Rattle.std.specs.Prelude.{ℕ, ◌+◌, ◌≤◌, Bool, true, false, cond, ◌&&◌, ◌≡◌, refl, ◌⊎◌, List, [], ◌∷◌, length, take, drop, leb}
use Rattle.std.proofs.Common.{arith, ap, ap₂, sym, ◌∙◌, inl, inr, take_at, leb-true}
use Rattle.format.specs.Lists.{nil, Bytes}
use Rattle.format.specs.Item.{item_bits}
use Rattle.format.specs.Log.{Parsed, items, fault, parsed, on_no_plan, log_of}
use Rattle.format.specs.Group.{Fault, none, found, or_else, unless}
use Rattle.format.specs.Laws.Tests.{and_true}
use Rattle.format.specs.Laws.Log.Back.{log_back}
use Rattle.format.specs.Laws.Log.Forth.{log_forth}
use Rattle.log_rules.specs.Replay.{is_mark, Buffer, empty_buffer, replay, arrivals, first_mark, in_bounds}
use Rattle.log_rules.specs.Replay.{Replay, stores, denies, stores_in, unreplayed, if_replayed, replay_items, replay_parsed, replayed, Replays, ReplayOf}
use Rattle.log_rules.specs.Laws.Faults.{log_refused, not_none, or_none, unless_none}
use Rattle.log_rules.specs.Laws.Replay.Conserved.{arrivals_few, none_marked, nothing_yet, replay_conserves, replay_logs}
use Rattle.log_rules.specs.declared.Replayed.{Replayed}
use Rattle.format.specs.declared.Item.{Item}

-- ---- the call

no_stores : {A : Type 0} {n q : ℕ} {log : List ℕ} {a b c : ℕ} → denies n q ≡ stores log a b c → A
no_stores e = let z : ◌≡◌ {A = ℕ} 0 1 = cc in absurd (omega arith)

same_stores : {log log' : List ℕ} {a b c a' b' c' : ℕ} → stores log a b c ≡ stores log' a' b' c' → (log ≡ log') × (a ≡ a') × (b ≡ b') × (c ≡ c')
same_stores e = (cc, cc, cc, cc)

parsed_of : (r : Parsed) (events : List ℕ) (capacity slots room : ℕ) (out : List ℕ) (sent lost held : ℕ)
    → replay_parsed events capacity slots room r ≡ stores out sent lost held → (is : List Item) × (r ≡ items is)
parsed_of (items is) events capacity slots room out sent lost held e = (is, refl)
parsed_of (fault n q) events capacity slots room out sent lost held e = no_stores e

replayed_items : (log events : List ℕ) (capacity slots room : ℕ) (is : List Item) (out : List ℕ) (sent lost held : ℕ) → Bytes log → parsed on_no_plan log ≡ items is
    → replay_items events capacity slots room is ≡ stores out sent lost held → ReplayOf log events capacity slots out sent lost held
replayed_items log events capacity slots room is out sent lost held bytes l e = go (unreplayed events capacity slots is) refl e
  where
    s : Buffer
    s = replay capacity slots events is empty_buffer

    fits : (b : Bool) → (leb (length (log_of s.stored)) 32768 && leb (length (log_of s.stored)) room) ≡ b
        → cond b (stores (log_of s.stored) s.sent s.lost s.held) (denies 6 (length (log_of s.stored))) ≡ stores out sent lost held
        → unreplayed events capacity slots is ≡ none → ReplayOf log events capacity slots out sent lost held
    fits true t z n =
        let a = or_none _ _ n in
        let b : in_bounds events capacity slots is ≡ true = unless_none (in_bounds events capacity slots is) 19 0 a.1 in
        let c = and_true _ (leb (arrivals events) (length is)) b in
        let f : arrivals events ≤ length is = leb-true _ _ c.1 in
        let d = and_true _ _ (and_true _ _ (and_true _ _ c.0).0).0 in
        let m : length events ≤ 65535 = leb-true _ _ d.0 in
        let k = replay_conserves capacity slots events is (none_marked 0 is a.0) f 0 empty_buffer (nothing_yet capacity) in
        let w = (log_forth on_no_plan log is bytes l).1 in
        let g = replay_logs capacity slots events is w f empty_buffer (record { logged = nil; bus_low = omega arith; few = omega (arith, arrivals_few events) }) in
        let q = same_stores z in
        record {
          its = is;
          old = l;
          end = s;
          run = refl;
          is_log = q.0;
          parses = rw q.0 at (log_back on_no_plan s.stored g.logged (leb-true _ _ (and_true _ _ t).0));
          counts = (q.1, q.2, q.3);
          all_items = omega (arith, k.all_items, q.2);
          all_losses = k.all_losses ∙ q.2;
          all_words = k.all_words ∙ ap₂ ◌+◌ q.1 q.3;
          room = omega (arith, k.room, q.3);
        }
    fits false t z n = no_stores z

    go : (f : Fault) → unreplayed events capacity slots is ≡ f → if_replayed f (stores_in room s) ≡ stores out sent lost held → ReplayOf log events capacity slots out sent lost held
    go none n z = fits (leb (length (log_of s.stored)) 32768 && leb (length (log_of s.stored)) room) refl z n
    go (found k q) n z = no_stores z

pub replay_by : (log events : List ℕ) (capacity slots room : ℕ) (out : List ℕ) (sent lost held : ℕ) → Bytes log
    → replayed log events capacity slots room ≡ stores out sent lost held → ReplayOf log events capacity slots out sent lost held
unfolding replayed
replay_by log events capacity slots room out sent lost held b e =
    let r = parsed_of (parsed on_no_plan log) events capacity slots room out sent lost held e in
    replayed_items log events capacity slots room r.0 out sent lost held b r.1 (rw r.1 at e)

-- ---- what is answered

mark_number : (p : ℕ) (is : List Item) (n q : ℕ) → first_mark p is ≡ found n q → n ≡ 19
unfolding first_mark
mark_number p [] n q e = not_none (sym e)
mark_number p (i ∷ is) n q e = go (is_mark i) e (mark_number (p + length (item_bits i)) is n q)
  where
    go : (b : Bool) → cond b (found 19 p) (first_mark (p + length (item_bits i)) is) ≡ found n q → (first_mark (p + length (item_bits i)) is ≡ found n q → n ≡ 19) → n ≡ 19
    go true z ih = cc
    go false z ih = ih z

items_number : (events : List ℕ) (capacity slots room : ℕ) (is : List Item) (n q : ℕ) → replay_items events capacity slots room is ≡ denies n q → (n ≡ 19) ⊎ (n ≡ 6)
items_number events capacity slots room is n q e = go (first_mark 0 is) refl (in_bounds events capacity slots is) e
  where
    s : Buffer
    s = replay capacity slots events is empty_buffer

    number : {m p : ℕ} → denies m p ≡ denies n q → n ≡ m
    number z = cc

    fits : (b : Bool) → cond b (stores (log_of s.stored) s.sent s.lost s.held) (denies 6 (length (log_of s.stored))) ≡ denies n q → (n ≡ 19) ⊎ (n ≡ 6)
    fits true z = no_stores (sym z)
    fits false z = inr (number z)

    go : (f : Fault) → first_mark 0 is ≡ f → (b : Bool) → if_replayed (or_else f (unless b 19 0)) (stores_in room s) ≡ denies n q → (n ≡ 19) ⊎ (n ≡ 6)
    go none g true z = fits (leb (length (log_of s.stored)) 32768 && leb (length (log_of s.stored)) room) z
    go none g false z = inl (number z)
    go (found m p) g b z = inl (number z ∙ mark_number 0 is m p g)

denied_number : (log events : List ℕ) (capacity slots room n q : ℕ) → replayed log events capacity slots room ≡ denies n q → 1 ≤ n
unfolding replayed
denied_number log events capacity slots room n q e = go (parsed on_no_plan log) refl e
  where
    number : {m p : ℕ} → denies m p ≡ denies n q → n ≡ m
    number z = cc

    one : (n ≡ 19) ⊎ (n ≡ 6) → 1 ≤ n
    one (inl z) = omega (arith, z)
    one (inr z) = omega (arith, z)

    go : (r : Parsed) → parsed on_no_plan log ≡ r → replay_parsed events capacity slots room r ≡ denies n q → 1 ≤ n
    go (items is) g z = one (items_number events capacity slots room is n q z)
    go (fault m p) g z = omega (arith, number z, log_refused log m p g)

module _ (log events : List ℕ) (capacity slots : ℕ) (r : Replayed) (out out' : List ℕ) where
  pub refused_writes_nothing : Replays (replayed log events capacity slots (length out)) r out out' → (r.number ≡ 0 → ⊥) → out' ≡ out
  refused_writes_nothing a n = go (replayed log events capacity slots (length out)) a
    where
      go : (m : Replay) → Replays m r out out' → out' ≡ out
      go (stores new sent lost held) b = absurd (n (ap (λ (x : Replayed). x.number) b.0))
      go (denies k q) b = b.1

  pub number_accounts : Bytes log → Replays (replayed log events capacity slots (length out)) r out out' → r.number ≡ 0
      → ReplayOf log events capacity slots (take r.bytes out') r.sent r.lost r.held
  number_accounts bytes a z = go (replayed log events capacity slots (length out)) refl a
    where
      go : (m : Replay) → replayed log events capacity slots (length out) ≡ m → Replays m r out out'
          → ReplayOf log events capacity slots (take r.bytes out') r.sent r.lost r.held
      go (stores new sent lost held) e b =
          rw (b.0, b.1, take_at new (drop (length new) out) (length new) refl) (replay_by log events capacity slots (length out) new sent lost held bytes e)
      go (denies k q) e b =
          let y : k ≡ 0 = sym (ap (λ (x : Replayed). x.number) b.0) ∙ z in
          absurd (omega (arith, y, denied_number log events capacity slots (length out) k q e))
