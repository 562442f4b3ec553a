-- "All cuttings of one capture within that, no call refused by 16, hand out the same bytes and times and end alike" (document 02, K4).
use Rattle.std.specs.Prelude.{ℕ, zero, suc, ◌+◌, ◌*◌, ◌/◌, ◌%◌, ◌≤◌, ◌<◌, Bool, true, false, cond, ◌&&◌, ◌≡◌, refl, length, leb}
use Rattle.std.proofs.Common.{arith, ap, sym, ◌∙◌, ap₂, length-append, le-leb}
use mathlib.Core.List.{List, [], ◌∷◌, ◌++◌, flat_map, append-nil}
use Rattle.format.specs.Plan.{legal}
use Rattle.format.specs.Read.{Got, got, stopped}
use Rattle.stream_rules.specs.Stream.{State, closed, failed, working, Working, Flow, still, flowed, feed_bytes, Call, refused_by, answered, feedable, is_open_state, fits, fed_on, fed_by, closed_with, close_on, closed_by, closing_at, count_of, most_bytes, opened, fresh, Streamed, streamed}
use Rattle.format.specs.Laws.Legal.{legal_is}
use Rattle.stream_rules.specs.Laws.Stream.Feed.{feed_append, feed_failed, feed_count, count_in}
use Rattle.stream_rules.proofs.Laws.Stream.Groups.{ended, streamed_fed}
use Rattle.format.specs.declared.Kind.{Kind}
use Rattle.format.specs.declared.Plan.{Plan}

-- one feeding call: the piece, and what is lent
pub record Cut : Type 0 where
  pub bytes : List ℕ
  pub log_room : ℕ
  pub entries : ℕ

-- the capture
unfoldable pub capture_of : List Cut → List ℕ
capture_of [] = []
capture_of (x ∷ xs) = x.bytes ++ capture_of xs

abbrev pub fed_with : State → Cut → Call
fed_with s x = fed_by s x.bytes x.log_room x.entries

abbrev pub flow_of : Call → Flow
flow_of a = record { log = a.log; times = a.times; state = a.state }

-- the calls one after the other
unfoldable pub feed_all : State → List Cut → Flow
feed_all s [] = still s
feed_all s (x ∷ xs) = flowed (flow_of (fed_with s x)) (feed_all (fed_with s x).state xs)

-- "no call refused by 16"
abbrev pub NoneRefused : State → List Cut → Type 0
NoneRefused s [] = Unit {0}
NoneRefused s (x ∷ xs) = ((fed_with s x).number ≡ 16 → ⊥) × NoneRefused (fed_with s x).state xs

-- a call that is not refused by 16, within the size, feeds its bytes
one_call : (s : State) (x : Cut) → count_in s + length x.bytes ≤ most_bytes → ((fed_with s x).number ≡ 16 → ⊥) → flow_of (fed_with s x) ≡ feed_bytes s x.bytes
unfolding fed_by
one_call s x small n = go (feedable s (length x.bytes) x.log_room x.entries) refl n
  where
    on : (s : State) → is_open_state s ≡ true → count_in s + length x.bytes ≤ most_bytes → flow_of (fed_on s x.bytes) ≡ feed_bytes s x.bytes
    on closed t m = absurd (let z : ◌≡◌ {A = ℕ} 0 1 = ap (λ (b : Bool). cond b 1 0) t in omega arith)
    on (failed k q second) t m = sym (feed_failed k q second x.bytes)
    on (working w) t m = rw (le-leb (count_of w + length x.bytes) most_bytes m) refl

    open' : (a b c : Bool) → ((a && b) && c) ≡ true → a ≡ true
    open' true b c e = refl
    open' false b c e = e

    go : (b : Bool) → feedable s (length x.bytes) x.log_room x.entries ≡ b
        → ((cond b (fed_on s x.bytes) (refused_by 16 0 0 s)).number ≡ 16 → ⊥) → flow_of (cond b (fed_on s x.bytes) (refused_by 16 0 0 s)) ≡ feed_bytes s x.bytes
    go true t m = on s (open' (is_open_state s) (fits s) _ t) small
    go false t m = absurd (m refl)

pub pieces_fed : (xs : List Cut) (s : State) → count_in s + length (capture_of xs) ≤ most_bytes → NoneRefused s xs → feed_all s xs ≡ feed_bytes s (capture_of xs)
unfolding feed_all capture_of feed_bytes
pieces_fed [] s small n = refl
pieces_fed (x ∷ xs) s small n =
    let l = length-append x.bytes (capture_of xs) in
    let one : flow_of (fed_with s x) ≡ feed_bytes s x.bytes = one_call s x (omega (arith, small, l)) n.0 in
    let st : (fed_with s x).state ≡ (feed_bytes s x.bytes).state = ap (λ (f : Flow). f.state) one in
    let c = feed_count s x.bytes in
    let m : count_in (feed_bytes s x.bytes).state + length (capture_of xs) ≤ most_bytes = omega (arith, small, l, c) in
    let k : count_in (fed_with s x).state + length (capture_of xs) ≤ most_bytes = rw st m in
    ap₂ (λ (f r : Flow). flowed f r) one (pieces_fed xs (fed_with s x).state k n.1 ∙ ap (λ (s' : State). feed_bytes s' (capture_of xs)) st)
    ∙ sym (feed_append s x.bytes (capture_of xs))

-- the last call
close_not : (s : State) (room : ℕ) → ((closed_by s room).number ≡ 16 → ⊥) → closed_by s room ≡ close_on s
unfolding closed_by
close_not s room n = go ((is_open_state s && fits s) && leb 12288 room) n
  where
    go : (b : Bool) → ((cond b (close_on s) (refused_by 16 0 0 s)).number ≡ 16 → ⊥) → cond b (close_on s) (refused_by 16 0 0 s) ≡ close_on s
    go true m = refl
    go false m = absurd (m refl)

-- what an opening, feedings and a close hand out, and the end
abbrev pub whole : Flow → Call → Streamed
whole f e = record { log = f.log ++ e.log; times = f.times ++ e.times; number = e.number; place = e.place; second = e.second }

pub all_cuttings : (p : Plan) (ks : List Kind) → legal p ks ≡ true → (xs : List Cut) (room : ℕ) → length (capture_of xs) ≤ most_bytes
    → NoneRefused (opened p ks) xs → ((closed_by (feed_all (opened p ks) xs).state room).number ≡ 16 → ⊥)
    → whole (feed_all (opened p ks) xs) (closed_by (feed_all (opened p ks) xs).state room) ≡ streamed p ks (capture_of xs)
all_cuttings p ks l xs room small n m =
    let o : opened p ks ≡ working (fresh p ks) = rw l refl in
    let c : count_in (opened p ks) ≡ 0 = rw l (omega arith) in
    let fed : feed_all (opened p ks) xs ≡ feed_bytes (opened p ks) (capture_of xs) = pieces_fed xs (opened p ks) (omega (arith, small, c)) n in
    ap (whole (feed_all (opened p ks) xs)) (close_not (feed_all (opened p ks) xs).state room m)
    ∙ ap ended fed ∙ ap (λ (s : State). ended (feed_bytes s (capture_of xs))) o ∙ streamed_fed p ks (legal_is p ks l) (capture_of xs)
