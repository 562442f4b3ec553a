-- What a C caller is promised of a capture as it arrives (document 02, K4), as theorems over what `vin_stream_open`, `vin_stream_feed` and
-- `vin_stream_close` answer, write and leave in the lent bytes of the state. They are the promises of `stream_rules`
-- (crates/stream_rules/specs/Promises.antt), carried over to C.
use Rattle.std.specs.Prelude.{ℕ, ◌/◌, ◌≤◌, Bool, cond, ◌&&◌, ◌≡◌, List, [], ◌∷◌, ◌++◌, map, length, leb}
use Rattle.std.proofs.Common.{arith, ap, ap₂, sym, subst, ◌∙◌, append-nil, eq-eqb, leb-true}
use Rattle.std.proofs.Math.Bool.{true, false}
use Rattle.std.proofs.Math.Path.{refl}
use Rattle.std.proofs.lemmas.List.{length-map}
use Rattle.std.proofs.Math.Dec.{eqb}
use Rattle.format.specs.Answer.{refusal}
use Rattle.format.specs.Lists.{Bytes}
use Rattle.format.specs.Plan.{legal}
use Rattle.format.specs.Read.{Got, Reading, gives, got, reading, refuses, stopped}
use Rattle.format.specs.Laws.Tests.{and_true}
use Rattle.format.specs.declared.Kind.{Kind}
use Rattle.format.specs.declared.Plan.{Plan}
use Rattle.from_c.specs.Laws.{sixteen}
use Rattle.from_c.specs.Numbers.{kind_of, named, plan_from}
use Rattle.read_from_c.specs.Reading.{reading_from}
use Rattle.stream_rules.proofs.Promises as rules
use Rattle.stream_rules.specs.Stream.{Call, Flow, State, Streamed, Working, close_on, closed, closed_by, closed_with, closing_at, count_of, entries_for, failed, fed_by, fed_on, feedable, fits, is_open_state, most_bytes, opened, opened_number, refused_by, streamed, working}
use Rattle.stream_rules.proofs.Laws.Stream.Pieces.{Cut, NoneRefused, capture_of, feed_all, fed_with, whole}
use Rattle.stream_state.specs.Layout.{is_state, state_at, state_bytes}
use Rattle.stream_state.specs.Laws.Bytes.{bytes_state_back, passed, state_bytes_back, state_bytes_pass}
use Rattle.stream_calls.specs.Calls.{Outcome, closing, feeding, opening, outcome_of, unread}
use Rattle.stream_from_c.specs.Streaming.{not_named, opening_from}

-- ---- calls of one program

-- one feeding: the piece, and how many bytes are lent for the log and for the times
pub record Piece : Type 0 where
  pub bytes : List ℕ
  pub log_room : ℕ
  pub time_room : ℕ

abbrev pub vin_feed : List ℕ → Piece → Outcome
vin_feed b x = feeding b x.bytes x.log_room (x.time_room / 8)

-- what the feedings write, one behind the other, and the state's bytes then
pub record Written : Type 0 where
  pub log : List ℕ
  pub times : List ℕ
  pub state : List ℕ

unfoldable pub vin_feed_all : List ℕ → List Piece → Written
vin_feed_all b [] = record { log = []; times = []; state = b }
vin_feed_all b (x ∷ xs) =
    let r : Written = vin_feed_all (vin_feed b x).state xs in
    record { log = (vin_feed b x).log ++ r.log; times = (vin_feed b x).times ++ r.times; state = r.state }

-- the capture that the pieces are
abbrev pub cut_of : Piece → Cut
cut_of x = record { bytes = x.bytes; log_room = x.log_room; entries = x.time_room / 8 }

abbrev pub fed_capture : List Piece → List ℕ
fed_capture xs = capture_of (map cut_of xs)

-- "no call refused by 16"
abbrev pub NoneBy16 : List ℕ → List Piece → Type 0
NoneBy16 b [] = Unit {0}
NoneBy16 b (x ∷ xs) = ((vin_feed b x).answer.number ≡ 16 → ⊥) × NoneBy16 (vin_feed b x).state xs

-- what is handed out in all, and how it ends
abbrev pub handed_out : Written → Outcome → Streamed
handed_out f e = record {
  log = f.log ++ e.log;
  times = f.times;
  number = e.answer.number;
  place = e.answer.place;
  second = e.answer.second;
}

closed_passes : fits closed ≡ true
unfolding fits
closed_passes = refl

-- ---- the bytes of a state that passes are worked on as it is

feed_is : (s : State) → fits s ≡ true → (x : Piece) → vin_feed (state_bytes s) x ≡ outcome_of (fed_with s (cut_of x))
unfolding feeding
feed_is s f x = rw (state_bytes_pass s f, state_bytes_back s f) refl

close_is : (s : State) → fits s ≡ true → (room : ℕ) → closing (state_bytes s) room ≡ outcome_of (closed_by s room)
unfolding closing
close_is s f room = rw (state_bytes_pass s f, state_bytes_back s f) refl

abbrev as_written : Flow → Written
as_written f = record { log = f.log; times = f.times; state = state_bytes f.state }

all_is : (xs : List Piece) (s : State) → fits s ≡ true → vin_feed_all (state_bytes s) xs ≡ as_written (feed_all s (map cut_of xs))
unfolding vin_feed_all feed_all
all_is [] s f = refl
all_is (x ∷ xs) s f =
    let c : Call = fed_with s (cut_of x) in
    let g : fits c.state ≡ true = rules.fed_passes s x.bytes x.log_room (x.time_room / 8) f in
    ap₂ (λ (o : Outcome) (r : Written). both o r) (feed_is s f x) (ap (λ (o : Outcome). vin_feed_all o.state xs) (feed_is s f x) ∙ all_is xs c.state g)
  where
    both : Outcome → Written → Written
    both o r = record { log = o.log ++ r.log; times = o.times ++ r.times; state = r.state }

all_fits : (xs : List Piece) (s : State) → fits s ≡ true → fits (feed_all s (map cut_of xs)).state ≡ true
unfolding feed_all
all_fits [] s f = f
all_fits (x ∷ xs) s f = all_fits xs (fed_with s (cut_of x)).state (rules.fed_passes s x.bytes x.log_room (x.time_room / 8) f)

none_is : (xs : List Piece) (s : State) → fits s ≡ true → NoneBy16 (state_bytes s) xs → NoneRefused s (map cut_of xs)
none_is [] s f n = tt
none_is (x ∷ xs) s f n =
    let e = feed_is s f x in
    let g = rules.fed_passes s x.bytes x.log_room (x.time_room / 8) f in
    (λ z. n.0 (ap (λ (o : Outcome). o.answer.number) e ∙ z), none_is xs (fed_with s (cut_of x)).state g (subst (λ (o : Outcome). NoneBy16 o.state xs) e n.1))

-- a close writes no times
closed_times : (s : State) (room : ℕ) → (closed_by s room).times ≡ []
unfolding closed_by
closed_times s room = go ((is_open_state s && fits s) && leb 12288 room)
  where
    ended : (w : Working) (g : Got) → (closed_with w g).times ≡ []
    ended w (got is) = refl
    ended w (stopped k q second) = refl

    on : (s : State) → (close_on s).times ≡ []
    on closed = refl
    on (failed k q second) = refl
    on (working w) = ended w (closing_at w.plan (length w.waiting) (count_of w) w.carry)

    go : (t : Bool) → (cond t (close_on s) (refused_by 16 0 0 s)).times ≡ []
    go true = on s
    go false = refl

no_times : (f : Flow) (c : Call) → c.times ≡ [] → handed_out (as_written f) (outcome_of c) ≡ whole f c
no_times f c e = ap (λ (t : List ℕ). the t) (sym (ap (λ (u : List ℕ). f.times ++ u) e ∙ append-nil f.times))
  where
    the : List ℕ → Streamed
    the t = record { log = f.log ++ c.log; times = t; number = c.number; place = c.place; second = c.second }

-- ---- promises

-- "every state that .. a call on a state that passes" leaves, "passes it"
pub c_feed_passes : (b : List ℕ) (x : Piece) → is_state b ≡ true → is_state (vin_feed b x).state ≡ true
unfolding feeding
c_feed_passes b x e =
    rw e (state_bytes_pass (fed_by (state_at b) x.bytes x.log_room (x.time_room / 8)).state (rules.fed_passes (state_at b) x.bytes x.log_room (x.time_room / 8) (passed b e).fit))

pub c_close_passes : (b : List ℕ) (room : ℕ) → is_state b ≡ true → is_state (closing b room).state ≡ true
unfolding closing
c_close_passes b room e = rw e (state_bytes_pass (closed_by (state_at b) room).state (rules.closed_passes (state_at b) room (passed b e).fit))

-- a feeding by whether it is one, and then
abbrev feeds : List ℕ → Piece → Bool
feeds b x = feedable (state_at b) (length x.bytes) x.log_room (x.time_room / 8)

abbrev fed_if : List ℕ → Piece → Bool → Outcome
fed_if b x t = outcome_of (cond t (fed_on (state_at b) x.bytes) (refused_by 16 0 0 (state_at b)))

-- "16 .. the state unchanged": what is refused by 16 leaves every lent byte as it was
pub c_unchanged : (b : List ℕ) (x : Piece) → (vin_feed b x).answer.number ≡ 16 → ((vin_feed b x).state ≡ b) × ((vin_feed b x).log ≡ []) × ((vin_feed b x).times ≡ [])
unfolding feeding fed_by
c_unchanged b x = go (is_state b) refl
  where
    on : is_state b ≡ true → (t : Bool) → feeds b x ≡ t
        → (fed_if b x t).answer.number ≡ 16
        → ((fed_if b x t).state ≡ b)
        × ((fed_if b x t).log ≡ [])
        × ((fed_if b x t).times ≡ [])
    on e false f z = (bytes_state_back b e, refl, refl)
    on e true f z =
        let a = and_true (is_open_state (state_at b) && fits (state_at b)) _ f in
        let o = and_true (is_open_state (state_at b)) (fits (state_at b)) a.0 in
        let l = and_true (leb (length x.bytes) 4096 && leb 12288 x.log_room) (leb (entries_for (state_at b) (length x.bytes)) (x.time_room / 8)) a.1 in
        let m = and_true (leb (length x.bytes) 4096) (leb 12288 x.log_room) l.0 in
        let w = rules.passing_fed (state_at b) x.bytes x.log_room (x.time_room / 8) o.1 o.0 (leb-true _ 4096 m.0) (leb-true 12288 _ m.1) (leb-true _ _ l.1) in
        absurd (w.1 (ap (λ (c : Call). c.number) w.0 ∙ z))

    go : (t : Bool) → is_state b ≡ t
        → (cond {A = Outcome} t (fed_if b x (feeds b x)) (unread 16 0 0 b)).answer.number ≡ 16
        → ((cond {A = Outcome} t (fed_if b x (feeds b x)) (unread 16 0 0 b)).state ≡ b)
        × ((cond {A = Outcome} t (fed_if b x (feeds b x)) (unread 16 0 0 b)).log ≡ [])
        × ((cond {A = Outcome} t (fed_if b x (feeds b x)) (unread 16 0 0 b)).times ≡ [])
    go true e z = on e (feeds b x) refl z
    go false e z = (refl, refl, refl)

-- "the state then repeats the refusal and writes nothing"
pub c_repeats : (k q second : ℕ) (x : Piece) → fits (failed k q second) ≡ true → length x.bytes ≤ 4096 → 12288 ≤ x.log_room
    → vin_feed (state_bytes (failed k q second)) x ≡ unread k q second (state_bytes (failed k q second))
c_repeats k q second x f n r = feed_is (failed k q second) f x ∙ ap outcome_of (rules.fed_repeats k q second x.bytes x.log_room (x.time_room / 8) f n r)

module _ (words tracks time crc parity label code : ℕ) (kinds : List ℕ) where
  abbrev pub planned : Plan
  planned = plan_from words tracks time crc parity label code

  abbrev pub kinds_of : List Kind
  kinds_of = map kind_of kinds

  abbrev pub vin_open : List ℕ → Outcome
  vin_open b = opening_from words tracks time crc parity label code kinds b

  -- an opening that answers 0 leaves the bytes of an open state
  record Opened (b : List ℕ) : Type 0 where
    names : named time crc parity kinds ≡ true
    lawful : legal planned kinds_of ≡ true
    state : (vin_open b).state ≡ state_bytes (opened planned kinds_of)
    fit : fits (opened planned kinds_of) ≡ true

  opened_is : (b : List ℕ) → (vin_open b).answer.number ≡ 0 → Opened b
  unfolding opening_from opening
  opened_is b z = go (named time crc parity kinds) refl (eqb (length b) 7168) refl (legal planned kinds_of) refl
    where
      go : (t : Bool) → named time crc parity kinds ≡ t → (l : Bool) → eqb (length b) 7168 ≡ l → (g : Bool) → legal planned kinds_of ≡ g → Opened b
      go true e true f true h = record {
        names = e;
        lawful = h;
        state = rw (e, f) refl;
        fit = rules.opened_passes planned kinds_of (length-map kinds kind_of ∙ sixteen time crc parity kinds e);
      }
      go true e true f false h = absurd (omega (arith, rw (e, f, h) at z))
      go true e false f g h = absurd (omega (arith, rw (e, f) at z))
      go false e true f g h = absurd (omega (arith, rw (e, f) at z))
      go false e false f g h = absurd (omega (arith, rw (e, f) at z))

  -- "All cuttings of one capture within that, no call refused by 16, hand out the same bytes and times and end alike"
  pub c_cut_as_you_like : (b : List ℕ) (xs : List Piece) (room : ℕ) → (vin_open b).answer.number ≡ 0 → length (fed_capture xs) ≤ most_bytes
      → NoneBy16 (vin_open b).state xs → ((closing (vin_feed_all (vin_open b).state xs).state room).answer.number ≡ 16 → ⊥)
      → handed_out (vin_feed_all (vin_open b).state xs) (closing (vin_feed_all (vin_open b).state xs).state room) ≡ streamed planned kinds_of (fed_capture xs)
  c_cut_as_you_like b xs room z small none last =
      let o = opened_is b z in
      let s : State = opened planned kinds_of in
      let f : Flow = feed_all s (map cut_of xs) in
      let a : vin_feed_all (vin_open b).state xs ≡ as_written f = ap (λ (u : List ℕ). vin_feed_all u xs) o.state ∙ all_is xs s o.fit in
      let c : closing (vin_feed_all (vin_open b).state xs).state room ≡ outcome_of (closed_by f.state room) =
      ap (λ (w : Written). closing w.state room) a ∙ close_is f.state (all_fits xs s o.fit) room in
      let n = none_is xs s o.fit (subst (λ (u : List ℕ). NoneBy16 u xs) o.state none) in
      ap₂ (λ (w : Written) (e : Outcome). handed_out w e) a c ∙ no_times f (closed_by f.state room) (closed_times f.state room)
      ∙ rules.cut_as_you_like planned kinds_of o.lawful (map cut_of xs) room small n (λ e. last (ap (λ (r : Outcome). r.answer.number) c ∙ e))

  -- "plain reading's log and times where it accepts"
  pub c_plain_streams : (b : List ℕ) (xs : List Piece) (room log_room time_room : ℕ) (log times : List ℕ) → (vin_open b).answer.number ≡ 0 → length (fed_capture xs) ≤ most_bytes
      → NoneBy16 (vin_open b).state xs → ((closing (vin_feed_all (vin_open b).state xs).state room).answer.number ≡ 16 → ⊥) → Bytes (fed_capture xs)
      → reading_from false words tracks time crc parity label code kinds (fed_capture xs) log_room time_room ≡ gives log times
      → handed_out (vin_feed_all (vin_open b).state xs) (closing (vin_feed_all (vin_open b).state xs).state room) ≡ record { log = log; times = times; number = 0; place = 0; second = 0 }
  unfolding reading_from
  c_plain_streams b xs room log_room time_room log times z small none last bytes e =
      let o = opened_is b z in
      let r : reading false planned kinds_of (fed_capture xs) log_room (time_room / 8) ≡ gives log times = rw o.names at e in
      c_cut_as_you_like b xs room z small none last ∙ rules.plain_streams planned kinds_of (fed_capture xs) log times log_room (time_room / 8) bytes r

  -- "every state that the opening returns .. passes" the written test
  pub c_open_passes : (b : List ℕ) → length b ≡ 7168 → is_state (vin_open b).state ≡ true
  unfolding opening_from opening
  c_open_passes b n = rw (eq-eqb (length b) 7168 n) (go (named time crc parity kinds) refl)
    where
      go : (t : Bool) → named time crc parity kinds ≡ t
          → is_state (cond {A = Outcome} t (record { answer = refusal (opened_number planned kinds_of) 0 0; log = []; times = []; state = state_bytes (opened planned kinds_of) })
          (record { answer = refusal 1 0 0; log = []; times = []; state = state_bytes closed })).state ≡ true
      go true e = state_bytes_pass (opened planned kinds_of) (rules.opened_passes planned kinds_of (length-map kinds kind_of ∙ sixteen time crc parity kinds e))
      go false e = state_bytes_pass closed closed_passes
