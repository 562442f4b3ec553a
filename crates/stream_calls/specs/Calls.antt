-- The three calls of a capture as it arrives (document 02, K4), over the lent bytes of the state: what each answers, what it writes, and
-- what the state's bytes are then.
use Rattle.std.specs.Prelude.{ℕ, Bool, cond, ◌&&◌, ◌||◌, ◌≡◌, List, [], length, eqb, leb}
use Rattle.std.proofs.Common.{sym, ◌∙◌}
use Rattle.format.specs.Answer.{over, refusal}
use Rattle.format.specs.declared.Answer.{Answer}
use Rattle.format.specs.declared.Kind.{Kind}
use Rattle.format.specs.declared.Plan.{Plan}
use Rattle.stream_rules.specs.Stream.{Call, closed_by, fed_by, opened, opened_number}
use Rattle.stream_state.specs.Layout.{is_state, state_at, state_bytes}

-- what a call answers, what it writes in front of the lent log and times, and the state's bytes then
pub record Outcome : Type 0 where
  pub answer : Answer
  pub log : List ℕ
  pub times : List ℕ
  pub state : List ℕ

-- number and places, and the lengths written: those of the call that meets a fault too
abbrev pub answer_of : Call → Answer
answer_of c = record { number = c.number; place = c.place; second = c.second; bytes = length c.log; times = length c.times }

abbrev pub outcome_of : Call → Outcome
outcome_of c = record { answer = answer_of c; log = c.log; times = c.times; state = state_bytes c.state }

-- a refusal that writes nothing, "the state unchanged"
abbrev pub unread : ℕ → ℕ → ℕ → List ℕ → Outcome
unread number place second b = record { answer = refusal number place second; log = []; times = []; state = b }

-- the opening; a run of another length is no state, "16"
unfoldable pub opening : Plan → List Kind → List ℕ → Outcome
opening p ks b =
    cond (eqb (length b) 7168) (record { answer = refusal (opened_number p ks) 0 0; log = []; times = []; state = state_bytes (opened p ks) })
    (unread 16 0 0 b)

-- a feeding: "16 first in the others (place 0), for .. a state whose own numbers do not fit together"
unfoldable pub feeding : List ℕ → List ℕ → ℕ → ℕ → Outcome
feeding b piece log_room entries = cond (is_state b) (outcome_of (fed_by (state_at b) piece log_room entries)) (unread 16 0 0 b)

-- the close
unfoldable pub closing : List ℕ → ℕ → Outcome
closing b log_room = cond (is_state b) (outcome_of (closed_by (state_at b) log_room)) (unread 16 0 0 b)

-- ---- the contracts

-- the opening's: the answer, and every byte of the state, `b` before and `b'` after
abbrev pub Opens : Plan → List Kind → List ℕ → Answer → List ℕ → Type 0
Opens p ks b r b' = (r ≡ (opening p ks b).answer) × (b' ≡ (opening p ks b).state)

-- the answer, every byte of the state, and every lent byte of the log and entry of the times
pub record Leaves (o : Outcome) (r : Answer) (b' l l' t t' : List ℕ) : Type 0 where
  pub answer : r ≡ o.answer
  pub state : b' ≡ o.state
  pub log : l' ≡ over o.log l
  pub times : t' ≡ over o.times t

abbrev pub Feeds : List ℕ → List ℕ → Answer → List ℕ → List ℕ → List ℕ → List ℕ → List ℕ → Type 0
Feeds b piece r b' log log' times times' = Leaves (feeding b piece (length log) (length times)) r b' log log' times times'

abbrev pub Closes : List ℕ → Answer → List ℕ → List ℕ → List ℕ → Type 0
Closes b r b' log log' = (r ≡ (closing b (length log)).answer) × (b' ≡ (closing b (length log)).state) × (log' ≡ over (closing b (length log)).log log)

-- there is one answer, and one content of all that is lent

pub opens_one : (p : Plan) (ks : List Kind) (b : List ℕ) {r r' : Answer} {x x' : List ℕ} → Opens p ks b r x → Opens p ks b r' x' → (r ≡ r') × (x ≡ x')
opens_one p ks b f g = (f.0 ∙ sym g.0, f.1 ∙ sym g.1)

-- what two that meet one contract have in common: everything
pub record Same (r r' : Answer) (b b' l l' t t' : List ℕ) : Type 0 where
  pub answer : r ≡ r'
  pub state : b ≡ b'
  pub log : l ≡ l'
  pub times : t ≡ t'

pub feeds_one : (b piece log times : List ℕ) {r r' : Answer} {x x' l l' t t' : List ℕ} → Feeds b piece r x log l times t → Feeds b piece r' x' log l' times t'
    → Same r r' x x' l l' t t'
feeds_one b piece log times f g = record {
  answer = f.answer ∙ sym g.answer;
  state = f.state ∙ sym g.state;
  log = f.log ∙ sym g.log;
  times = f.times ∙ sym g.times;
}

pub closes_one : (b log : List ℕ) {r r' : Answer} {x x' l l' : List ℕ} → Closes b r x log l → Closes b r' x' log l' → (r ≡ r') × (x ≡ x') × (l ≡ l')
closes_one b log f g = (f.0 ∙ sym g.0, f.1 ∙ sym g.1, f.2 ∙ sym g.2)

-- ---- the tests that come first

-- a state that is open, by its stage, "a piece too long, less than 12,288 bytes lent for log"
abbrev pub within : ℕ → ℕ → ℕ → Bool
within stage piece log_room = (eqb stage 1 || eqb stage 2) && (leb piece 4096 && leb 12288 log_room)
