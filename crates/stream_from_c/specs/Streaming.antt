-- A capture as it arrives, from C (document 02, K4).
use Rattle.std.specs.Prelude.{ℕ, ◌/◌, cond, ◌≡◌, length, eqb}
use Rattle.std.proofs.Common.{sym, ◌∙◌}
use mathlib.Core.List.{List, [], map, flat_map}
use Rattle.format.specs.Answer.{over, refusal}
use Rattle.format.specs.declared.Answer.{Answer}
use Rattle.from_c.specs.Numbers.{kind_of, named, plan_from, time_bytes}
use Rattle.stream_rules.specs.Stream.{closed}
use Rattle.stream_state.specs.Layout.{state_bytes}
use Rattle.stream_calls.specs.Calls.{Outcome, Same, feeding, opening, unread}

-- "A plan number that names no choice or kind is 1": "the state is then closed"
abbrev pub not_named : List ℕ → Outcome
not_named b = cond (eqb (length b) 7168) (record { answer = refusal 1 0 0; log = []; times = []; state = state_bytes closed }) (unread 16 0 0 b)

-- the opening, from the numbers of a plan
unfoldable pub opening_from : ℕ → ℕ → ℕ → ℕ → ℕ → ℕ → ℕ → List ℕ → List ℕ → Outcome
opening_from words tracks time crc parity label code kinds b =
    cond (named time crc parity kinds) (opening (plan_from words tracks time crc parity label code) (map kind_of kinds) b) (not_named b)

-- the contract: the answer, and every byte of the state
abbrev pub OpensFrom : ℕ → ℕ → ℕ → ℕ → ℕ → ℕ → ℕ → List ℕ → List ℕ → Answer → List ℕ → Type 0
OpensFrom words tracks time crc parity label code kinds b r b' =
    (r ≡ (opening_from words tracks time crc parity label code kinds b).answer) × (b' ≡ (opening_from words tracks time crc parity label code kinds b).state)

pub opens_from_one : (words tracks time crc parity label code : ℕ) (kinds b : List ℕ) {r r' : Answer} {x x' : List ℕ}
    → OpensFrom words tracks time crc parity label code kinds b r x → OpensFrom words tracks time crc parity label code kinds b r' x' → (r ≡ r') × (x ≡ x')
opens_from_one words tracks time crc parity label code kinds b f g = (f.0 ∙ sym g.0, f.1 ∙ sym g.1)

-- the answer, every byte of the state, and every lent byte of the log and of the times, eight an entry
pub record LeavesBytes (o : Outcome) (r : Answer) (b' l l' t t' : List ℕ) : Type 0 where
  pub answer : r ≡ o.answer
  pub state : b' ≡ o.state
  pub log : l' ≡ over o.log l
  pub times : t' ≡ over (flat_map time_bytes o.times) t

-- a feeding: "spare bytes count for nothing"
abbrev pub FeedsBytes : List ℕ → List ℕ → Answer → List ℕ → List ℕ → List ℕ → List ℕ → List ℕ → Type 0
FeedsBytes b piece r b' log log' times times' = LeavesBytes (feeding b piece (length log) (length times / 8)) r b' log log' times times'

pub feeds_bytes_one : (b piece log times : List ℕ) {r r' : Answer} {x x' l l' t t' : List ℕ} → FeedsBytes b piece r x log l times t
    → FeedsBytes b piece r' x' log l' times t' → Same r r' x x' l l' t t'
feeds_bytes_one b piece log times f g = record {
  answer = f.answer ∙ sym g.answer;
  state = f.state ∙ sym g.state;
  log = f.log ∙ sym g.log;
  times = f.times ∙ sym g.times;
}
