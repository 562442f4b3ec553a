-- A state that passes the written test comes back from its bytes, and bytes that pass are those of the state that they say.
use Rattle.std.specs.Prelude.{true, ◌&&◌, ◌≡◌, refl, List, ℕ, length, eqb}
use Rattle.std.proofs.Common.{ap, ◌∙◌, eq-eqb, eqb-true}
use Rattle.format.specs.Laws.Tests.{and_true}
use Rattle.stream_rules.specs.Stream.{State, fits}
use Rattle.stream_rules.specs.StateNumbers.{state_of, same_row}
use Rattle.stream_rules.proofs.Laws.Stream.Numbers.{row_same, same_row_lem, state_back}
use Rattle.stream_state.specs.Layout.{is_state, state_at, state_bytes}
use Rattle.stream_state.specs.Laws.Small.{fits_said}

pub state_bytes_back : (s : State) → fits s ≡ true → state_at (state_bytes s) ≡ s
state_bytes_back s e = ap state_of (fits_said s e).row ∙ state_back s e

pub state_bytes_pass : (s : State) → fits s ≡ true → is_state (state_bytes s) ≡ true
unfolding is_state
state_bytes_pass s e =
    let at : state_at (state_bytes s) ≡ s = state_bytes_back s e in
    rw (at, eq-eqb (length (state_bytes s)) 7168 (fits_said s e).long, e, same_row_lem (state_bytes s)) refl

-- what the written test of bytes says
pub record Passed (b : List ℕ) : Type 0 where
  pub long : length b ≡ 7168
  pub fit : fits (state_at b) ≡ true
  pub is : state_bytes (state_at b) ≡ b

pub passed : (b : List ℕ) → is_state b ≡ true → Passed b
unfolding is_state
passed b e =
    let a = and_true (eqb (length b) 7168) (fits (state_at b) && same_row (state_bytes (state_at b)) b) e in
    let c = and_true (fits (state_at b)) (same_row (state_bytes (state_at b)) b) a.1 in
    record { long = eqb-true (length b) 7168 a.0; fit = c.0; is = row_same (state_bytes (state_at b)) b c.1 }

pub bytes_state_back : (b : List ℕ) → is_state b ≡ true → state_bytes (state_at b) ≡ b
bytes_state_back b e = (passed b e).is

-- a state that fits, and whose bytes these are, is the one that they say
pub passes : (b : List ℕ) (s : State) → state_at b ≡ s → fits s ≡ true → state_bytes s ≡ b → is_state b ≡ true
passes b s at e is = rw is at (state_bytes_pass s e)
