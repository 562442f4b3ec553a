-- A close by what was loaded.
use Rattle.std.specs.Prelude.{ℕ, ◌≤◌, ◌≡◌, List, length}
use Rattle.std.proofs.Common.{sym, ◌∙◌}
use Rattle.format.specs.Answer.{over}
use Rattle.format.specs.declared.Answer.{Answer}
use Rattle.stream_state.specs.AtWork.{table_at}
use Rattle.stream_state.specs.Stand.{loaded_of}
use Rattle.stream_state.specs.declared.Loaded.{Loaded}
use Rattle.stream_calls.specs.Calls.{closing}

-- the bytes from which it was loaded
pub record Says (b : List ℕ) (x : Loaded) (table : List ℕ) : Type 0 where
  pub is : x ≡ loaded_of b
  pub table_is : x.stage ≡ 1 → table ≡ table_at b

-- an open state, and room
pub record Closable (x : Loaded) (table : List ℕ) (room : ℕ) : Type 0 where
  pub bytes : List ℕ
  pub says : Says bytes x table
  pub open_stage : (x.stage ≡ 2 → ⊥) → x.stage ≡ 1
  pub roomy : 12288 ≤ room

-- the contract: what the close of those bytes answers and writes
abbrev pub Shuts : Loaded → List ℕ → Answer → List ℕ → List ℕ → Type 0
Shuts x table r log log' =
    (b : List ℕ) → Says b x table → (r ≡ (closing b (length log)).answer) × (log' ≡ over (closing b (length log)).log log)

pub shuts_one : (b : List ℕ) (x : Loaded) (table log : List ℕ) {r r' : Answer} {y y' : List ℕ} → Says b x table → Shuts x table r log y → Shuts x table r' log y' → (r ≡ r') × (y ≡ y')
shuts_one b x table log s f g = ((f b s).0 ∙ sym (g b s).0, (f b s).1 ∙ sym (g b s).1)
