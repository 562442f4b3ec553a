-- What words bring: a refusal by 13, or items and their log.
use Rattle.std.specs.Prelude.{ℕ, ◌+◌, ◌*◌, ◌≤◌, Bool, ◌≡◌, length}
use Rattle.std.proofs.Common.{ap, ap₂, sym, ◌∙◌}
use mathlib.Core.List.{List, flat_map}
use Rattle.format.specs.Answer.{read_answer, log_after}
use Rattle.format.specs.Item.{item_bits}
use Rattle.format.specs.Reader.{counted}
use Rattle.format.specs.Read.{Reading, Got, got, stopped, onward, finish}
use Rattle.format.specs.declared.Answer.{Answer}
use Rattle.format.specs.declared.Kind.{Kind}
use Rattle.format.specs.declared.Item.{Item}
use Rattle.format.specs.declared.Held.TheVariants.{Nothing}
use Rattle.capture_rules.specs.Split.{run_numbers, items_settled}
use Rattle.data_items.specs.Row.{Words}
use Rattle.log_write.specs.Pen.{Wrote}
use Rattle.split_items.specs.declared.Run.{Run}

-- a log's answer, and the lent log afterwards
abbrev pub GivenLog : Reading → Answer → List ℕ → List ℕ → Type 0
GivenLog g r log log' = (r ≡ read_answer g) × (log' ≡ log_after g log)

pub given_log_one : (g : Reading) (r r' : Answer) (log x x' : List ℕ) → GivenLog g r log x → GivenLog g r' log x' → (r ≡ r') × (x ≡ x')
given_log_one g r r' log x x' a b = (a.0 ∙ sym b.0, a.1 ∙ sym b.1)

-- the items of words told by their positions, or the refusal
abbrev pub got_of : List Kind → Bool → List ℕ → Got
got_of ks parity ws = onward (run_numbers ks parity (counted 0 ws) Nothing 0) finish

abbrev pub items_of : List Kind → Bool → List ℕ → ℕ → Reading
items_of ks parity ws log_room = items_settled log_room (counted 0 ws) (got_of ks parity ws)

-- the words have 24 bits each and bring items, which stand in the array as far as it has room
pub record Logged (ks : List Kind) (parity : Bool) (ws : List ℕ) (r : Run) (out : List ℕ) : Type 0 where
  pub items : List Item
  pub is : got_of ks parity ws ≡ got items
  pub words : Words ws
  pub wrote : Wrote (flat_map item_bits items) out r.pen
  pub few : r.pen.bits ≤ 128 * length ws + 92

-- number 0: the log; else the refusal
pub record RunsTo (ks : List Kind) (parity : Bool) (ws : List ℕ) (r : Run) (out : List ℕ) : Type 0 where
  pub logged : r.number ≡ 0 → Logged ks parity ws r out
  pub refused : (r.number ≡ 0 → ⊥) → got_of ks parity ws ≡ stopped r.number r.place r.second

-- an array of so many bytes has room for the log of n words, at most 16 bytes a word, if it is not refused for its length
abbrev pub Room : ℕ → ℕ → Type 0
Room n built = (size : ℕ) → size ≤ 16 * n + 12 → size ≤ 32768 → size + 7 ≤ built
