-- A row of items or a fault, put into an array, and what is made of it.
use Rattle.std.specs.Prelude.{ℕ, ◌+◌, ◌^◌, ◌≤◌, ◌<◌, ◌≡◌, length}
use mathlib.Core.List.{List, flat_map}
use Rattle.format.specs.Answer.{Made}
use Rattle.format.specs.Compose.{Composed, refused}
use Rattle.format.specs.Item.{item_bits}
use Rattle.format.specs.Log.{Parsed, items, fault}
use Rattle.format.proofs.Promises.{made_one}
use Rattle.format.specs.declared.Answer.{Answer}
use Rattle.format.specs.declared.Item.{Item}
use Rattle.log_rules.specs.Pick.{log_in}
use Rattle.log_write.specs.Pen.{Wrote, closed_size}
use Rattle.log_write.specs.declared.Pen.{Pen}
use Rattle.log_put.specs.declared.Put.{Put}
use Rattle.log_put.specs.declared.Put.TheVariants.{All, Fault}

-- a row of items of at most so many bits stands in the array, or it is a fault
abbrev pub StandsIn : Parsed → ℕ → List ℕ → Put → Type 0
StandsIn (items is) most out r = (p : Pen) × (r ≡ All p) × (most ≤ 524288) × (p.bits ≤ most) × Wrote (flat_map item_bits is) out p
StandsIn (fault n q) most out r = r ≡ Fault n q

-- "then 6": what is made of a row
abbrev pub made_of : ℕ → Parsed → Composed
made_of room (items is) = log_in room is
made_of room (fault n q) = refused n q

-- a log may be closed in an array of so many bytes, and stands there if it is not refused for its length
abbrev pub Closable : Pen → ℕ → Type 0
Closable p n = (p.bits < 2 ^ 40) × (closed_size p ≤ 32768 → closed_size p + 7 ≤ n)

-- the log of the items whose bits stand in the array, closed and handed over, or 6
abbrev pub Gives : Pen → List ℕ → Answer → List ℕ → List ℕ → Type 0
Gives p built r out out' = (is : List Item) → Wrote (flat_map item_bits is) built p → Made (log_in (length out) is) r out out'

pub gives_one : (p : Pen) (built : List ℕ) (is : List Item) (r r' : Answer) (out x x' : List ℕ) → Wrote (flat_map item_bits is) built p
    → Gives p built r out x → Gives p built r' out x' → (r ≡ r') × (x ≡ x')
gives_one p built is r r' out x x' w a b = made_one (log_in (length out) is) r r' out x x' (a is w) (b is w)

abbrev pub Finishable : Put → ℕ → Type 0
Finishable (All p) n = Closable p n
Finishable (Fault number place) n = Unit {0}

-- what is handed over, whichever row stands in the array: its refusal, 6, or its log
abbrev pub Finishes : Put → List ℕ → Answer → List ℕ → List ℕ → Type 0
Finishes put built r out out' = (row : Parsed) (most : ℕ) → StandsIn row most built put → Made (made_of (length out) row) r out out'

-- a row that stands has one answer, and leaves one content in the lent output
pub finishes_one : (put : Put) (row : Parsed) (most : ℕ) (built : List ℕ) (r r' : Answer) (out x x' : List ℕ) → StandsIn row most built put
    → Finishes put built r out x → Finishes put built r' out x' → (r ≡ r') × (x ≡ x')
finishes_one put row most built r r' out x x' s a b = made_one (made_of (length out) row) r r' out x x' (a row most s) (b row most s)
