-- The second log's bytes behind the first's bits: each begins with what is left of the byte before it.
use Rattle.std.specs.Prelude.{ℕ, ◌+◌, ◌*◌, ◌-◌, ◌/◌, ◌%◌, ◌^◌, ◌≤◌, ◌<◌, ◌≡◌, length, take, drop, get_or}
use mathlib.Core.List.{List, [], ◌∷◌, ◌++◌, flat_map}
use Rattle.format.specs.Answer.{Made}
use Rattle.format.specs.Item.{item_bits}
use Rattle.format.specs.Log.{items, on_no_plan, parsed}
use Rattle.format.specs.declared.Answer.{Answer}
use Rattle.format.specs.declared.Item.{Item}
use Rattle.log_rules.specs.Laws.Logs.{LogOf}
use Rattle.log_rules.specs.Pick.{log_in}

-- the eight bits that begin with the s lowest of a byte and go on with the next one
abbrev pub pair_of : ℕ → ℕ → ℕ → ℕ
pair_of s before next = (before * 256 + next) / 2 ^ s % 256

-- bytes that are s bits later
unfoldable pub later : ℕ → ℕ → List ℕ → List ℕ
later s before [] = []
later s before (b ∷ bs) = pair_of s before b ∷ later s b bs

-- they are written, but for the last one's lowest bits
pub record Later (s before : ℕ) (bytes out out' : List ℕ) (last : ℕ) : Type 0 where
  pub done : List ℕ
  pub size : length done ≡ length bytes
  pub is : out' ≡ done ++ drop (length bytes) out
  pub rest : later s before (bytes ++ 0 ∷ []) ≡ done ++ pair_of s last 0 ∷ []

-- the bytes of two logs of which the first has n bits of items
abbrev pub both_bytes : ℕ → List ℕ → List ℕ → List ℕ
both_bytes n first second = take (n / 8) first ++ later (n % 8) (get_or first (n / 8) 0 / 2 ^ (8 - n % 8)) (second ++ 0 ∷ [])

-- a log that ends with so many bits of items
abbrev pub Ends : List ℕ → ℕ → Type 0
Ends log n = (n + 4 ≤ length log * 8) × (length log * 8 < n + 12) × (length log ≤ 32768)

-- a log that passed has items, which end there
pub record Good (log : List ℕ) (n : ℕ) : Type 0 where
  pub its : List Item
  pub parses : parsed on_no_plan log ≡ items its
  pub logged : LogOf log its
  pub end : n ≡ length (flat_map item_bits its)

-- the log of both logs' items, whichever they are, or 6
abbrev pub Joins : List ℕ → ℕ → List ℕ → ℕ → Answer → List ℕ → List ℕ → Type 0
Joins first m second n r out out' =
    (is js : List Item) → LogOf first is → LogOf second js → m ≡ length (flat_map item_bits is) → n ≡ length (flat_map item_bits js)
    → Made (log_in (length out) (is ++ js)) r out out'
