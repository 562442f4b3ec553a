-- What a close hands out, where no part of a group waits.
use Rattle.std.specs.Prelude.{ℕ, ◌*◌, ◌≤◌, ◌<◌, ◌≡◌, length}
use Rattle.std.proofs.Common.{sym, ◌∙◌}
use mathlib.Core.List.{List, [], ◌++◌, flat_map}
use Rattle.format.specs.Answer.{over, refusal, success}
use Rattle.format.specs.Bits.{bits_of, packed}
use Rattle.format.specs.Item.{item_bits}
use Rattle.format.specs.Read.{Got, got, stopped}
use Rattle.format.specs.Laws.Limits.{Shape}
use Rattle.format.specs.declared.Answer.{Answer}
use Rattle.format.specs.declared.Held.TheVariants.{Nothing}
use Rattle.format.specs.declared.Item.{Item}
use Rattle.format.specs.declared.Plan.{Plan}
use Rattle.data_start.specs.declared.Holding.{Holding}
use Rattle.data_start.specs.declared.Step.{Step}
use Rattle.data_word.specs.Holding.{Sane}
use Rattle.data_word.specs.Meaning.{Brings}
use Rattle.log_write.specs.declared.Pen.{Pen}
use Rattle.stream_group.specs.Took.{carried}
use Rattle.stream_rules.specs.Stream.{closing, earliest, group_size, most_bytes}
use Rattle.stream_rules.specs.Laws.Stream.Fits.{NumberOk}

-- the log's last bytes: the bits not yet a byte, the item that was held, and the end mark
abbrev pub last_bytes : List ℕ → List Item → List ℕ
last_bytes bits is = packed (bits ++ (flat_map item_bits is ++ bits_of 4 0))

-- what is written
abbrev pub end_bytes : List ℕ → Got → List ℕ
end_bytes bits (got is) = last_bytes bits is
end_bytes bits (stopped k q second) = []

abbrev pub end_answer : List ℕ → Got → Answer
end_answer bits (got is) = success (length (last_bytes bits is)) 0
end_answer bits (stopped k q second) = refusal k q second

-- the bits that a pen has not yet put into a byte
abbrev pub bits_left : Pen → List ℕ
bits_left pen = bits_of pen.bits pen.last

-- a step at the end: the items that it brings, and that few bytes are left
pub record Last (pen : Pen) (step : Step) : Type 0 where
  pub items : List Item
  pub brings : Brings items Nothing step
  pub bits : pen.bits < 8
  pub few : length (last_bytes (bits_left pen) items) ≤ 7

-- the log's last bytes stand in front, whichever items the step brings
abbrev pub Puts : Pen → Step → Answer → List ℕ → List ℕ → Type 0
Puts pen step r log log' =
    (is : List Item) → Brings is Nothing step → (r ≡ success (length (last_bytes (bits_left pen) is)) 0) × (log' ≡ over (last_bytes (bits_left pen) is) log)

-- what is known of a state at work whose groups are whole
pub record Whole (p : Plan) (groups : ℕ) (held : Holding) (since : ℕ) (pen : Pen) (table log : List ℕ) : Type 0 where
  pub shape : Shape p
  pub sane : Sane held
  pub bits : pen.bits < 8
  pub long : length table ≡ 64
  pub waits : NumberOk p groups (earliest table)
  pub size : groups * group_size p ≤ most_bytes
  pub few : length (end_bytes (bits_left pen) (closing p (carried held since table))) ≤ 7
  pub room : 7 ≤ length log

-- the contract: the cut item, the earliest notice, or the log's last bytes
abbrev pub Ends : Plan → Holding → ℕ → Pen → List ℕ → Answer → List ℕ → List ℕ → Type 0
Ends p held since pen table r log log' =
    (r ≡ end_answer (bits_left pen) (closing p (carried held since table))) × (log' ≡ over (end_bytes (bits_left pen) (closing p (carried held since table))) log)

pub ends_one : (p : Plan) (held : Holding) (since : ℕ) (pen : Pen) (table log : List ℕ) {r r' : Answer} {x x' : List ℕ}
    → Ends p held since pen table r log x → Ends p held since pen table r' log x' → (r ≡ r') × (x ≡ x')
ends_one p held since pen table log f g = (f.0 ∙ sym g.0, f.1 ∙ sym g.1)
