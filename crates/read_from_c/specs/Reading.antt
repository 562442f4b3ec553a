-- Both readings from C (document 01, "Programs").
use Rattle.std.specs.Prelude.{ℕ, ◌/◌, Bool, cond, length, ◌≡◌}
use mathlib.Core.List.{List, map, flat_map}
use Rattle.format.specs.Answer.{over, read_answer, log_after}
use Rattle.format.specs.declared.Answer.{Answer}
use Rattle.format.specs.Read.{Reading, gives, refuses, reading}
use Rattle.from_c.specs.Numbers.{kind_of, named, plan_from, time_bytes}

-- "in a reading's room the spare bytes count for nothing": a room of so many bytes for the times
unfoldable pub reading_from : Bool → ℕ → ℕ → ℕ → ℕ → ℕ → ℕ → ℕ → List ℕ → List ℕ → ℕ → ℕ → Reading
reading_from closed words tracks time crc parity label code kinds capture log_room timeBytesRoom =
    cond (named time crc parity kinds)
    (reading closed (plan_from words tracks time crc parity label code) (map kind_of kinds) capture log_room (timeBytesRoom / 8))
    (refuses 1 0 0)

-- the lent bytes for the times after a reading; the spare ones "stay"
abbrev pub time_bytes_after : Reading → List ℕ → List ℕ
time_bytes_after (gives log times) out = over (flat_map time_bytes times) out
time_bytes_after (refuses n p second) out = out

-- a reading's answer, and both lent runs afterwards
abbrev pub GivenBytes : Reading → Answer → List ℕ → List ℕ → List ℕ → List ℕ → Type 0
GivenBytes g r log log' times times' = (r ≡ read_answer g) × (log' ≡ log_after g log) × (times' ≡ time_bytes_after g times)

-- two answers that meet the contract of a reading from C are the same, and leave the same in the lent log and the lent bytes for times
-- (composing from C has the contract `Made`, as composing: `made_one`)
pub given_bytes_one : (g : Reading) (r r' : Answer) (log x x' times y y' : List ℕ) → GivenBytes g r log x times y → GivenBytes g r' log x' times y'
    → (r ≡ r') × (x ≡ x') × (y ≡ y')
given_bytes_one g r r' log x x' times y y' a b = (cc, cc, cc)
