-- What `vin_compose`, `vin_read` and `vin_read_closed` answered before the plan had its last two lines (document 02, K5): the
-- definitions of compose_from_c and read_from_c over those of `format` that are kept in its Before.
use Rattle.std.specs.Prelude.{ℕ, ◌/◌, ◌%◌, Bool, cond, List, map, length, eqb}
use Rattle.format.specs.Before as was
use Rattle.format.specs.Before.{plain}
use Rattle.format.specs.Compose.{Composed, refused}
use Rattle.format.specs.Log.{on_plan, parsed}
use Rattle.format.specs.Read.{Reading, refuses}
use Rattle.format.specs.declared.Kind.{Kind}
use Rattle.format.specs.declared.Plan.{Plan}
use Rattle.from_c.specs.Numbers.{kind_of, named, times_from}
use Rattle.compose_from_c.specs.Composing.{ragged_parsed}

-- the plan of five numbers
abbrev pub plan_from : ℕ → ℕ → ℕ → ℕ → ℕ → Plan
plan_from words tracks time crc parity = plain words tracks (eqb time 1) (eqb crc 1) (eqb parity 1)

unfoldable pub ragged : Plan → List Kind → List ℕ → Composed
ragged p ks log = cond (was.legal p ks) (ragged_parsed p (parsed (on_plan ks) log)) (refused 1 0)

unfoldable pub composed_from : ℕ → ℕ → ℕ → ℕ → ℕ → List ℕ → List ℕ → List ℕ → ℕ → Composed
composed_from words tracks time crc parity kinds log times room =
    let p : Plan = plan_from words tracks time crc parity in
    let ks : List Kind = map kind_of kinds in
    cond (named time crc parity kinds)
    (cond (eqb (length times % 8) 0) (was.composed p ks log (times_from times) room) (ragged p ks log))
    (refused 1 0)

unfoldable pub reading_from : Bool → ℕ → ℕ → ℕ → ℕ → ℕ → List ℕ → List ℕ → ℕ → ℕ → Reading
reading_from closed words tracks time crc parity kinds capture log_room timeBytesRoom =
    cond (named time crc parity kinds)
    (was.reading closed (plan_from words tracks time crc parity) (map kind_of kinds) capture log_room (timeBytesRoom / 8))
    (refuses 1 0 0)
