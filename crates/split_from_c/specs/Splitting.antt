-- A reading in two operations from C (document 02, K3).
use Rattle.std.specs.Prelude.{ℕ, ◌/◌, cond, List, map}
use Rattle.format.specs.Read.{Reading, refuses}
use Rattle.capture_rules.specs.Split.{words_read, items_read}
use Rattle.from_c.specs.Numbers.{kind_of, named, plan_from}

-- the first, with a room of so many words, and of so many bytes for the times
unfoldable pub words_from : ℕ → ℕ → ℕ → ℕ → ℕ → ℕ → ℕ → List ℕ → List ℕ → ℕ → ℕ → Reading
words_from words tracks time crc parity label code kinds capture wordRoom timeBytesRoom =
    cond (named time crc parity kinds)
    (words_read (plan_from words tracks time crc parity label code) (map kind_of kinds) capture wordRoom (timeBytesRoom / 8))
    (refuses 1 0 0)

-- the second
unfoldable pub items_from : ℕ → ℕ → ℕ → ℕ → ℕ → ℕ → ℕ → List ℕ → List ℕ → ℕ → Reading
items_from words tracks time crc parity label code kinds ws log_room =
    cond (named time crc parity kinds) (items_read (plan_from words tracks time crc parity label code) (map kind_of kinds) ws log_room) (refuses 1 0 0)
