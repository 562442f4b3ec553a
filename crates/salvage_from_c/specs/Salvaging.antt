-- A salvage from C (document 02, K10).
use Rattle.std.specs.Prelude.{ℕ, ◌/◌, cond, ◌≡◌}
use Rattle.std.proofs.Common.{sym, ◌∙◌}
use mathlib.Core.List.{List, map, flat_map}
use Rattle.format.specs.Answer.{over}
use Rattle.salvage_rules.specs.Salvage.{Salvage, saves, forgoes, salvaged, salvage_answer, log_after, report_after}
use Rattle.salvage_rules.specs.declared.Salvaged.{Salvaged}
use Rattle.from_c.specs.Numbers.{kind_of, named, plan_from, time_bytes}

-- "A plan number that names no choice or kind is 1."; with a room of so many bytes for the times, whose spare bytes count for nothing
unfoldable pub salvaged_from : ℕ → ℕ → ℕ → ℕ → ℕ → ℕ → ℕ → List ℕ → List ℕ → ℕ → ℕ → ℕ → Salvage
salvaged_from words tracks time crc parity label code kinds capture log_room timeBytesRoom reportRoom =
    cond (named time crc parity kinds)
    (salvaged (plan_from words tracks time crc parity label code) (map kind_of kinds) capture log_room (timeBytesRoom / 8) reportRoom)
    (forgoes 1 0)

-- the lent bytes for the times after a salvage; the spare ones "stay"
abbrev pub time_bytes_after : Salvage → List ℕ → List ℕ
time_bytes_after (saves log times report) out = over (flat_map time_bytes times) out
time_bytes_after (forgoes n p) out = out

-- a salvage's answer, and what is lent afterwards: the log, the bytes for times, the report
abbrev pub SavesBytes : Salvage → Salvaged → List ℕ → List ℕ → List ℕ → List ℕ → List ℕ → List ℕ → Type 0
SavesBytes m r log log' times times' report report' =
    (r ≡ salvage_answer m) × (log' ≡ log_after m log) × (times' ≡ time_bytes_after m times) × (report' ≡ report_after m report)

-- two answers that meet the contract of a salvage from C are the same, and leave the same in all that was lent
pub saves_bytes_one : (m : Salvage) (r r' : Salvaged) (log x x' times y y' report z z' : List ℕ)
    → SavesBytes m r log x times y report z → SavesBytes m r' log x' times y' report z' → (r ≡ r') × (x ≡ x') × (y ≡ y') × (z ≡ z')
saves_bytes_one m r r' log x x' times y y' report z z' a b = (a.0 ∙ sym b.0, a.1 ∙ sym b.1, a.2 ∙ sym b.2, a.3 ∙ sym b.3)
