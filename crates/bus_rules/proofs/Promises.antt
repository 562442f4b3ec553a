-- What two contractors who share a capture are promised, as a theorem over the calls. The proof stands in Laws/Buses; Cases has what does
-- depend on the other buses.
use Rattle.std.specs.Prelude.{ℕ, ◌≤◌, ◌≡◌, List, length}
use Rattle.format.specs.Lists.{Bytes}
use Rattle.format.proofs.Promises.{Sixteen}
use Rattle.format.specs.Compose.{made}
use Rattle.log_rules.specs.Pick.{picked}
use Rattle.log_rules.specs.Scripts.{PicksTo}
use Rattle.log_rules.proofs.Laws.Pick.{pick_fits}
use Rattle.bus_rules.specs.Buses.{ReadsTo, said_on}
use Rattle.bus_rules.specs.Laws.Buses as Buses
use Rattle.format.specs.declared.Kind.{Kind}
use Rattle.format.specs.declared.Plan.{Plan}

-- "take two captures and plans with the same bus kinds, each accepted by plain reading, and suppose that the data words on a set of buses
-- have the same bus, label and information in the same order. Then picking that set from the two readings gives the same bytes."
-- Frame length, tracks, frame time, CRC, parity, label and fill code may differ. "Frame times, refusals, full log lengths and salvage do
-- depend on the others": Cases.
pub other_buses : {p p' : Plan} {ks : List Kind} {c c' log log' times times' out out' : List ℕ} {set : ℕ} → Sixteen ks → Bytes c → Bytes c'
    → ReadsTo p ks c log times → ReadsTo p' ks c' log' times' → said_on set p c ≡ said_on set p' c'
    → PicksTo log set out → PicksTo log' set out' → out ≡ out'
other_buses = Buses.other_buses

-- and neither picking is refused: a room as long as the log is enough
pub both_picked : {p : Plan} {ks : List Kind} {c log times : List ℕ} → Sixteen ks → Bytes c → ReadsTo p ks c log times
    → (set room : ℕ) → length log ≤ room → (out : List ℕ) × (picked log set room ≡ made out)
both_picked sixteen bytes r set room h = let g = Buses.items_of sixteen bytes r in (_, pick_fits set room g.1.log_is h)
