-- What the user is promised of the stream and the salvage of one capture, as theorems over the definitions.
use Rattle.std.specs.Prelude.{ℕ, ◌≤◌, true, ◌≡◌, List, ◌++◌}
use Rattle.format.specs.Plan.{legal}
use Rattle.format.proofs.Promises.{Sixteen}
use Rattle.format.specs.declared.Kind.{Kind}
use Rattle.format.specs.declared.Plan.{Plan}
use Rattle.stream_rules.specs.Stream.{streamed}
use Rattle.salvage_rules.specs.Salvage.{Entry, salvaged, saves}
use Rattle.stream_salvage.specs.Laws.Handed.{UpTo, tale}
use Rattle.stream_salvage.specs.Laws.Handed as Handed

-- K4 and K10 share one notion. Where a fault of 9 to 12 ends the stream, no 13 and no 15 having been shown before, the items that it handed
-- out (`tale`) are exactly those salvaged of the groups before that one; the words that it still held are the first that the report names,
-- the group is next, and what is salvaged behind it is what the groups behind it give by themselves (`UpTo`)
pub stream_is_salvage : (p : Plan) (ks : List Kind) (c : List ℕ) → legal p ks ≡ true → 9 ≤ (tale p ks c).number → (tale p ks c).number ≤ 12 → UpTo p ks c
stream_is_salvage = Handed.up_to_the_gap

-- Whatever ends the stream, the bytes of log and the times that all its cuttings hand out are the first of those that a salvage gives
pub streamed_first : (p : Plan) (ks : List Kind) (c log times : List ℕ) (report : List Entry) (log_room time_room reportRoom : ℕ) → Sixteen ks
    → salvaged p ks c log_room time_room reportRoom ≡ saves log times report
    → (moreLog : List ℕ) × (moreTimes : List ℕ) × (log ≡ (streamed p ks c).log ++ moreLog) × (times ≡ (streamed p ks c).times ++ moreTimes)
streamed_first = Handed.handed_first
