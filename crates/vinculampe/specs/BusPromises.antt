-- What a C caller is promised of buses that share a capture (document 02, K14), as a theorem over what `vin_read_full` and `vin_pick` answer. It
-- is the promise of `bus_rules` (crates/bus_rules/specs/Promises.antt), carried over to C.
use Rattle.std.specs.Prelude.{ℕ, ◌/◌, false, ◌≡◌, refl, List, map, length, take, drop}
use Rattle.std.proofs.Common.{arith, ap, sym, ◌∙◌, take_at}
use Rattle.format.specs.Lists.{Bytes}
use Rattle.format.specs.Read.{Reading, gives, refuses}
use Rattle.format.specs.declared.Answer.{Answer}
use Rattle.format.specs.declared.Plan.{Plan}
use Rattle.from_c.specs.Numbers.{kind_of, plan_from}
use Rattle.read_from_c.specs.Reading.{GivenBytes, reading_from}
use Rattle.bus_rules.specs.Buses.{ReadsTo, said_on}
use Rattle.bus_rules.proofs.Promises as buses
use Rattle.vinculampe.specs.Calls.{VinPick}
use Rattle.vinculampe.specs.Laws.{gives_from, named_sixteen, reading_refused_from}
use Rattle.vinculampe.specs.Scripts.{vin_picks}

-- a plan by its seven numbers
pub record Seven : Type 0 where
  pub words : ℕ
  pub tracks : ℕ
  pub time : ℕ
  pub crc : ℕ
  pub parity : ℕ
  pub label : ℕ
  pub code : ℕ

abbrev pub plan_of : Seven → Plan
plan_of n = plan_from n.words n.tracks n.time n.crc n.parity n.label n.code

-- what `vin_read_full` answers
abbrev pub vin_read_full : Seven → List ℕ → List ℕ → ℕ → ℕ → Reading
vin_read_full n kinds c log_room time_room = reading_from false n.words n.tracks n.time n.crc n.parity n.label n.code kinds c log_room time_room

-- a call of it that answered 0, by its contract: what was lent, what is left there, and the log that the answer says was written
pub record VinRead (n : Seven) (kinds c log : List ℕ) : Type 0 where
  pub lent : List ℕ
  pub left : List ℕ
  pub times : List ℕ
  pub times' : List ℕ
  pub answer : Answer
  pub contract : GivenBytes (vin_read_full n kinds c (length lent) (length times)) answer lent left times times'
  pub done : answer.number ≡ 0
  pub wrote : take answer.bytes left ≡ log

-- it is a reading that accepted the capture, by a plan that the numbers name
vin_reads : {n : Seven} {kinds c log : List ℕ} → VinRead n kinds c log
    → (times : List ℕ) × (length (map kind_of kinds) ≡ 16) × ReadsTo (plan_of n) (map kind_of kinds) c log times
vin_reads {n} {kinds} {c} {log} v = go (vin_read_full n kinds c (length v.lent) (length v.times)) refl v.contract
  where
    go : (g : Reading) → vin_read_full n kinds c (length v.lent) (length v.times) ≡ g → GivenBytes g v.answer v.lent v.left v.times v.times'
        → (times : List ℕ) × (length (map kind_of kinds) ≡ 16) × ReadsTo (plan_of n) (map kind_of kinds) c log times
    go (refuses k q second) e a =
        let z : k ≡ 0 = sym (ap (λ (x : Answer). x.number) a.0) ∙ v.done in
        let r = reading_refused_from n.words n.tracks n.time n.crc n.parity n.label n.code kinds false c (length v.lent) (length v.times) k q second e in
        absurd (omega (arith, z, r.0))
    go (gives new row) e a =
        let f = gives_from n.words n.tracks n.time n.crc n.parity n.label n.code kinds false c new row (length v.lent) (length v.times) e in
        let s = named_sixteen n.words n.tracks n.time n.crc n.parity n.label n.code kinds f.0 in
        let w : new ≡ log = sym (take_at new (drop (length new) v.lent) (length new) refl) ∙ sym (rw (a.0, a.1) refl) ∙ v.wrote in
        (row, s, record { log_room = length v.lent; time_room = length v.times / 8; answers = rw (← w) f.1 })

-- "take two captures and plans with the same bus kinds, each accepted by plain reading, and suppose that the data words on a set of buses
-- have the same bus, label and information in the same order. Then picking that set from the two readings gives the same bytes."
-- "Frame times, refusals, full log lengths and salvage do depend on the others": crates/bus_rules/specs/Cases.antt.
pub c_other_buses : {n n' : Seven} {kinds c c' log log' out out' : List ℕ} {buses : ℕ} → Bytes c → Bytes c'
    → VinRead n kinds c log → VinRead n' kinds c' log' → said_on buses (plan_of n) c ≡ said_on buses (plan_of n') c'
    → VinPick log buses out → VinPick log' buses out' → out ≡ out'
c_other_buses b b' v v' same one other =
    let r = vin_reads v in
    let r' = vin_reads v' in
    buses.other_buses r.1 b b' r.2 r'.2 same (vin_picks one) (vin_picks other)
