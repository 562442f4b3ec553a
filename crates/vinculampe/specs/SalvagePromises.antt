-- What a C caller is promised of a salvage (document 02, K10), as theorems over what `vin_salvage` and `vin_read_full` answer. They are the
-- promises of `salvage_rules` (crates/salvage_rules/specs/Promises.antt), carried over to C.
use Rattle.std.specs.Prelude.{ℕ, ◌*◌, ◌/◌, ◌≤◌, Bool, ◌≡◌, ◌⊎◌, length, take, drop}
use Rattle.std.proofs.Common.{arith, ap, ◌∙◌, ⊎_elim, take_at}
use Rattle.std.proofs.Math.Bool.{true, false, cond}
use Rattle.std.proofs.Math.Path.{refl, sym}
use Rattle.std.proofs.Math.Logic.{inl, inr}
use mathlib.Core.List.{List, [], map, flat_map}
use Rattle.std.proofs.lemmas.List.{length-map}
use Rattle.format.specs.Read.{Reading, reading, gives, refuses}
use Rattle.format.specs.declared.Kind.{Kind}
use Rattle.format.specs.declared.Plan.{Plan}
use Rattle.from_c.specs.Numbers.{kind_of, named, plan_from, time_bytes}
use Rattle.from_c.specs.Laws.{length_times}
use Rattle.read_from_c.specs.Reading.{reading_from}
use Rattle.salvage_rules.specs.Salvage.{Entry, Salvage, saves, forgoes, salvaged, entry_number}
use Rattle.salvage_rules.proofs.Promises as salvage
use Rattle.salvage_rules.proofs.Laws.Salvage.Call.{Apart, SalvageOf}
use Rattle.salvage_rules.proofs.Laws.Salvage.Named.{entry_of}
use Rattle.salvage_rules.specs.Laws.Salvage.Refusals.{Refused, plan_illegal, not_whole, log_long, times_many, report_long, answer_none}
use Rattle.salvage_rules.specs.declared.Salvaged.{Salvaged}
use Rattle.salvage_from_c.specs.Salvaging.{SavesBytes, salvaged_from}
use Rattle.salvage_from_c.specs.Salvaging as Salvaging
use Rattle.vinculampe.specs.Laws.{gives_from, named_sixteen}

-- ---- the contract has one answer, and no answer has a second place

pub saves_bytes_one : (m : Salvage) (r r' : Salvaged) (log x x' times y y' report z z' : List ℕ)
    → SavesBytes m r log x times y report z → SavesBytes m r' log x' times y' report z' → (r ≡ r') × (x ≡ x') × (y ≡ y') × (z ≡ z')
saves_bytes_one = Salvaging.saves_bytes_one

-- K8: "In every other answer the second place is 0.", and salvage has no 13
pub c_salvage_second : (m : Salvage) (r : Salvaged) (log log' times times' report report' : List ℕ)
    → SavesBytes m r log log' times times' report report' → r.second ≡ 0
c_salvage_second m r log log' times times' report report' a = rw a.0 (answer_none m)

no_saves : {A : Type 0} {n q : ℕ} {log times : List ℕ} {report : List Entry} → forgoes n q ≡ saves log times report → A
no_saves e = let z : ◌≡◌ {A = ℕ} 0 1 = cc in absurd (omega arith)

same_refusal : {n q n' q' : ℕ} → forgoes n q ≡ forgoes n' q' → (n ≡ n') × (q ≡ q')
same_refusal e = (cc, cc)

module _ (words tracks time crc parity label code : ℕ) (kinds : List ℕ) where
  -- the plan and the kinds that the numbers name, and what the two functions answer
  abbrev pub plan : Plan
  plan = plan_from words tracks time crc parity label code

  abbrev pub ks : List Kind
  ks = map kind_of kinds

  abbrev pub vin_read_full : List ℕ → ℕ → ℕ → Reading
  vin_read_full c log_room time_room = reading_from false words tracks time crc parity label code kinds c log_room time_room

  abbrev pub vin_salvage : List ℕ → ℕ → ℕ → ℕ → Salvage
  vin_salvage c log_room time_room reportRoom = salvaged_from words tracks time crc parity label code kinds c log_room time_room reportRoom

  -- what is saved for C, a salvage saves: so all that `salvage_rules` promises of it holds
  pub c_saves : (c log times : List ℕ) (report : List Entry) (log_room time_room reportRoom : ℕ) → vin_salvage c log_room time_room reportRoom ≡ saves log times report
      → (named time crc parity kinds ≡ true) × (salvaged plan ks c log_room (time_room / 8) reportRoom ≡ saves log times report)
  unfolding salvaged_from
  c_saves c log times report log_room time_room reportRoom e = go (named time crc parity kinds) refl e
    where
      go : (b : Bool) → named time crc parity kinds ≡ b → cond b (salvaged plan ks c log_room (time_room / 8) reportRoom) (forgoes 1 0) ≡ saves log times report
          → (named time crc parity kinds ≡ true) × (salvaged plan ks c log_room (time_room / 8) reportRoom ≡ saves log times report)
      go true n e = (n, e)
      go false n e = no_saves e

  from_saves : (c : List ℕ) (log_room time_room reportRoom : ℕ) → named time crc parity kinds ≡ true
      → vin_salvage c log_room time_room reportRoom ≡ salvaged plan ks c log_room (time_room / 8) reportRoom
  unfolding salvaged_from
  from_saves c log_room time_room reportRoom n = rw n

  -- "Every data word is in one item, one report entry or a reported group.": the log parses under the plan, the tape is dealt piece by piece
  -- to the words of its items and to the report, and the data words that the report does not name are just those words, in order; and
  -- "The time row has the kept groups only." (`SalvageOf`)
  pub c_salvages : (c log times : List ℕ) (report : List Entry) (log_room time_room reportRoom : ℕ)
      → vin_salvage c log_room time_room reportRoom ≡ saves log times report → SalvageOf plan ks c log times report
  c_salvages c log times report log_room time_room reportRoom e =
      let s = c_saves c log times report log_room time_room reportRoom e in
      salvage.salvages plan ks c log times report log_room (time_room / 8) reportRoom (named_sixteen words tracks time crc parity label code kinds s.0) s.1

  -- "Nothing is joined across a dropped group": no item has words on both sides of one (`Apart`)
  pub c_sides_apart : (c log times : List ℕ) (report : List Entry) (log_room time_room reportRoom : ℕ)
      → vin_salvage c log_room time_room reportRoom ≡ saves log times report → Apart plan ks c log report
  c_sides_apart c log times report log_room time_room reportRoom e =
      let s = c_saves c log times report log_room time_room reportRoom e in
      salvage.sides_apart plan ks c log times report log_room (time_room / 8) reportRoom (named_sixteen words tracks time crc parity label code kinds s.0) s.1

  -- "The report names each dropped group by index with its fault's number, and each dropped data word outside these by its place": each number
  -- of the report says which of the two it is, and of what (`entry_of`)
  pub c_report_named : (c log times : List ℕ) (report : List Entry) (log_room time_room reportRoom : ℕ)
      → vin_salvage c log_room time_room reportRoom ≡ saves log times report → map entry_of (map entry_number report) ≡ report
  c_report_named c log times report log_room time_room reportRoom e =
      let s = c_saves c log times report log_room time_room reportRoom e in
      salvage.report_named plan ks c log times report log_room (time_room / 8) reportRoom (named_sixteen words tracks time crc parity label code kinds s.0) s.1

  -- "A capture that plain reading accepts gives the same log and an empty report.", and the same times, in the same room
  pub c_accepted_saved : (c log times : List ℕ) (log_room time_room reportRoom : ℕ) → vin_read_full c log_room time_room ≡ gives log times
      → vin_salvage c log_room time_room reportRoom ≡ saves log times []
  c_accepted_saved c log times log_room time_room reportRoom e =
      let g = gives_from words tracks time crc parity label code kinds false c log times log_room time_room e in
      from_saves c log_room time_room reportRoom g.0 ∙ salvage.accepted_saved plan ks c log times log_room (time_room / 8) reportRoom g.1

  -- The other way round plain reading accepts, or refuses by 15 ("Open notices remain.")
  pub c_saved_accepted : (c log times : List ℕ) (log_room time_room reportRoom : ℕ) → vin_salvage c log_room time_room reportRoom ≡ saves log times []
      → (vin_read_full c log_room time_room ≡ gives log times) ⊎ ((q : ℕ) × (vin_read_full c log_room time_room ≡ refuses 15 q 0))
  unfolding reading_from
  c_saved_accepted c log times log_room time_room reportRoom e =
      let s = c_saves c log times [] log_room time_room reportRoom e in
      rw s.0 (salvage.saved_accepted plan ks c log times log_room (time_room / 8) reportRoom s.1)

  -- "Refusals: 1, 8, then 6, 7, then 20 for too little report room (entries needed)": 1 also where a number names no choice or kind; else the
  -- number, its place, and that none before it holds (`Refused`)
  pub c_salvage_refused : (c : List ℕ) (log_room time_room reportRoom number place : ℕ) → vin_salvage c log_room time_room reportRoom ≡ forgoes number place
      → ((named time crc parity kinds ≡ false) × (number ≡ 1) × (place ≡ 0)) ⊎ Refused plan ks c log_room (time_room / 8) reportRoom number place
  unfolding salvaged_from
  c_salvage_refused c log_room time_room reportRoom number place e = go (named time crc parity kinds) refl e
    where
      go : (b : Bool) → named time crc parity kinds ≡ b → cond b (salvaged plan ks c log_room (time_room / 8) reportRoom) (forgoes 1 0) ≡ forgoes number place
          → ((named time crc parity kinds ≡ false) × (number ≡ 1) × (place ≡ 0)) ⊎ Refused plan ks c log_room (time_room / 8) reportRoom number place
      go true n e = inr (salvage.salvage_refused plan ks c log_room (time_room / 8) reportRoom number place e)
      go false n e =
          let s = same_refusal e in
          inl (n, sym s.0, sym s.1)

  refused_number : (c : List ℕ) (log_room time_room reportRoom number place : ℕ) → Refused plan ks c log_room time_room reportRoom number place → 1 ≤ number
  refused_number c log_room time_room reportRoom _ _ (plan_illegal l) = omega arith
  refused_number c log_room time_room reportRoom _ _ (not_whole l w) = omega arith
  refused_number c log_room time_room reportRoom _ _ (log_long l w f) = omega arith
  refused_number c log_room time_room reportRoom _ _ (times_many l w f t) = omega arith
  refused_number c log_room time_room reportRoom _ _ (report_long l w f t r) = omega arith

  -- number 0 says that the work is done
  pub c_salvage_number : (c : List ℕ) (log_room time_room reportRoom number place : ℕ) → vin_salvage c log_room time_room reportRoom ≡ forgoes number place → 1 ≤ number
  c_salvage_number c log_room time_room reportRoom number place e =
      ⊎_elim (λ n. omega (arith, n.1)) (λ r. refused_number c log_room (time_room / 8) reportRoom number place r) (c_salvage_refused c log_room time_room reportRoom number place e)

  -- and what the lent buffers then hold: by what a call returns and leaves, the log, the times, eight bytes each, and the report, as many as
  -- the answer says
  pub c_salvage_done : (c log log' times times' report report' : List ℕ) (r : Salvaged)
      → SavesBytes (vin_salvage c (length log) (length times) (length report)) r log log' times times' report report' → r.number ≡ 0
      → (l : List ℕ) × (row : List ℕ) × (es : List Entry) × (vin_salvage c (length log) (length times) (length report) ≡ saves l row es)
      × (take r.bytes log' ≡ l) × (take (8 * r.times) times' ≡ flat_map time_bytes row) × (take r.entries report' ≡ map entry_number es)
  c_salvage_done c log log' times times' report report' r a z = go (vin_salvage c (length log) (length times) (length report)) refl a
    where
      go : (m : Salvage) → vin_salvage c (length log) (length times) (length report) ≡ m → SavesBytes m r log log' times times' report report'
          → (l : List ℕ) × (row : List ℕ) × (es : List Entry) × (vin_salvage c (length log) (length times) (length report) ≡ saves l row es)
          × (take r.bytes log' ≡ l) × (take (8 * r.times) times' ≡ flat_map time_bytes row) × (take r.entries report' ≡ map entry_number es)
      go (saves l row es) e a = (
        l,
        row,
        es,
        e,
        rw (a.0, a.1) (take_at l (drop (length l) log) (length l) refl),
        rw (a.0, a.2) (take_at (flat_map time_bytes row) (drop (length (flat_map time_bytes row)) times) (8 * length row) (length_times row)),
        rw (a.0, a.3) (take_at (map entry_number es) (drop (length (map entry_number es)) report) (length es) (length-map es entry_number)),
      )
      go (forgoes n q) e a =
          let k : n ≡ 0 = sym (ap (λ (x : Salvaged). x.number) a.0) ∙ z in
          absurd (omega (arith, c_salvage_number c (length log) (length times) (length report) n q e))
