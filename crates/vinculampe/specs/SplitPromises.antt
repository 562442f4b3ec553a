-- What a C caller is promised of reading in two operations (document 02, K3), as theorems over what `vin_read_words`, `vin_read_items` and
-- `vin_read_full` answer. They are the promises of `capture_rules` (crates/capture_rules/specs/Promises.antt), carried over to C.
use Rattle.std.specs.Prelude.{ℕ, ◌*◌, ◌/◌, ◌^◌, ◌<◌, ◌≤◌, Bool, ◌≡◌, refl, ◌↔◌, length}
use Rattle.std.proofs.Common.{arith}
use Rattle.std.proofs.Math.Bool.{true, false, cond}
use mathlib.Core.List.{List, [], ◌∷◌, ◌++◌, map}
use Rattle.format.specs.Lists.{All, Bytes}
use Rattle.format.specs.Plan.{slots, group_words, times_needed}
use Rattle.format.specs.Read.{Reading, reading, gives, refuses, groups_in}
use Rattle.format.specs.declared.Kind.{Kind}
use Rattle.format.specs.declared.Plan.{Plan}
use Rattle.capture_rules.specs.Split.{words_read, items_read, in_capture}
use Rattle.capture_rules.proofs.Promises as split
use Rattle.capture_rules.proofs.Laws.Split.Whole.{Meets, same}
use Rattle.from_c.specs.Numbers.{kind_of, named, plan_from}
use Rattle.read_from_c.specs.Reading.{reading_from}
use Rattle.split_from_c.specs.Splitting.{words_from, items_from}

no_gives : {A : Type 0} {k q second : ℕ} {log times : List ℕ} → refuses k q second ≡ gives log times → A
no_gives e = let z : ◌≡◌ {A = ℕ} 0 1 = cc in absurd (omega arith)

same_refusal : {k q second k' q' second' : ℕ} → refuses k q second ≡ refuses k' q' second' → (k ≡ k') × (q ≡ q') × (second ≡ second')
same_refusal e = (cc, cc, cc)

module _ (words tracks time crc parity label code : ℕ) (kinds : List ℕ) where
  -- the plan and the kinds that the numbers name, and what the three functions answer
  abbrev pub plan : Plan
  plan = plan_from words tracks time crc parity label code

  abbrev pub ks : List Kind
  ks = map kind_of kinds

  abbrev pub vin_read_full : List ℕ → ℕ → ℕ → Reading
  vin_read_full c log_room time_room = reading_from false words tracks time crc parity label code kinds c log_room time_room

  abbrev pub vin_read_words : List ℕ → ℕ → ℕ → Reading
  vin_read_words c wordRoom time_room = words_from words tracks time crc parity label code kinds c wordRoom time_room

  abbrev pub vin_read_items : List ℕ → ℕ → Reading
  vin_read_items ws log_room = items_from words tracks time crc parity label code kinds ws log_room

  -- "given room, plain reading accepts exactly when both operations do, with the same log and times"
  pub c_plain_is_both : (c : List ℕ) (wordRoom time_room log_room : ℕ) (log times : List ℕ) → Bytes c
      → groups_in plan c * slots plan ≤ wordRoom → 8 * times_needed plan (groups_in plan c) ≤ time_room
      → (vin_read_full c log_room time_room ≡ gives log times)
      ↔ ((ws : List ℕ) × (vin_read_words c wordRoom time_room ≡ gives ws times) × (vin_read_items ws log_room ≡ gives log []))
  unfolding reading_from words_from items_from
  c_plain_is_both c wordRoom time_room log_room log times bytes wordsFit timesFit = go (named time crc parity kinds)
    where
      go : (b : Bool)
          → (cond b (reading false plan ks c log_room (time_room / 8)) (refuses 1 0 0) ≡ gives log times)
          ↔ ((ws : List ℕ) × (cond b (words_read plan ks c wordRoom (time_room / 8)) (refuses 1 0 0) ≡ gives ws times)
          × (cond b (items_read plan ks ws log_room) (refuses 1 0 0) ≡ gives log []))
      go true = split.plain_is_both plan ks c wordRoom (time_room / 8) log_room log times bytes wordsFit (omega arith)
      go false = (λ e. no_gives e, λ e. no_gives e.1)

  -- where the first gives words, plain reading is the second on these words: its log with the first's times, or its refusal, a 13 or 15 at
  -- the stored place of that word, and the second place of a 13 likewise
  pub c_plain_by_words : (c ws times : List ℕ) (wordRoom time_room log_room : ℕ) → Bytes c → vin_read_words c wordRoom time_room ≡ gives ws times
      → vin_read_full c log_room time_room ≡ in_capture plan times (vin_read_items ws log_room)
  unfolding reading_from words_from items_from
  c_plain_by_words c ws times wordRoom time_room log_room bytes = go (named time crc parity kinds)
    where
      go : (b : Bool) → cond b (words_read plan ks c wordRoom (time_room / 8)) (refuses 1 0 0) ≡ gives ws times
          → cond b (reading false plan ks c log_room (time_room / 8)) (refuses 1 0 0)
          ≡ in_capture plan times (cond b (items_read plan ks ws log_room) (refuses 1 0 0))
      go true e = split.plain_by_words plan ks c ws times wordRoom (time_room / 8) log_room bytes e
      go false e = no_gives e

  -- "where the first gives one of 9 to 12, plain reading gives the same, or a 13 in an earlier group" (and where it gives 1 or 8)
  pub c_first_then_plain : (c : List ℕ) (wordRoom time_room log_room k q second : ℕ) → Bytes c
      → groups_in plan c * slots plan ≤ wordRoom → 8 * times_needed plan (groups_in plan c) ≤ time_room
      → vin_read_words c wordRoom time_room ≡ refuses k q second → Meets (group_words plan) k q second (vin_read_full c log_room time_room)
  unfolding reading_from words_from
  c_first_then_plain c wordRoom time_room log_room k q second bytes wordsFit timesFit = go (named time crc parity kinds)
    where
      go : (b : Bool) → cond b (words_read plan ks c wordRoom (time_room / 8)) (refuses 1 0 0) ≡ refuses k q second
          → Meets (group_words plan) k q second (cond b (reading false plan ks c log_room (time_room / 8)) (refuses 1 0 0))
      go true e = split.first_then_plain plan ks c wordRoom (time_room / 8) log_room k q second bytes wordsFit (omega arith) e
      go false e =
          let s = same_refusal e in
          rw (← s.0, ← s.1, ← s.2) same

  -- K8: "In every other answer the second place is 0."
  pub c_words_second : (c : List ℕ) (wordRoom time_room n place second : ℕ) → vin_read_words c wordRoom time_room ≡ refuses n place second → (n ≡ 13 → ⊥) → second ≡ 0
  unfolding words_from
  c_words_second c wordRoom time_room n place second = go (named time crc parity kinds)
    where
      go : (b : Bool) → cond b (words_read plan ks c wordRoom (time_room / 8)) (refuses 1 0 0) ≡ refuses n place second → (n ≡ 13 → ⊥) → second ≡ 0
      go true e = split.words_second plan ks c wordRoom (time_room / 8) n place second e
      go false e = λ d. omega (arith, (same_refusal e).2)

  pub c_items_second : (ws : List ℕ) (log_room n place second : ℕ) → vin_read_items ws log_room ≡ refuses n place second → (n ≡ 13 → ⊥) → second ≡ 0
  unfolding items_from
  c_items_second ws log_room n place second = go (named time crc parity kinds)
    where
      go : (b : Bool) → cond b (items_read plan ks ws log_room) (refuses 1 0 0) ≡ refuses n place second → (n ≡ 13 → ⊥) → second ≡ 0
      go true e = split.items_second plan ks ws log_room n place second e
      go false e = λ d. omega (arith, (same_refusal e).2)
