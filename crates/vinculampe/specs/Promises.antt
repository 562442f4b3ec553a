-- What a C caller is promised, as theorems over what the functions answer: a plan and kinds as numbers, times as runs of eight bytes. They
-- are the promises of `format` (crates/format/specs/Promises.antt), carried over to C, and those of `log_rules` (crates/log_rules/specs/Promises.antt)
-- where times cross; Laws and Scripts have how.
use Rattle.std.specs.Prelude.{ℕ, ◌*◌, ◌/◌, ◌%◌, ◌^◌, ◌<◌, ◌≤◌, Bool, true, ◌≡◌, refl, ◌↔◌, ◌⊎◌, ℤ, pos, ◌+ℤ◌, length, take, drop}
use Rattle.std.proofs.Common.{arith, ap, sym, ◌∙◌, take_at}
use mathlib.Core.List.{List, [], ◌∷◌, map, flat_map}
use Rattle.std.specs.Int.Bits.{bit_and}
use Rattle.format.specs.Answer.{Made, over, success}
use Rattle.format.specs.Compose.{Composed, made, refused, composed, capture_of}
use Rattle.format.specs.Item.{item_words}
use Rattle.format.specs.Lawful.{Lawful}
use Rattle.format.specs.Log.{log_of}
use Rattle.format.specs.Plan.{group_words, legal, times_needed}
use Rattle.format.specs.Time.{time_end}
use Rattle.format.specs.Laws.Lists.{all_map}
use Rattle.format.specs.declared.Item.{Item}
use Rattle.format.specs.declared.Kind.{Kind}
use Rattle.format.specs.declared.Plan.{Plan}
use Rattle.format.specs.Lists.{All, Bytes}
use Rattle.format.specs.Read.{Reading, reading, gives, refuses, groups_in}
use Rattle.format.proofs.Laws.Exactly as Exactly
use Rattle.format.proofs.Laws.ThereAndBack.{made_fits}
use Rattle.format.specs.Laws.Second.{answer_only}
use Rattle.format.proofs.Promises as format
use Rattle.format.specs.declared.Answer.{Answer}
use Rattle.from_c.specs.Numbers.{kind_of, named, plan_from, time_bytes, times_from}
use Rattle.from_c.specs.Laws as Times
use Rattle.compose_from_c.specs.Composing.{composed_from}
use Rattle.read_from_c.specs.Reading.{GivenBytes, reading_from, time_bytes_after}
use Rattle.read_from_c.specs.Reading as Reading-from
use Rattle.log_rules.specs.Profile.{Judged, profiled}
use Rattle.log_rules.specs.Replay.{Replay, Replays}
use Rattle.log_rules.specs.Shift.{in_limits, shifted}
use Rattle.log_rules.proofs.Promises as logs
use Rattle.log_rules.specs.Laws.Second.{profile_none, replay_none, shift_none}
use Rattle.log_rules.specs.declared.Replayed.{Replayed}
use Rattle.log_shift.specs.Shifted.{Shifted}
use Rattle.vinculampe.specs.Calls.{VinPick, VinJoin, VinShift}
use Rattle.vinculampe.specs.Scripts.{row_after, row_stays, two_rows, vin_joins, vin_picked, vin_picks, vin_shifts}
use Rattle.vinculampe.specs.Before as was
use Rattle.vinculampe.specs.Laws.{named_sixteen, made_bytes, composed_refused_from, reading_refused_from, read_only_from}
use Rattle.vinculampe.specs.Laws.{made_from, from_made, gives_from, from_gives, composed_from_before, reading_from_before}

-- ---- A contract has only one answer

-- (composing from C has the contract `Made`, as composing: `made_one`)
pub given_bytes_one : (g : Reading) (r r' : Answer) (log x x' times y y' : List ℕ) → GivenBytes g r log x times y → GivenBytes g r' log x' times y'
    → (r ≡ r') × (x ≡ x') × (y ≡ y')
given_bytes_one = Reading-from.given_bytes_one

-- ---- Times as numbers and as runs of eight bytes are one thing

-- 64-bit numbers, as bytes, say those numbers
pub times_back : (row : List ℕ) → All (λ t. t < 2 ^ 64) row → times_from (flat_map time_bytes row) ≡ row
times_back = Times.times_back

-- whole eights of bytes are those of the numbers that they say
pub bytes_back : (times : List ℕ) → Bytes times → length times % 8 ≡ 0 → flat_map time_bytes (times_from times) ≡ times
bytes_back = Times.bytes_back

-- so a reading that gives the times that some bytes say leaves those very bytes
pub bytes_left : (log times old : List ℕ) → Bytes times → length times % 8 ≡ 0 → time_bytes_after (gives log (times_from times)) old ≡ over times old
bytes_left log times old bytes whole = ap (λ (b : List ℕ). over b old) (bytes_back times bytes whole)

-- ---- Laws our scripts lean on (document 02, K12): of calls that answered 0 (`VinPick`, `VinJoin`, `VinShift`: what was handed over, and the
-- bytes that were written), "where every call named succeeds"

-- "Picking from a joined log is joining the picked logs."
pub c_pick_of_join : {first second both out a b out' : List ℕ} {buses : ℕ} → Bytes first → Bytes second
    → VinJoin first second both → VinPick both buses out
    → VinPick first buses a → VinPick second buses b → VinJoin a b out' → out ≡ out'
c_pick_of_join f s j p one other k = logs.pick_of_join f s (vin_joins j) (vin_picks p) (vin_picks one) (vin_picks other) (vin_joins k)

-- "Picking twice is picking the common buses."
pub c_pick_twice : {log once twice out : List ℕ} {s t : ℕ} → Bytes log
    → VinPick log s once → VinPick once t twice → VinPick log (bit_and s t) out → twice ≡ out
c_pick_twice bytes one two both = logs.pick_twice bytes (vin_picks one) (vin_picks two) (vin_picks both)

-- "Joining is associative, and the empty log on either side changes nothing."
pub c_join_associates : {a b c ab abc bc abc' : List ℕ} → Bytes a → Bytes b → Bytes c
    → VinJoin a b ab → VinJoin ab c abc → VinJoin b c bc → VinJoin a bc abc' → abc ≡ abc'
c_join_associates x y z ab abc bc abc' = logs.join_associates x y z (vin_joins ab) (vin_joins abc) (vin_joins bc) (vin_joins abc')

pub c_join_empty : {log out : List ℕ} → Bytes log → VinJoin log (0 ∷ []) out → out ≡ log
c_join_empty bytes j = logs.join_empty bytes (vin_joins j)

pub c_empty_join : {log out : List ℕ} → Bytes log → VinJoin (0 ∷ []) log out → out ≡ log
c_empty_join bytes j = logs.empty_join bytes (vin_joins j)

-- "Shifting by a, then by b, is shifting by a + b,": the log, and the time row with its spare bytes
pub c_shift_twice : {log times l1 t1 l2 t2 l3 t3 : List ℕ} {a b : ℤ} → Bytes log
    → VinShift log times a l1 t1 → VinShift l1 t1 b l2 t2 → VinShift log times (a +ℤ b) l3 t3 → (l2 ≡ l3) × (t2 ≡ t3)
c_shift_twice bytes one two sum =
    let s = vin_shifts bytes one in
    let u = vin_shifts s.bytes two in
    let v = vin_shifts bytes sum in
    let e = logs.shift_twice bytes s.shifts u.shifts v.shifts in
    (e.0, two_rows s u v e.1)

-- and more: where the two answer 0 and a + b is within the limits, the one shift, lent room for the log, answers 0 and leaves the same
pub c_shift_once : {log times l1 t1 l2 t2 : List ℕ} {a b : ℤ} → Bytes log → VinShift log times a l1 t1 → VinShift l1 t1 b l2 t2
    → in_limits (a +ℤ b) ≡ true → (lent left times' : List ℕ) (r : Answer) → length log ≤ length lent
    → Shifted (shifted log (times_from times) (a +ℤ b) (length lent)) r lent left times times'
    → (r.number ≡ 0) × (take r.bytes left ≡ l2) × (times' ≡ t2)
c_shift_once {log} {l2 = l2} bytes one two limits lent left times' r fits contract =
    let s = vin_shifts bytes one in
    let u = vin_shifts s.bytes two in
    let e = logs.shift_once bytes s.shifts u.shifts (length lent) limits fits in
    let c = rw e at contract in
    (ap (λ (x : Answer). x.number) c.0, rw (c.0, c.1) (take_at l2 (drop (length l2) lent) (length l2) refl), c.2 ∙ sym (row_after s u))

-- "and by 0 changes nothing."
pub c_shift_none : {log times out times' : List ℕ} → Bytes log → Bytes times → VinShift log times (pos 0) out times' → (out ≡ log) × (times' ≡ times)
c_shift_none {times = times} bytes whole none =
    let s = vin_shifts bytes none in
    let e = logs.shift_none bytes s.shifts in
    (e.0, s.row ∙ ap (λ (row : List ℕ). over (flat_map time_bytes row) times) e.1 ∙ row_stays times whole)

-- "Picking and shifting may change places."
pub c_pick_shift : {log times p x t q y t' : List ℕ} {buses : ℕ} {by : ℤ} → Bytes log
    → VinPick log buses p → VinShift p times by x t
    → VinShift log times by q t' → VinPick q buses y → (x ≡ y) × (t ≡ t')
c_pick_shift {times = times} bytes pick of-picked shift of-shifted =
    let u = vin_shifts (vin_picked bytes pick) of-picked in
    let v = vin_shifts bytes shift in
    let e = logs.pick_shift bytes (vin_picks pick) u.shifts v.shifts (vin_picks of-shifted) in
    (e.0, u.row ∙ ap (λ (row : List ℕ). over (flat_map time_bytes row) times) e.1 ∙ sym v.row)

-- ---- Composing and the readings, by the numbers that name a plan, the CRC word's label and the fill bus code among them

module _ (words tracks time crc parity label code : ℕ) (kinds : List ℕ) where
  -- the plan and the kinds that they name, what `vin_compose_full` answers, and what `vin_read_full` and `vin_read_closed_full` answer
  abbrev pub plan : Plan
  plan = plan_from words tracks time crc parity label code

  abbrev pub ks : List Kind
  ks = map kind_of kinds

  abbrev pub vin_compose_full : List ℕ → List ℕ → ℕ → Composed
  vin_compose_full log times room = composed_from words tracks time crc parity label code kinds log times room

  abbrev pub vin_read_full : Bool → List ℕ → ℕ → ℕ → Reading
  vin_read_full closed c log_room time_room = reading_from closed words tracks time crc parity label code kinds c log_room time_room

  -- what is made from C, composing makes of the plan and the kinds that the numbers name and the times that the bytes say: so all that `format`
  -- promises of a composed capture holds of it
  pub c_makes : (log times c : List ℕ) (room : ℕ) → vin_compose_full log times room ≡ made c
      → (named time crc parity kinds ≡ true) × (length times % 8 ≡ 0)
      × (composed plan ks log (times_from times) room ≡ made c)
  c_makes = made_from words tracks time crc parity label code kinds

  -- and what is given to C, a reading gives
  pub c_gives : (closed : Bool) (c log row : List ℕ) (log_room time_room : ℕ) → vin_read_full closed c log_room time_room ≡ gives log row
      → (named time crc parity kinds ≡ true) × (reading closed plan ks c log_room (time_room / 8) ≡ gives log row)
  c_gives = gives_from words tracks time crc parity label code kinds

  -- numbers that name a legal plan and sixteen kinds, lawful items, no open notice, a log of at most 32,768 bytes, the right number of times,
  -- each below the limit, and room: the capture is made
  pub c_composes : (is : List Item) (row : List ℕ) (room : ℕ) → named time crc parity kinds ≡ true → legal plan ks ≡ true
      → All (Lawful ks) is → format.NoneOpen is → length (log_of is) ≤ 32768
      → length row ≡ times_needed plan (format.groups_of plan is) → All (λ t. t < time_end) row
      → format.groups_of plan is * (3 * group_words plan) ≤ room
      → vin_compose_full (log_of is) (flat_map time_bytes row) room ≡ made (capture_of plan row (flat_map item_words is))
  c_composes is row room names lawful each closed short number early fits =
      let whole : length (flat_map time_bytes row) % 8 ≡ 0 = rw (Times.length_times row) (omega arith) in
      let back : times_from (flat_map time_bytes row) ≡ row = Times.times_back row (all_map (λ t h. omega arith) early) in
      from_made words tracks time crc parity label code kinds (log_of is) (flat_map time_bytes row) room names whole
      ∙ rw back (format.composes _ _ is row room lawful (named_sixteen words tracks time crc parity label code kinds names) each closed short number early fits)

  -- demand 2: reading what was composed gives back the same log and times, given room in bytes; plain and closed
  pub c_composed_read : (closed : Bool) (log times c : List ℕ) (space log_room time_room : ℕ) → Bytes log
      → vin_compose_full log times space ≡ made c → length log ≤ log_room → length times ≤ time_room
      → vin_read_full closed c log_room time_room ≡ gives log (times_from times)
  c_composed_read closed log times c space log_room time_room bytes makes log_fits timesFit =
      let m = made_from words tracks time crc parity label code kinds log times c space makes in
      let fits : length (times_from times) ≤ time_room / 8 = rw (Times.times_number times) (omega arith) in
      from_gives words tracks time crc parity label code kinds closed c log_room time_room m.0
      ∙ format.composed_read closed _ _ log (times_from times) c space log_room (time_room / 8) bytes m.2 log_fits fits

  -- the same, by what two calls return and leave: where `vin_compose_full` answered 0, the two readings of the bytes that it says it wrote, lent
  -- room, answer 0 with both lengths, and leave that log and those bytes of times, and nothing else
  pub c_there_and_back : (closed : Bool) (log times out out' : List ℕ) (r : Answer) → Bytes log → Bytes times
      → Made (vin_compose_full log times (length out)) r out out' → r.number ≡ 0
      → (lentLog lentLog' lentTimes lentTimes' : List ℕ) (s : Answer) → length log ≤ length lentLog → length times ≤ length lentTimes
      → GivenBytes (vin_read_full closed (take r.bytes out') (length lentLog) (length lentTimes)) s lentLog lentLog' lentTimes lentTimes'
      → (s ≡ success (length log) (length times / 8)) × (lentLog' ≡ over log lentLog) × (lentTimes' ≡ over times lentTimes)
  c_there_and_back closed log times out out' r logBytes timesBytes contract zero lentLog lentLog' lentTimes lentTimes' s log_fits timesFit given =
      let (c, makes, bytes) = made_bytes _ r out out' (composed_refused_from words tracks time crc parity label code kinds log times (length out)) contract zero in
      let reads = c_composed_read closed log times c (length out) (length lentLog) (length lentTimes) logBytes makes log_fits timesFit in
      let g = rw (bytes, reads) at given in
      let whole = (made_from words tracks time crc parity label code kinds log times c (length out) makes).1 in
      (g.0 ∙ ap (success (length log)) (Times.times_number times), g.1, g.2 ∙ bytes_left log times lentTimes timesBytes whole)

  -- number 0 says that the work is done: a refusal has a number of document 01's table, or 15
  pub c_refused_by : (log times : List ℕ) (room number place : ℕ) → vin_compose_full log times room ≡ refused number place
      → (1 ≤ number) × ((number ≤ 6) ⊎ (number ≡ 15))
  c_refused_by = composed_refused_from words tracks time crc parity label code kinds

  pub c_refuses_by : (closed : Bool) (c : List ℕ) (log_room time_room number place second : ℕ)
      → vin_read_full closed c log_room time_room ≡ refuses number place second → (1 ≤ number) × (number ≤ 15)
  c_refuses_by = reading_refused_from words tracks time crc parity label code kinds

  -- "In every other answer the second place is 0": of a reading, in every answer but 13
  pub c_read_second : (closed : Bool) (c : List ℕ) (log_room time_room : ℕ) (r : Answer) (log log' times times' : List ℕ)
      → GivenBytes (vin_read_full closed c log_room time_room) r log log' times times' → (r.number ≡ 13 → ⊥) → r.second ≡ 0
  c_read_second closed c log_room time_room r log log' times times' a =
      rw a.0 (answer_only (vin_read_full closed c log_room time_room) (read_only_from words tracks time crc parity label code kinds closed c log_room time_room))

  -- demand 3: given room, a log and times are what the closed reading gives if and only if composing them makes the capture
  pub c_closed_exactly : (c log times : List ℕ) (log_room time_room space : ℕ) → Bytes c → Bytes log → length times % 8 ≡ 0
      → length log ≤ log_room → length times ≤ time_room → length c ≤ space
      → (vin_read_full true c log_room time_room ≡ gives log (times_from times))
      ↔ (vin_compose_full log times space ≡ made c)
  c_closed_exactly c log times log_room time_room space bytes logBytes whole log_fits timesFit fits = (
    λ r.
        let g = gives_from words tracks time crc parity label code kinds true c log (times_from times) log_room time_room r in
        from_made words tracks time crc parity label code kinds log times space g.0 whole
        ∙ (format.closed_exactly _ _ c log (times_from times) log_room (time_room / 8) space (named_sixteen words tracks time crc parity label code kinds g.0) bytes logBytes log_fits room fits).0 g.1,
    λ m. c_composed_read true log times c space log_room time_room logBytes m log_fits timesFit,
  )
    where
      room : length (times_from times) ≤ time_room / 8
      room = rw (Times.times_number times) (omega arith)

  -- a log and bytes of times compose to the capture, in just its room
  abbrev pub ComposesFrom : List ℕ → List ℕ → List ℕ → Type 0
  ComposesFrom log times c = Bytes log × Bytes times × (vin_compose_full log times (length c) ≡ made c)

  -- with room for the longest log and eight bytes a group, the closed reading accepts if and only if there are such a log and times
  pub c_closed_accepts : (c : List ℕ) (log_room time_room : ℕ) → Bytes c → 32768 ≤ log_room → 8 * groups_in plan c ≤ time_room
      → ((log : List ℕ) × (row : List ℕ) × (vin_read_full true c log_room time_room ≡ gives log row))
      ↔ ((log : List ℕ) × (times : List ℕ) × ComposesFrom log times c)
  c_closed_accepts c log_room time_room bytes log_fits timesFit = (
    λ r.
        let g = gives_from words tracks time crc parity label code kinds true c r.0 r.1 log_room time_room r.2 in
        let b : times_from (flat_map time_bytes r.1) ≡ r.1 = Times.times_back r.1 (format.gives_times true _ _ c r.0 r.1 log_room (time_room / 8) g.1) in
        let whole : length (flat_map time_bytes r.1) % 8 ≡ 0 = rw (Times.length_times r.1) (omega arith) in
        let m = Exactly.closed_exactly _ _ c r.0 r.1 log_room (time_room / 8) (length c) (named_sixteen words tracks time crc parity label code kinds g.0) bytes g.1 (omega arith) in (
          r.0,
          flat_map time_bytes r.1,
          (
            format.gives_bytes true _ _ c r.0 r.1 log_room (time_room / 8) g.1,
            Times.times_bytes r.1,
            from_made words tracks time crc parity label code kinds r.0 (flat_map time_bytes r.1) (length c) g.0 whole ∙ rw b m,
          ),
        ),
    λ s.
        let m = made_from words tracks time crc parity label code kinds s.0 s.1 c (length c) s.2.2 in
        let f = made_fits _ _ s.0 (times_from s.1) c (length c) s.2.0 m.2 in
        (s.0, times_from s.1, c_composed_read true s.0 s.1 c (length c) log_room time_room s.2.0 s.2.2 (omega arith) (omega (arith, Times.times_number s.1))),
  )

  -- there is then only one such log, and one such run of times
  pub c_closed_one : (c log log' times times' : List ℕ) → ComposesFrom log times c → ComposesFrom log' times' c → (log ≡ log') × (times ≡ times')
  c_closed_one c log log' times times' s s' =
      let m = made_from words tracks time crc parity label code kinds log times c (length c) s.2 in
      let m' = made_from words tracks time crc parity label code kinds log' times' c (length c) s'.2 in
      let e = format.closed_one _ _ c log log' (times_from times) (times_from times') (s.0, m.2) (s'.0, m'.2) in
      (e.0, sym (Times.bytes_back times s.1 m.1) ∙ ap (flat_map time_bytes) e.1 ∙ Times.bytes_back times' s'.1 m'.1)

-- ---- `vin_compose`, `vin_read` and `vin_read_closed`: label 3 and code 0, so that all of the above holds of them at these numbers

module _ (words tracks time crc parity : ℕ) (kinds : List ℕ) where
  abbrev pub vin_compose : List ℕ → List ℕ → ℕ → Composed
  vin_compose = vin_compose_full words tracks time crc parity 3 0 kinds

  abbrev pub vin_read : Bool → List ℕ → ℕ → ℕ → Reading
  vin_read = vin_read_full words tracks time crc parity 3 0 kinds

  -- "Label 3 and code 0 reproduce today's bytes", and every refusal: they answer as before the plan had its last two lines (Before)
  pub c_composed_as_before : (log times : List ℕ) (room : ℕ) → vin_compose log times room ≡ was.composed_from words tracks time crc parity kinds log times room
  c_composed_as_before = composed_from_before words tracks time crc parity kinds

  pub c_read_as_before : (closed : Bool) (c : List ℕ) (log_room time_room : ℕ)
      → vin_read closed c log_room time_room ≡ was.reading_from closed words tracks time crc parity kinds c log_room time_room
  c_read_as_before = reading_from_before words tracks time crc parity kinds

-- ---- The second place of every other function is 0, as of the functions of the same names from Rattle (K8)

-- `vin_compose`, `vin_compose_full`, `vin_pick` and `vin_join`, whatever is to be made
pub c_made_second : (m : Composed) (r : Answer) (out out' : List ℕ) → Made m r out out' → r.second ≡ 0
c_made_second = format.made_second

-- `vin_shift`
pub c_shift_second : (log times : List ℕ) (by : ℤ) (room : ℕ) (r : Answer) (out out' row row' : List ℕ) → Shifted (shifted log times by room) r out out' row row'
    → r.second ≡ 0
c_shift_second log times by room r out out' row row' a = rw a.0 (shift_none log times by room)

-- `vin_profile`
pub c_profile_second : (log : List ℕ) (r : Answer) → Judged log r → r.second ≡ 0
c_profile_second log r j = rw j (profile_none (profiled log))

-- `vin_replay`, whatever is replayed
pub c_replay_second : (m : Replay) (r : Replayed) (out out' : List ℕ) → Replays m r out out' → r.second ≡ 0
c_replay_second m r out out' a = rw a.0 (replay_none m)
