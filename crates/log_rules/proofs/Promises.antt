-- What the user is promised of the calls on logs (document 02), as theorems over the definitions. The proofs stand in the modules under
-- Laws that each names.
use Rattle.std.specs.Prelude.{ℕ, ◌^◌, ◌≤◌, ◌<◌, ◌≡◌, List, [], ◌∷◌, map, length, take, true, false, ◌↔◌, ℤ, pos, ◌+ℤ◌}
use Rattle.std.proofs.Common.{sym, ◌∙◌}
use Rattle.format.specs.Lists.{Bytes, list}
use Rattle.format.specs.Log.{fault, log_of, on_no_plan, parsed, items}
use Rattle.format.specs.Compose.{made, refused}
use Rattle.log_rules.specs.Pick.{in_set, in_turn, keep, on_buses, picked, joined}
use Rattle.log_rules.specs.Laws.Logs.{LogOf}
use Rattle.log_rules.specs.Shift.{first_failing, in_limits, item_moves, moved, moved_item, moves, shifted, timeless}
use Rattle.log_rules.proofs.Laws.Pick as Pick
use Rattle.format.specs.declared.Answer.{Answer}
use Rattle.log_rules.specs.Laws.Shift as Shift
use Rattle.log_rules.specs.Laws.Shift.{ShiftOf}
use Rattle.format.specs.Group.{found}
use Rattle.format.specs.Read.{gives, refuses}
use Rattle.format.specs.Time.{time_end}
use Rattle.std.specs.Int.Bits.{bit_and}
use Rattle.format.specs.declared.Item.{Item}
use Rattle.log_rules.specs.Profile.{Judged, Rules, BreaksAt}
use Rattle.log_rules.specs.Replay.{Replay, ReplayOf, Replays, replayed}
use Rattle.log_rules.specs.Scripts.{PicksTo, JoinsTo, ShiftsTo}
use Rattle.log_rules.specs.Laws.Profile.Exactly as Profile
use Rattle.log_rules.specs.Laws.Replay.Accounts as Replaying
use Rattle.log_rules.proofs.Laws.Scripts.Calls as Scripts
use Rattle.log_rules.specs.declared.Replayed.{Replayed}

-- ---- K7: pick and join

-- "a set of bus codes": bit c for code c, so that the set of one code has that code of the sixteen, and no other
pub one_code : list (λ c. keep (in_set (2 ^ c)) (list (λ b. b) 0 16)) 0 16 ≡ list (λ c. c ∷ []) 0 16
one_code = Pick.one_code

-- "Picking takes a log and a set of bus codes and gives the log of exactly the items on those buses, in order."
pub picks : (log : List ℕ) (set room : ℕ) (out : List ℕ) → Bytes log → picked log set room ≡ made out
    → (is : List Item) × LogOf log is × LogOf out (keep (on_buses set) is)
picks log set room out bytes e =
    let p = Pick.pick_from log set room out bytes e in
    (p.0, p.1, Pick.pick_gives set room out p.1 e)

-- and it does so for every log, in the room of that log
pub pick_has_room : (log : List ℕ) (is : List Item) (set room : ℕ) → LogOf log is → length log ≤ room → picked log set room ≡ made (log_of (keep (on_buses set) is))
pick_has_room log is set room = Pick.pick_fits set room

-- "Refusals: 2 and 4 as composing finds them": a log that does not parse refuses picking with its fault
pub pick_refused : (log : List ℕ) (set room n p : ℕ) → parsed on_no_plan log ≡ fault n p → picked log set room ≡ refused n p
pick_refused = Pick.pick_refuses

-- "Joining gives the first log's items, then the second's."
pub joins : (first second : List ℕ) (room : ℕ) (out : List ℕ) → Bytes first → Bytes second → joined first second room ≡ made out
    → (is : List Item) × (js : List Item) × LogOf first is × LogOf second js × LogOf out (in_turn is js)
joins first second room out a b e =
    let j = Pick.join_from first second room out a b e in
    (j.0, j.1, j.2, j.3, Pick.join_gives room out j.2 j.3 e)

-- and for all logs that are not too long together, given room
pub join_has_room : (first second : List ℕ) (is js : List Item) (room : ℕ) → LogOf first is → LogOf second js
    → length (log_of (in_turn is js)) ≤ 32768 → length (log_of (in_turn is js)) ≤ room → joined first second room ≡ made (log_of (in_turn is js))
join_has_room first second is js room = Pick.join_fits room

-- "first log before second"
pub join_refused_first : (first second : List ℕ) (room n p : ℕ) → parsed on_no_plan first ≡ fault n p → joined first second room ≡ refused n p
join_refused_first = Pick.join_refuses_first

pub join_refused_second : (first second : List ℕ) (is : List Item) (room n p : ℕ) → LogOf first is → parsed on_no_plan second ≡ fault n p
    → joined first second room ≡ refused n p
join_refused_second first second is room n p = Pick.join_refuses_second second room n p

-- "then 6": "output too short, or a log above 32,768", at the true length
pub join_refused_long : (first second : List ℕ) (is js : List Item) (room : ℕ) → LogOf first is → LogOf second js → 32768 < length (log_of (in_turn is js))
    → joined first second room ≡ refused 6 (length (log_of (in_turn is js)))
join_refused_long first second is js room = Pick.join_refuses_long room

-- ---- K11: the one_bus test profile

-- the contract has one answer
pub judged_one : (log : List ℕ) (r r' : Answer) → Judged log r → Judged log r' → r ≡ r'
judged_one log r r' j j' = j ∙ sym j'

-- "The yes is given exactly then": number 0 where the log has no fault of its own and its items keep each of the rules (`Rules`)
pub yes_exactly : (log : List ℕ) (r : Answer) → Judged log r → (r.number ≡ 0) ↔ ((is : List Item) × (parsed on_no_plan log ≡ items is) × Rules is)
yes_exactly log r j = (λ e. (Profile.yes_exactly log).0 ((Profile.number_yes log r j).0 e), λ z. (Profile.number_yes log r j).1 ((Profile.yes_exactly log).1 z))

-- "the empty log passes"
pub empty_keeps : Rules []
empty_keeps = Profile.empty_keeps

-- "then 18 at the first bit of the earliest item that breaks a rule": those before it keep the rules, with it they do not (`BreaksAt`)
pub breaks_exactly : (log : List ℕ) (r : Answer) (q : ℕ) → Judged log r
    → ((r.number ≡ 18) × (r.place ≡ q)) ↔ ((is : List Item) × (parsed on_no_plan log ≡ items is) × BreaksAt is q)
breaks_exactly log r q j =
    (λ e. (Profile.breaks_exactly log q).0 ((Profile.number_18 log r q j).0 e), λ z. (Profile.number_18 log r q j).1 ((Profile.breaks_exactly log q).1 z))

-- ---- K13: replay the front-end buffer

-- the contract has one answer, and one content of the lent output
pub replays_one : (m : Replay) (r r' : Replayed) (out x y : List ℕ) → Replays m r out x → Replays m r' out y → (r ≡ r') × (x ≡ y)
replays_one m r r' out x y a b = (a.0 ∙ sym b.0, a.1 ∙ sym b.1)

-- a refusal writes nothing
pub replay_refused : (log events : List ℕ) (capacity slots : ℕ) (r : Replayed) (out out' : List ℕ)
    → Replays (replayed log events capacity slots (length out)) r out out' → (r.number ≡ 0 → ⊥) → out' ≡ out
replay_refused = Replaying.refused_writes_nothing

-- "The result is a log of what was stored, marks included, and words sent, items lost, words held. Proved: items that arrived are those
-- stored plus those lost; the marks' numbers plus the losses not yet marked are all losses; words stored are those sent and those held."
-- (`ReplayOf`: all_items, all_losses, all-words; and room, that no more is held than the capacity)
pub replay_accounts : (log events : List ℕ) (capacity slots : ℕ) (r : Replayed) (out out' : List ℕ) → Bytes log
    → Replays (replayed log events capacity slots (length out)) r out out' → r.number ≡ 0
    → ReplayOf log events capacity slots (take r.bytes out') r.sent r.lost r.held
replay_accounts = Replaying.number_accounts

-- ---- K9: a wrong clock at the aircraft

-- "all time tags and frame times moved by a signed number of microseconds": the log that was lent has items, the shift is within its limits, each tag
-- and each frame time may be moved, the new log is that of the items moved, in their order, and the new times are the old ones moved (`ShiftOf`)
pub shifts : (log times : List ℕ) (by : ℤ) (room : ℕ) (out times' : List ℕ) → Bytes log → shifted log times by room ≡ gives out times'
    → (is : List Item) × ShiftOf log times by is out times'
shifts = Shift.shift_from

-- a time that may be moved is moved to the sum, which is a time
pub shift_adds : (by : ℤ) (t : ℕ) → moves by t ≡ true → (pos (moved by t) ≡ pos t +ℤ by) × (moved by t < time_end)
shift_adds = Shift.moved_sum

-- ".. and log length stay."
pub shift_keeps_length : (log times : List ℕ) (by : ℤ) (room : ℕ) (out times' : List ℕ) → Bytes log → shifted log times by room ≡ gives out times'
    → (length out ≡ length log) × (length times' ≡ length times)
shift_keeps_length = Shift.shift_length

-- "Response times, item order .. stay": what is not a time is the same, item by item
pub shift_keeps_rest : (by : ℤ) (is : List Item) → map timeless (map (moved_item by) is) ≡ map timeless is
shift_keeps_rest = Shift.rest_stays

-- "Refusals: 2, 4 as in composing; 17 for a shift out of limits (place 0), a tag that would fall below zero or reach 42,949,672,960,000 (its item's first
-- bit)", whatever the frame times are
pub shift_refused : (log times : List ℕ) (by : ℤ) (room n p : ℕ) → parsed on_no_plan log ≡ fault n p → shifted log times by room ≡ refuses n p 0
shift_refused = Shift.shift_refuses

pub shift_out_of_limits : (log times : List ℕ) (is : List Item) (by : ℤ) (room : ℕ) → LogOf log is → in_limits by ≡ false → shifted log times by room ≡ refuses 17 0 0
shift_out_of_limits log times is by room = Shift.shift_beyond times by room

pub shift_refused_tag : (log times : List ℕ) (is : List Item) (by : ℤ) (room p : ℕ) → LogOf log is → in_limits by ≡ true
    → first_failing (item_moves by) 17 0 is ≡ found 17 p → shifted log times by room ≡ refuses 17 p 0
shift_refused_tag log times is by room p = Shift.shift_unmovable times by room p

-- ---- K12: laws our scripts lean on, "where every call named succeeds" (`PicksTo`, `JoinsTo`, `ShiftsTo`: a call, and the bytes it gave)

-- "Picking from a joined log is joining the picked logs."
pub pick_of_join : {first second both out a b out' : List ℕ} {set : ℕ} → Bytes first → Bytes second
    → JoinsTo first second both → PicksTo both set out
    → PicksTo first set a → PicksTo second set b → JoinsTo a b out' → out ≡ out'
pick_of_join = Scripts.pick_of_join

-- "Picking twice is picking the common buses."
pub pick_twice : {log once twice out : List ℕ} {s t : ℕ} → Bytes log
    → PicksTo log s once → PicksTo once t twice → PicksTo log (bit_and s t) out → twice ≡ out
pick_twice = Scripts.pick_twice

-- "Joining is associative,"
pub join_associates : {a b c ab abc bc abc' : List ℕ} → Bytes a → Bytes b → Bytes c
    → JoinsTo a b ab → JoinsTo ab c abc → JoinsTo b c bc → JoinsTo a bc abc' → abc ≡ abc'
join_associates = Scripts.join_associates

-- "and the empty log on either side changes nothing."
pub join_empty : {log out : List ℕ} → Bytes log → JoinsTo log (0 ∷ []) out → out ≡ log
join_empty = Scripts.join_empty

pub empty_join : {log out : List ℕ} → Bytes log → JoinsTo (0 ∷ []) log out → out ≡ log
empty_join = Scripts.empty_join

-- "Shifting by a, then by b, is shifting by a + b,": the log and the time row
pub shift_twice : {log times l1 t1 l2 t2 l3 t3 : List ℕ} {a b : ℤ} → Bytes log
    → ShiftsTo log times a l1 t1 → ShiftsTo l1 t1 b l2 t2 → ShiftsTo log times (a +ℤ b) l3 t3 → (l2 ≡ l3) × (t2 ≡ t3)
shift_twice = Scripts.shift_twice

-- and more: where the two shifts succeed and a + b is within the limits, the one shift succeeds, in the room of the log
pub shift_once : {log times l1 t1 l2 t2 : List ℕ} {a b : ℤ} → Bytes log → ShiftsTo log times a l1 t1 → ShiftsTo l1 t1 b l2 t2
    → (room : ℕ) → in_limits (a +ℤ b) ≡ true → length log ≤ room → shifted log times (a +ℤ b) room ≡ gives l2 t2
shift_once = Scripts.shift_once

-- "and by 0 changes nothing."
pub shift_none : {log times out times' : List ℕ} → Bytes log → ShiftsTo log times (pos 0) out times' → (out ≡ log) × (times' ≡ times)
shift_none = Scripts.shift_none

-- "Picking and shifting may change places.": the time row is shifted once, on either side
pub pick_shift : {log times p x t q y t' : List ℕ} {set : ℕ} {by : ℤ} → Bytes log
    → PicksTo log set p → ShiftsTo p times by x t
    → ShiftsTo log times by q t' → PicksTo q set y → (x ≡ y) × (t ≡ t')
pick_shift = Scripts.pick_shift
